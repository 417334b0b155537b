-- `answer_sets::pending::scan` meets its contract.
-- Assumes nothing.
use mathlib.Core.Logic.{inl, inr}
use native.Mathlib.Omega.{arith}
use Rattle.rule_tables.proofs.Fronts.{left_behind, some_left, none-left}
use Rattle.answer_sets.proofs.Starts.{scan-stop, scan-turn, scan-unbroken, scan-done}
use Rattle.answer_sets.proofs.pending.scan.Goals as goal
use Rattle.answer_sets.proofs.pending.scan.Goals.{then-rule_applies+else-not-head_in, else-rule_applies}

pub returns-then-not-head_in : goal.returns-then-not-head_in
returns-then-not-head_in c =
    let h = some_left c.loop-rest.rest.now c.is_empty.ensures c.loop-rest-test.true in
    let found =
    scan-stop _ _ _ _ _ _ _ _ c.loop-rest.invariant h _ _ c.rule_applies.ensures
    c.if-rule_applies.true (rw c.from.ensures at c.head_in.ensures) c.if-not-head_in.true in
    record { lowest_broken = found; begun = tt }

pub loop-rest-preserved : goal.loop-rest-preserved
loop-rest-preserved c =
    let ws = c.loop-rest.rest.now in
    let h = some_left ws c.is_empty.ensures c.loop-rest-test.true in
    let turn =
    scan-turn _ _ _ _ ws c.loop-rest.at c.loop-rest.rule c.loop-rest.count c.loop-rest.invariant h
    (λ k. omega (arith, c.type_inv.table k)) c.rule_applies.ensures c.if-rule_applies.starts c.if-rule_applies.count in
    rw (left_behind ws _ c.rule_size-size.ensures, c.rule_size-size.ensures)
    (elim c.if-rule_applies.branch [
      | then-rule_applies+else-not-head_in w ↦
          let head = rw w.from.ensures at w.head_in.ensures in
          turn (inl (w.if-rule_applies.true, (w.head_in.result, head, w.if-not-head_in.false), w.starts-is, w.count-is))
      | else-rule_applies w ↦ turn (inr (w.if-rule_applies.false, w.starts-is, w.count-is))
    ])

pub returns : goal.returns
returns c =
    let h = none-left c.loop-rest.rest.now c.is_empty.ensures c.loop-rest-test.false in
    record {
      lowest_broken = scan-unbroken _ _ _ _ _ _ _ _ c.loop-rest.invariant h;
      begun = scan-done _ _ _ _ _ _ _ _ c.loop-rest.invariant h;
    }
