-- `completion::heads::held_heads` meets its contract.
-- Assumes nothing.
use mathlib.Core.Logic.{inl, inr}
use native.Mathlib.Omega.{arith}
use mathlib.Core.Path.{sym, ◌∙◌, fun_ext}
use mathlib.Core.Bool.{false, or-false}
use lib.ListN.{length-replicate}
use Rattle.basics.proofs.Stored.{get_d_replicate}
use Rattle.rule_tables.proofs.Fronts.{left_behind, shorter, some_left, none-left}
use Rattle.rule_tables.proofs.Walking.{sound-rest, sound-size, rules-end}
use Rattle.completion.proofs.Fronts.{held-turn}
use Rattle.completion.proofs.heads.held_heads.Goals as goal
use Rattle.completion.proofs.heads.held_heads.Goals.{then-body_holds, else-body_holds}

pub loop-rest-init : goal.loop-rest-init
loop-rest-init c = (
  omega arith,
  c.requires,
  rw c.no_heads-held.ensures (length-replicate 2049 false),
  λ k. rw (c.no_heads-held.ensures, get_d_replicate 2049 k false),
)

pub invariant_of-rule : goal.invariant_of-rule
invariant_of-rule c =
    let ws = c.loop-rest.rest.now in
    record { whole = sound-size ws (some_left ws c.is_empty.ensures c.loop-rest-test.true) c.loop-rest.invariant.1 }

pub loop-rest-preserved : goal.loop-rest-preserved
loop-rest-preserved c =
    let ws = c.loop-rest.rest.now in
    let h = some_left ws c.is_empty.ensures c.loop-rest-test.true in
    let at_mark = rw c.head.ensures.0 at c.mark_of-mark.ensures in
    let (_, sound, size, inv) = c.loop-rest.invariant in
    rw (left_behind ws _ c.rule_size-size.ensures)
    (elim c.if-body_holds.branch [
      | then-body_holds w ↦
          let turn =
          held-turn ws h sound _ c.loop-rest.held c.if-body_holds.held _ _ c.body_holds.ensures at_mark
          (inl (w.if-body_holds.true, w.held-is)) size inv in
          (omega (arith, shorter ws h), sound-rest ws h sound, turn.0, turn.1)
      | else-body_holds w ↦
          let turn =
          held-turn ws h sound _ c.loop-rest.held c.if-body_holds.held _ _ c.body_holds.ensures at_mark
          (inr (w.if-body_holds.false, w.held-is)) size inv in
          (omega (arith, shorter ws h), sound-rest ws h sound, turn.0, turn.1)
    ])

pub returns : goal.returns
returns c =
    let ws = c.loop-rest.rest.now in
    let end = rules-end ws (none-left ws c.is_empty.ensures c.loop-rest-test.false) in
    fun_ext (λ k. sym (or-false _) ∙ (rw end at (c.loop-rest.invariant.3 k)))
