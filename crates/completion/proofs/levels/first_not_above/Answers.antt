-- `completion::levels::first_not_above` meets its contract.
-- Assumes nothing.
use native.Mathlib.Omega.{arith}
use mathlib.Core.Path.{sym, ap, ◌∙◌}
use mathlib.Core.Bool.{not}
use Rattle.rule_tables.proofs.Fronts.{left_behind, shorter, some_left, none-left}
use Rattle.rule_tables.proofs.Walking.{rule-stop, rule-go, rule_end, sound-size, sound-rest}
use Rattle.completion.proofs.levels.first_not_above.Goals as goal

pub invariant_of-rule : goal.invariant_of-rule
invariant_of-rule c =
    let ws = c.loop-rest.rest.now in
    record { whole = sound-size ws (some_left ws c.is_empty.ensures c.loop-rest-test.true) c.loop-rest.invariant.1 }

pub returns-then-not-stands_above : goal.returns-then-not-stands_above
returns-then-not-stands_above c =
    let ws = c.loop-rest.rest.now in
    rule-stop _ _ ws (some_left ws c.is_empty.ensures c.loop-rest-test.true) c.loop-rest.invariant.2
    (ap not (sym c.stands_above.ensures ∙ c.if-not-stands_above.true))

pub loop-rest-preserved : goal.loop-rest-preserved
loop-rest-preserved c =
    let ws = c.loop-rest.rest.now in
    let h = some_left ws c.is_empty.ensures c.loop-rest-test.true in
    rw (left_behind ws _ c.rule_size-size.ensures) (
      omega (arith, shorter ws h),
      sound-rest ws h c.loop-rest.invariant.1,
      rule-go _ _ ws h c.loop-rest.invariant.2 (ap not (sym c.stands_above.ensures ∙ c.if-not-stands_above.false)),
      omega (arith, shorter ws h),
    )

pub returns : goal.returns
returns c =
    let ws = c.loop-rest.rest.now in
    rule_end _ _ ws (none-left ws c.is_empty.ensures c.loop-rest-test.false) c.loop-rest.invariant.2
