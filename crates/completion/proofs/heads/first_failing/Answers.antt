-- `completion::heads::first_failing` meets its contract.
-- Assumes nothing.
use mathlib.Core.Path.{sym, ◌∙◌}
use Rattle.basics.proofs.Loops.{range-go}
use Rattle.completion.proofs.heads.first_failing.Goals as goal

pub loop-code-preserved : goal.loop-code-preserved
loop-code-preserved c =
    range-go _ _ _ c.loop-code-test.true c.loop-code.invariant (sym c.literal_fails.ensures ∙ c.if-literal_fails.false)
