-- `try_laws` meets its contract. The loop's invariant: the lowest law that contradicts is the lowest of those not yet passed, and what
-- is marked together with what the laws ahead cause is all that is to be marked.
-- Assumes nothing.
use mathlib.Core.Path.{◌≡◌}
use lib.ListN.{length}
use Rattle.law_effects.specs.Applying.{read}
use Rattle.causal_steps.proofs.Trying.{Ahead}
use Rattle.causal_steps.proofs.try_laws.Given as goal

abbrev pub invariant-loop-number : goal.invariant-loop-number
invariant-loop-number l =
    (length l.marks.marked ≡ 256)
    × Ahead l.step.fluents (read l.step.old.now) (read l.step.done.now) (read l.step.new.now) l.laws l.number l.marks.marked
