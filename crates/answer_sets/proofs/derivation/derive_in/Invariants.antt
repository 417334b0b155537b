-- `answer_sets::derivation::derive_in` meets its contract.
-- Assumes nothing.
use mathlib.Core.Path.{◌≡◌}
use lib.ListN.{length}
use Rattle.literal_sets.specs.Marks.{marked}
use Rattle.answer_sets.proofs.Rounds.{Reached}
use Rattle.answer_sets.proofs.derivation.derive_in.Given as goal

abbrev pub invariant-loop-k : goal.invariant-loop-k
invariant-loop-k l =
    (length l.starts ≡ length l.initial.starts) × (length l.waits ≡ length l.initial.waits)
    × Reached l.table (marked l.x) l.starts l.waits l.count l.marks l.k
