-- `answer_sets::pending::first_outside` meets its contract.
-- Assumes nothing.
use mathlib.Core.Path.{◌≡◌}
use lib.ListN.{drop}
use Rattle.literal_sets.specs.Marks.{marked}
use Rattle.answer_sets.specs.Internal.{outside}
use Rattle.answer_sets.proofs.pending.first_outside.Given as goal

abbrev pub invariant-loop-part : goal.invariant-loop-part
invariant-loop-part l = outside (marked l.marks) (drop l.part-index l.parts) ≡ outside (marked l.marks) l.parts
