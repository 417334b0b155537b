-- `literal_sets::marks::all_in` meets its contract.
-- Assumes nothing.
use mathlib.Core.Path.{◌≡◌}
use lib.ListN.{drop}
use Rattle.basics.specs.Search.{all}
use Rattle.literal_sets.specs.Marks.{marked}
use Rattle.literal_sets.proofs.marks.all_in.Given as goal

abbrev pub invariant-loop-part : goal.invariant-loop-part
invariant-loop-part l = all (marked l.marks) (drop l.part-index l.parts) ≡ all (marked l.marks) l.parts
