-- `literal_sets::marks::none_in` meets its contract.
-- Assumes nothing.
use mathlib.Core.Path.{◌≡◌}
use lib.ListN.{drop}
use Rattle.basics.specs.Search.{all}
use mathlib.Core.Bool.{not}
use Rattle.literal_sets.specs.Marks.{marked}
use Rattle.literal_sets.proofs.marks.none_in.Given as goal

abbrev pub invariant-loop-part : goal.invariant-loop-part
invariant-loop-part l =
    all (λ c. not (marked l.marks c)) (drop l.part-index l.parts) ≡ all (λ c. not (marked l.marks c)) l.parts
