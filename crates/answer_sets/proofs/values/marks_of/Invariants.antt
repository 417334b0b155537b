-- `answer_sets::values::marks_of` meets its contract.
-- Assumes nothing.
use mathlib.Core.Path.{◌≡◌}
use mathlib.Core.Bool.{◌&&◌}
use Prim.Native.Nat.{ℕ, ◌*◌}
use lib.Dec.{ltb}
use lib.ListN.{length}
use Rattle.literal_sets.specs.Marks.{marked}
use Rattle.logic_programs.specs.Literals.{set_of}
use Rattle.answer_sets.proofs.values.marks_of.Given as goal

abbrev pub invariant-loop-atom : goal.invariant-loop-atom
invariant-loop-atom l =
    (length l.marks ≡ 32) × ((k : ℕ) → marked l.marks k ≡ (ltb k (2 * l.atom) && set_of l.values k))
