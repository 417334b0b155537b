-- `set_faults::first_unfounded` meets its contract.
-- Assumes nothing.
use mathlib.Core.Path.{◌≡◌}
use Prim.Native.Nat.{◌≤◌, ◌-◌}
use Rattle.basics.specs.Search.{first, range}
use Rattle.literal_sets.specs.Marks.{marked}
use Rattle.answer_set_theory.specs.Verdicts.{is_unfounded}
use Rattle.set_faults.proofs.first_unfounded.Given as goal

abbrev pub invariant-loop-code : goal.invariant-loop-code
invariant-loop-code l =
    (l.code ≤ l.codes)
    × (first (is_unfounded (marked l.x) (marked l.least)) l.code (range l.code (l.codes - l.code))
    ≡ first (is_unfounded (marked l.x) (marked l.least)) 0 (range 0 l.codes))

abbrev pub decreases-loop-code : goal.decreases-loop-code
decreases-loop-code l = l.codes - l.code
