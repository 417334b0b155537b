-- Facts of every literal of a list, and what the tests on such lists say.
-- Assumes nothing.
use mathlib.Core.Path.{◌≡◌, refl}
use mathlib.Core.Logic.{◌↔◌}
use mathlib.Core.Bool.{Bool, true, false, not, ◌&&◌, ◌||◌}
use mathlib.Core.List.{List, [], ◌∷◌}
use Prim.Native.Nat.{ℕ}
use Rattle.basics.specs.Search.{all}
use Rattle.basics.proofs.Tests.{all-each}
use Rattle.logic_programs.specs.Literals.{Lits}
use Rattle.logic_programs.specs.AnswerSets.{meets, Within, Subset}

pub all-within : (X : Lits) (cs : List ℕ) → all X cs ≡ true ↔ Within cs X
all-within X cs = all-each X cs

not-or : (a b : Bool) → (not a && not b) ≡ not (a || b)
not-or true b = refl
not-or false b = refl

pub all-not-meets : (X : Lits) (cs : List ℕ) → all (λ c. not (X c)) cs ≡ not (meets cs X)
all-not-meets X [] = refl
all-not-meets X (c ∷ cs) = rw (all-not-meets X cs) (not-or (X c) (meets cs X))

pub within-subset : {Y Z : Lits} → Subset Y Z → (cs : List ℕ) → Within cs Y → Within cs Z
within-subset h [] w = tt
within-subset h (c ∷ cs) w = (h c w.0, within-subset h cs w.1)
