-- 000's two examples: exactly the transitions that it prints are causally explained. (3) has 4, (4) has 6.
-- Assumes nothing.
use mathlib.Core.Path.{◌≡◌, refl}
use mathlib.Core.Logic.Iff
use mathlib.Core.Logic.{◌↔◌, ⊎_elim}
use mathlib.Core.Bool.{true}
use mathlib.Core.List.{List, [], ◌∷◌, Memᴰ}
use Prim.Native.Nat.{ℕ}
use lib.ListN.{length}
use Rattle.logic_programs.specs.Literals.{OneValue}
use Rattle.basics.specs.Search.{Each, tuples}
use Rattle.basics.proofs.Tests.{each_map}
use Rattle.basics.proofs.Lists.{chosen-iff, tuples-all}
use Rattle.action_language.specs.declared.Law.{Law}
use Rattle.transitions.specs.Meaning.{Path}
use Rattle.action_language.specs.Examples.{door_laws, water_laws}
use Rattle.causal_reading.specs.Verdicts.{Causal, contradicted, uncaused, path, causal_verdict}
use Rattle.worked_examples.specs.Examples.{is_path, paths}
use Rattle.worked_examples.specs.Transitions.{door_transitions, water_transitions}
use Rattle.correctness.proofs.Reading.{causal-iff}

is-path-iff : (v : Causal) → is_path v ≡ true ↔ v ≡ path
is-path-iff path = (λ e. refl, λ e. refl)
is-path-iff (contradicted t l) = (λ e. cc, λ e. cc)
is-path-iff (uncaused t f) = (λ e. cc, λ e. cc)

one_of : (v : ℕ) → OneValue v → Memᴰ v (1 ∷ 2 ∷ [])
one_of v o = ⊎_elim (λ (e : v ≡ 1). Memᴰ.head e) (λ (e : v ≡ 2). Memᴰ.tail (Memᴰ.head e)) o

-- the paths among all lists of one value for each of k atoms are those that the causal verdict chooses
listed : (n m T k : ℕ) (ls : List Law) (vs : List ℕ) → length vs ≡ k → Each OneValue vs
    → Path n m T ls vs ↔ Memᴰ vs (paths n m T ls (tuples (1 ∷ 2 ∷ []) k))
listed n m T k ls vs size one = (
  λ p. chosen.1 (tuples-all (1 ∷ 2 ∷ []) k vs size (each_map one_of vs one), passes.1 p),
  λ e. passes.0 (chosen.0 e).1,
)
  where
    chosen : Memᴰ vs (paths n m T ls (tuples (1 ∷ 2 ∷ []) k))
        ↔ (Memᴰ vs (tuples (1 ∷ 2 ∷ []) k) × (is_path (causal_verdict n m T ls vs) ≡ true))
    chosen = chosen-iff (λ us. is_path (causal_verdict n m T ls us)) (tuples (1 ∷ 2 ∷ []) k) vs

    passes : is_path (causal_verdict n m T ls vs) ≡ true ↔ Path n m T ls vs
    passes = Iff.trans (is-path-iff (causal_verdict n m T ls vs)) (causal-iff n m T ls vs)

door-listed : paths 1 1 1 door_laws (tuples (1 ∷ 2 ∷ []) 3) ≡ door_transitions
unfolding causal_verdict
door-listed = refl

water-listed : paths 2 1 1 water_laws (tuples (1 ∷ 2 ∷ []) 5) ≡ water_transitions
unfolding causal_verdict
water-listed = refl

pub door-transitions : (vs : List ℕ) → length vs ≡ 3 → Each OneValue vs → Path 1 1 1 door_laws vs ↔ Memᴰ vs door_transitions
door-transitions vs size one = rw door-listed at (listed 1 1 1 3 door_laws vs size one)

pub water-transitions : (vs : List ℕ) → length vs ≡ 5 → Each OneValue vs → Path 2 1 1 water_laws vs ↔ Memᴰ vs water_transitions
water-transitions vs size one = rw water-listed at (listed 2 1 1 5 water_laws vs size one)
