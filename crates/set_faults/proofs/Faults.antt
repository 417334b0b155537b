-- Atoms with both values by their bytes, and literals outside a set that is the set itself.
-- Assumes nothing.
use mathlib.Core.Path.{◌≡◌, refl}
use mathlib.Core.Bool.{Bool, true, false, not, ◌&&◌, ◌||◌}
use mathlib.Core.List.{List, [], ◌∷◌}
use mathlib.Core.Option.{none}
use Prim.Native.Nat.{ℕ, zero, suc, ◌+◌, ◌*◌, ◌/◌, ◌%◌, ◌<◌}
use native.Mathlib.Nat.{add-zero}
use native.Mathlib.Omega.{arith}
use borrow.Author.Tests.{ne_eqb}
use lib.Dec.{eqb}
use lib.ListN.{length, get_or}
use Rattle.basics.specs.Search.{first, range}
use Rattle.logic_programs.specs.Literals.{Lits, set_of, holds_true, holds_false}
use Rattle.answer_set_theory.specs.Verdicts.{both_values, is_unfounded}

-- an atom has both values where its byte is 3
pub both_values-byte : (vs : List ℕ) (a : ℕ) → both_values (set_of vs) a ≡ eqb (get_or vs a 0) 3
unfolding set_of holds_true holds_false
both_values-byte vs a =
    let even : 2 * a % 2 ≡ 0 = omega arith in
    let own : 2 * a / 2 ≡ a = omega arith in
    let odd : (2 * a + 1) % 2 ≡ 1 = omega arith in
    let too : (2 * a + 1) / 2 ≡ a = omega arith in
    rw (even, own, odd, too) (three (get_or vs a 0))
  where
    three : (v : ℕ) → ((eqb v 1 || eqb v 3) && (eqb v 2 || eqb v 3)) ≡ eqb v 3
    three zero = refl
    three (suc zero) = refl
    three (suc (suc zero)) = refl
    three (suc (suc (suc zero))) = refl
    three (suc (suc (suc (suc v)))) =
        rw (ne_eqb (suc (suc (suc (suc v)))) 1 (λ e. omega arith), ne_eqb (suc (suc (suc (suc v)))) 3 (λ e. omega arith))

-- no literal of a set is outside that set itself
pub none-unfounded : (X : Lits) (k : ℕ) (cs : List ℕ) → none ≡ first (is_unfounded X X) k cs
none-unfounded X k [] = refl
none-unfounded X k (c ∷ cs) = rw (never (X c)) (none-unfounded X (suc k) cs)
  where
    never : (b : Bool) → (b && not b) ≡ false
    never true = refl
    never false = refl

-- a search over a list is one over its places
pub by_place : {A : Type 0} (d : A) (p : A → Bool) (q : ℕ → Bool) (k : ℕ) (xs : List A)
    → ((i : ℕ) → i < length xs → q (k + i) ≡ p (get_or xs i d)) → first p k xs ≡ first q k (range k (length xs))
by_place d p q k [] h = refl
by_place d p q k (x ∷ xs) h =
    let here : q k ≡ p x = rw (add-zero k) at (h 0 (omega arith)) in
    rw (here, by_place d p q (suc k) xs (λ i b. let e : suc k + i ≡ k + suc i = omega arith in rw e (h (suc i) (omega arith))))
