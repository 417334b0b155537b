-- The horizon's spelling, as the code tests it; a horizon that is read is at most 30.
-- Assumes nothing.
use mathlib.Core.Path.{◌≡◌, refl}
use mathlib.Core.Bool.{Bool, true, false, cond, not, ◌&&◌}
use mathlib.Core.List.{List, [], ◌∷◌}
use mathlib.Core.Option.{none, some}
use Prim.Native.Nat.{ℕ, ◌+◌, ◌-◌, ◌*◌, ◌≤◌}
use native.Mathlib.Omega.{arith}
use borrow.Author.Tests.{leb-true}
use Rattle.basics.proofs.Tests.{and-iff}
use lib.Dec.{eqb, leb}
use lib.ListN.{length, get_or}
use Rattle.spelling.specs.Letters.{is_digit}
use Rattle.line_values.specs.HorizonText.{in_horizon, horizon_of, two_digits}

pub horizon-one : (xs : List ℕ) → length xs ≡ 1 → horizon_of xs ≡ cond (is_digit (get_or xs 0 0)) (in_horizon (get_or xs 0 0 - 48)) none
unfolding horizon_of
horizon-one [] h = absurd (omega arith)
horizon-one (a ∷ []) h = refl
horizon-one (a ∷ b ∷ xs) h = absurd (omega arith)

pub horizon-two : (xs : List ℕ) → length xs ≡ 2 → horizon_of xs ≡ two_digits (get_or xs 0 0) (get_or xs 1 0)
unfolding horizon_of
horizon-two [] h = absurd (omega arith)
horizon-two (a ∷ []) h = absurd (omega arith)
horizon-two (a ∷ b ∷ []) h = refl
horizon-two (a ∷ b ∷ c ∷ xs) h = absurd (omega arith)

pub horizon-other : (xs : List ℕ) → (length xs ≡ 1 → ⊥) → (length xs ≡ 2 → ⊥) → horizon_of xs ≡ none
unfolding horizon_of
horizon-other [] h k = refl
horizon-other (a ∷ []) h k = absurd (h refl)
horizon-other (a ∷ b ∷ []) h k = absurd (k refl)
horizon-other (a ∷ b ∷ c ∷ xs) h k = refl

-- a horizon's spelling by its length
pub ruleset by_length = (horizon-one, horizon-two, horizon-other)

-- a horizon that is read is at most 30
in-30 : (b : Bool) (T t : ℕ) → (leb 1 T && leb T 30) ≡ b → cond b (some T) none ≡ some t → t ≤ 30
in-30 true T t e h =
    let same : T ≡ t = cc in
    omega (arith, leb-true T 30 ((and-iff (leb 1 T) (leb T 30)).0 e).1)
in-30 false T t e h = let z : ◌≡◌ {A = ℕ} 0 1 = cc in absurd (omega arith)

digits-30 : (b : Bool) (T t : ℕ) → cond b (in_horizon T) none ≡ some t → t ≤ 30
digits-30 true T t h = in-30 (leb 1 T && leb T 30) T t refl h
digits-30 false T t h = let z : ◌≡◌ {A = ℕ} 0 1 = cc in absurd (omega arith)

pub horizon-30 : (xs : List ℕ) (t : ℕ) → horizon_of xs ≡ some t → t ≤ 30
unfolding horizon_of
horizon-30 [] t h = let z : ◌≡◌ {A = ℕ} 0 1 = cc in absurd (omega arith)
horizon-30 (a ∷ []) t h = digits-30 (is_digit a) (a - 48) t h
horizon-30 (a ∷ b ∷ []) t h = digits-30 (is_digit a && is_digit b && not (eqb a 48)) (10 * (a - 48) + (b - 48)) t h
horizon-30 (a ∷ b ∷ c ∷ xs) t h = let z : ◌≡◌ {A = ℕ} 0 1 = cc in absurd (omega arith)
