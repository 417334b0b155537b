-- Stores from a list's first place on, as far as it goes.
-- Assumes nothing.
use mathlib.Core.Path.{◌≡◌, refl}
use mathlib.Core.List.{List, [], ◌∷◌, ◌++◌}
use Prim.Native.Nat.{ℕ, zero, suc, ◌≤◌, ◌<◌}
use native.Mathlib.Omega.{arith}
use lib.ListN.{length, take, drop, set}
use lib.Seq.{sets}

none_stored : (i : ℕ) (xs : List ℕ) → sets [] i xs ≡ []
none_stored i [] = refl
none_stored i (x ∷ xs) = none_stored (suc i) xs

behind_first : (a : ℕ) (l : List ℕ) (i : ℕ) (xs : List ℕ) → sets (a ∷ l) (suc i) xs ≡ a ∷ sets l i xs
behind_first a l i [] = refl
behind_first a l i (x ∷ xs) = behind_first a (set l i x) (suc i) xs

-- m is the length of the shorter list
pub stored-front : (l xs : List ℕ) (m : ℕ) → m ≤ length l → m ≤ length xs → (m < length xs → m ≡ length l)
    → sets l 0 xs ≡ take m xs ++ drop m l
stored-front l [] zero a b c = refl
stored-front l [] (suc m) a b c = absurd (omega arith)
stored-front [] (x ∷ xs) zero a b c = none_stored 0 (x ∷ xs)
stored-front [] (x ∷ xs) (suc m) a b c = absurd (omega arith)
stored-front (y ∷ l) (x ∷ xs) zero a b c = absurd (omega (arith, c (omega arith)))
stored-front (y ∷ l) (x ∷ xs) (suc m) a b c =
    rw (behind_first x l 0 xs, stored-front l xs m (omega arith) (omega arith) (λ h. omega (arith, c (omega arith)))) refl
