-- Runs of bytes compared byte by byte, each byte by what f makes of it.
-- Assumes nothing.
use mathlib.Core.Path.{◌≡◌, refl}
use mathlib.Core.Bool.{true}
use mathlib.Core.List.{List, [], ◌∷◌}
use Prim.Native.Nat.{ℕ}
use borrow.Author.Tests.{eq-eqb, eqb-true}
use lib.Dec.{eqb}
use Rattle.basics.proofs.Tests.{and-iff, not-both}
use Rattle.spelling.specs.Letters.{same}

-- runs are the same exactly if they are equal
pub same_refl : (xs : List ℕ) → same xs xs ≡ true
same_refl [] = refl
same_refl (x ∷ xs) = rw (eq-eqb x x refl) (same_refl xs)

pub same-equal : (xs ys : List ℕ) → same xs ys ≡ true → xs ≡ ys
same-equal [] [] e = refl
same-equal [] (y ∷ ys) e = absurd (not-both e refl)
same-equal (x ∷ xs) [] e = absurd (not-both e refl)
same-equal (x ∷ xs) (y ∷ ys) e =
    let (here, later) = (and-iff (eqb x y) (same xs ys)).0 e in
    rw (eqb-true x y here, same-equal xs ys later)
