-- The library's tests and lowering of bytes are those of the definitions.
-- Assumes nothing.
use mathlib.Core.Path.{◌≡◌, refl, sym, ◌∙◌, ap}
use mathlib.Core.Bool.{Bool, true, false, ◌||◌}
use mathlib.Core.List.{List, [], ◌∷◌, map}
use Prim.Native.Nat.{ℕ}
use native.Mathlib.Omega.{arith}
use lib.Dec.{eqb}
use lib.ListN.{length, length-map}
use Rattle.std.specs.Char.{to_ascii_lowercase, is_ascii_alphanumeric}
use Rattle.std.specs.Prelude.{IsTrue, ◌↔◌}
use Rattle.std.proofs.lemmas.Bool.Decides.{nat_tests}
use Rattle.basics.proofs.Tests.{not-both, false_of_not}
use Rattle.spelling.specs.Letters.{is_capital, is_small, is_digit, is_name_byte, lowered}
use Rattle.spelling.specs.Spelling.{same_name}
use Rattle.spelling.proofs.Comparing.{same_refl, same-equal}

-- the order of the tests does not matter
reordered : (capital small digit other : Bool) → ((digit || capital) || small || other) ≡ ((capital || small) || digit || other)
reordered true true true o = refl
reordered true true false o = refl
reordered true false true o = refl
reordered true false false o = refl
reordered false true true o = refl
reordered false true false o = refl
reordered false false true o = refl
reordered false false false o = refl

pub name-byte : (b : ℕ) → (is_ascii_alphanumeric b || eqb b 95) ≡ is_name_byte b
name-byte b = reordered (is_capital b) (is_small b) (is_digit b) (eqb b 95)

ascii-lowered : (b : ℕ) → to_ascii_lowercase b ≡ lowered b
ascii-lowered b = grind (arith, nat_tests)

all-lowered : (xs : List ℕ) → map to_ascii_lowercase xs ≡ map lowered xs
all-lowered [] = refl
all-lowered (x ∷ xs) = rw (ascii-lowered x, all-lowered xs)

-- runs that the library takes for the same in any case are the same names
pub same-in-any-case : (r : Bool) (xs ys : List ℕ) → IsTrue r ↔ (map to_ascii_lowercase xs ≡ map to_ascii_lowercase ys)
    → r ≡ same_name xs ys
same-in-any-case r xs ys h = go (same_name xs ys) refl
  where
    go : (b : Bool) → same_name xs ys ≡ b → r ≡ b
    go true e = h.1 (all-lowered xs ∙ same-equal (map lowered xs) (map lowered ys) e ∙ sym (all-lowered ys))
    go false e =
        false_of_not r (λ t.
        let equal : map lowered xs ≡ map lowered ys = sym (all-lowered xs) ∙ h.0 t ∙ all-lowered ys in
        not-both (rw equal (same_refl (map lowered ys))) e)

-- names of different lengths are different
pub other-length : (xs ys : List ℕ) → (length xs ≡ length ys → ⊥) → false ≡ same_name xs ys
other-length xs ys h = go (same_name xs ys) refl
  where
    go : (b : Bool) → same_name xs ys ≡ b → false ≡ b
    go false e = refl
    go true e =
        let equal = same-equal (map lowered xs) (map lowered ys) e in
        absurd (h (sym (length-map xs lowered) ∙ ap length equal ∙ length-map ys lowered))
