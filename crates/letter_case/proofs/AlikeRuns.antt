-- Runs of bytes that differ in letter case alone: what they are lowered to, and what they share.
-- Assumes nothing.
use mathlib.Core.Path.{◌≡◌, refl, sym, ap, ◌∙◌}
use mathlib.Core.Bool.{Bool, true, false, cond}
use mathlib.Core.List.{List, [], ◌∷◌, ◌++◌, map}
use Prim.Native.Nat.{ℕ, suc, ◌+◌, ◌-◌, ◌≤◌}
use native.Mathlib.Omega.{arith}
use borrow.Author.Tests.{le-leb, lt-leb, leb-true, ne_eqb}
use lib.Dec.{eqb, leb}
use lib.ListN.{length}
use Rattle.basics.specs.Search.{Each}
use Rattle.basics.proofs.Tests.{and-iff}
use Rattle.spelling.specs.Letters.{is_capital, is_letter, lowered}
use Rattle.spelling.proofs.Lowering.{lowered-outside, no-letter}
use Rattle.letter_case.specs.Alike.{CapitalOf, AlikeByte, equal, capital, small, Alike, AlikeNames}

-- bytes

pair-lowered : (x y : ℕ) → CapitalOf x y → lowered x ≡ lowered y
pair-lowered x y (i, letter, upper, lower) =
    rw (le-leb 65 x (omega arith), le-leb x 90 (omega arith), le-leb 65 y (omega arith), lt-leb y 90 (omega arith)) (omega arith)

byte-lowered : (x y : ℕ) → AlikeByte x y → lowered x ≡ lowered y
byte-lowered x y (equal e) = ap lowered e
byte-lowered x y (capital p) = pair-lowered x y p
byte-lowered x y (small p) = sym (pair-lowered y x p)

capital-range : (x : ℕ) → is_capital x ≡ true → (65 ≤ x) × (x ≤ 90)
capital-range x e = let (low, high) = (and-iff (leb 65 x) (leb x 90)).0 e in (leb-true 65 x low, leb-true x 90 high)

byte-alike : (x y : ℕ) → lowered x ≡ lowered y → AlikeByte x y
byte-alike x y = go (is_capital x) (is_capital y) refl refl
  where
    go : (b c : Bool) → is_capital x ≡ b → is_capital y ≡ c → cond b (x + 32) x ≡ cond c (y + 32) y → AlikeByte x y
    go true true is_x is_y e = equal (omega arith)
    go true false is_x is_y e = let r = capital-range x is_x in capital (x - 65, omega arith, omega arith, omega arith)
    go false true is_x is_y e = let r = capital-range y is_y in small (y - 65, omega arith, omega arith, omega arith)
    go false false is_x is_y e = equal e

-- runs of bytes, and names

pub lowers : (xs ys : List ℕ) → Alike xs ys → map lowered xs ≡ map lowered ys
lowers [] [] a = refl
lowers [] (y ∷ ys) a = absurd a
lowers (x ∷ xs) [] a = absurd a
lowers (x ∷ xs) (y ∷ ys) a = rw (byte-lowered x y a.0, lowers xs ys a.1)

pub alike_of : (xs ys : List ℕ) → map lowered xs ≡ map lowered ys → Alike xs ys
alike_of [] [] e = tt
alike_of [] (y ∷ ys) e = let z = ap length e in absurd (omega arith)
alike_of (x ∷ xs) [] e = let z = ap length e in absurd (omega arith)
alike_of (x ∷ xs) (y ∷ ys) e = (byte-alike x y cc, alike_of xs ys cc)

pub names-lower : (names names' : List (List ℕ)) → AlikeNames names names' → map (map lowered) names ≡ map (map lowered) names'
names-lower [] [] a = refl
names-lower [] (y ∷ ys) a = absurd a
names-lower (x ∷ xs) [] a = absurd a
names-lower (x ∷ xs) (y ∷ ys) a = rw (lowers x y a.0, names-lower xs ys a.1)

pub alike_refl : (xs : List ℕ) → Alike xs xs
alike_refl [] = tt
alike_refl (x ∷ xs) = (equal refl, alike_refl xs)

pub names-refl : (names : List (List ℕ)) → AlikeNames names names
names-refl [] = tt
names-refl (x ∷ xs) = (alike_refl x, names-refl xs)

-- as long, the same at each byte that is no letter, and so are runs put together

pub alike-length : (xs ys : List ℕ) → Alike xs ys → length xs ≡ length ys
alike-length [] [] a = refl
alike-length [] (y ∷ ys) a = absurd a
alike-length (x ∷ xs) [] a = absurd a
alike-length (x ∷ xs) (y ∷ ys) a = ap suc (alike-length xs ys a.1)

pub alike-lacks : (b : ℕ) → is_letter b ≡ false → (xs ys : List ℕ) → Alike xs ys → Each (λ x. eqb b x ≡ false) xs
    → Each (λ y. eqb b y ≡ false) ys
alike-lacks b apart [] [] a h = tt
alike-lacks b apart [] (y ∷ ys) a h = absurd a
alike-lacks b apart (x ∷ xs) [] a h = absurd a
alike-lacks b apart (x ∷ xs) (y ∷ ys) a h =
    (sym (kept y) ∙ ap (eqb b) (sym (byte-lowered x y a.0)) ∙ kept x ∙ h.0, alike-lacks b apart xs ys a.1 h.1)
  where
    kept : (z : ℕ) → eqb b (lowered z) ≡ eqb b z
    kept = lowered-outside (eqb b) (λ z letter. ne_eqb b z (no-letter b apart z letter))

pub alike-append : (xs ys zs ws : List ℕ) → Alike xs ys → Alike zs ws → Alike (xs ++ zs) (ys ++ ws)
alike-append [] [] zs ws a c = c
alike-append [] (y ∷ ys) zs ws a c = absurd a
alike-append (x ∷ xs) [] zs ws a c = absurd a
alike-append (x ∷ xs) (y ∷ ys) zs ws a c = (a.0, alike-append xs ys zs ws a.1 c)
