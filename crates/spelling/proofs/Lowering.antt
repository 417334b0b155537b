-- What lowering keeps: letters, name bytes and names stay what they are, and a byte that is no letter stays where it is.
-- Assumes nothing.
use mathlib.Core.Path.{◌≡◌, refl, sym, ap, subst, ◌∙◌}
use mathlib.Core.Bool.{Bool, true, false, cond}
use mathlib.Core.List.{List, [], ◌∷◌, map}
use Prim.Native.Nat.{ℕ, ◌+◌, ◌≤◌}
use native.Mathlib.Omega.{arith}
use borrow.Author.Tests.{leb-true, le-leb, lt-leb}
use lib.Dec.{leb}
use lib.ListN.{length-map}
use Rattle.basics.specs.Search.{all}
use Rattle.basics.proofs.Tests.{and-iff, not-both}
use Rattle.spelling.specs.Letters.{is_capital, is_letter, is_name_byte, lowered}
use Rattle.spelling.specs.Spelling.{starts_with_letter, is_name}

-- a byte and what it is lowered to: a capital and the byte 32 behind it, or the same byte
pub by-case : (P : ℕ → ℕ → Type 0) → ((b : ℕ) → 65 ≤ b → b ≤ 90 → P b (b + 32))
    → ((b : ℕ) → is_capital b ≡ false → P b b) → (b : ℕ) → P b (lowered b)
by-case P capital other b = go (is_capital b) refl
  where
    go : (c : Bool) → is_capital b ≡ c → P b (cond c (b + 32) b)
    go true e =
        let (low, high) = (and-iff (leb 65 b) (leb b 90)).0 e in
        capital b (leb-true 65 b low) (leb-true b 90 high)
    go false e = other b e

-- a capital and its small letter
module _ (b : ℕ) (low : 65 ≤ b) (high : b ≤ 90) where
  pub capital-letter : is_letter b ≡ true
  capital-letter = rw (le-leb 65 b low, le-leb b 90 high)

  no-capital : is_capital (b + 32) ≡ false
  no-capital = rw (le-leb 65 (b + 32) (omega arith), lt-leb (b + 32) 90 (omega arith))

  pub small-letter : is_letter (b + 32) ≡ true
  small-letter =
      rw (
        le-leb 65 (b + 32) (omega arith),
        lt-leb (b + 32) 90 (omega arith),
        le-leb 97 (b + 32) (omega arith),
        le-leb (b + 32) 122 (omega arith),
      )

pub lowered-letter : (b : ℕ) → is_letter (lowered b) ≡ is_letter b
lowered-letter =
    by-case (λ b l. is_letter l ≡ is_letter b) (λ b low high. small-letter b low high ∙ sym (capital-letter b low high)) (λ b e. refl)

-- a letter is a name byte
letter-byte : (b : ℕ) → is_letter b ≡ true → is_name_byte b ≡ true
letter-byte b e = rw e

pub lowered-name-byte : (b : ℕ) → is_name_byte (lowered b) ≡ is_name_byte b
lowered-name-byte =
    by-case (λ b l. is_name_byte l ≡ is_name_byte b)
    (λ b low high. letter-byte (b + 32) (small-letter b low high) ∙ sym (letter-byte b (capital-letter b low high))) (λ b e. refl)

pub lowered-again : (b : ℕ) → lowered (lowered b) ≡ lowered b
lowered-again = by-case (λ b l. lowered l ≡ l) (λ b low high. rw (no-capital b low high)) (λ b e. rw e)

-- a test that no letter passes tells nothing else of a byte that is lowered
pub lowered-outside : (p : ℕ → Bool) → ((x : ℕ) → is_letter x ≡ true → p x ≡ false) → (x : ℕ) → p (lowered x) ≡ p x
lowered-outside p None-passes =
    by-case (λ x l. p l ≡ p x)
    (λ x low high. None-passes (x + 32) (small-letter x low high) ∙ sym (None-passes x (capital-letter x low high))) (λ x e. refl)

-- such is the test for a byte that is no letter
pub no-letter : (b : ℕ) → is_letter b ≡ false → (x : ℕ) → is_letter x ≡ true → b ≡ x → ⊥
no-letter b apart x letter e = not-both letter (subst (λ y. is_letter y ≡ false) e apart)

-- runs

pub all-lowered-again : (xs : List ℕ) → map lowered (map lowered xs) ≡ map lowered xs
all-lowered-again [] = refl
all-lowered-again (x ∷ xs) = rw (lowered-again x, all-lowered-again xs)

starts-lowered : (xs : List ℕ) → starts_with_letter (map lowered xs) ≡ starts_with_letter xs
starts-lowered [] = refl
starts-lowered (x ∷ xs) = lowered-letter x

bytes-lowered : (xs : List ℕ) → all is_name_byte (map lowered xs) ≡ all is_name_byte xs
bytes-lowered [] = refl
bytes-lowered (x ∷ xs) = rw (lowered-name-byte x, bytes-lowered xs)

pub name-lowered : (xs : List ℕ) → is_name (map lowered xs) ≡ is_name xs
unfolding is_name
name-lowered xs =
    rw (starts-lowered xs, length-map xs lowered, bytes-lowered xs, all-lowered-again xs)

-- what is the same as a name is a name
pub name-same : (xs ys : List ℕ) → map lowered xs ≡ map lowered ys → is_name xs ≡ is_name ys
name-same xs ys e = sym (name-lowered xs) ∙ ap is_name e ∙ name-lowered ys
