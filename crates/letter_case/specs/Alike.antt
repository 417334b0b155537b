-- Runs of bytes that differ in letter case alone. Written apart from the reader's lowering.
-- Assumes nothing.
use Rattle.std.specs.Prelude.{◌≡◌, List, [], ◌∷◌, ℕ, ◌+◌, ◌<◌}

-- a capital and its small letter: each is letter i of the 26, A is byte 65 and a is byte 97
abbrev pub CapitalOf : ℕ → ℕ → Type 0
CapitalOf x y = (i : ℕ) × (i < 26) × (x ≡ 65 + i) × (y ≡ 97 + i)

-- the same byte, or a capital and its small letter, either way round
pub data AlikeByte (x y : ℕ) : Type 0 where
  equal : x ≡ y → AlikeByte x y
  capital : CapitalOf x y → AlikeByte x y
  small : CapitalOf y x → AlikeByte x y

-- byte by byte
abbrev pub Alike : List ℕ → List ℕ → Type 0
Alike [] [] = Unit
Alike [] (y ∷ ys) = ⊥
Alike (x ∷ xs) [] = ⊥
Alike (x ∷ xs) (y ∷ ys) = AlikeByte x y × Alike xs ys

-- name by name
abbrev pub AlikeNames : List (List ℕ) → List (List ℕ) → Type 0
AlikeNames [] [] = Unit
AlikeNames [] (y ∷ ys) = ⊥
AlikeNames (x ∷ xs) [] = ⊥
AlikeNames (x ∷ xs) (y ∷ ys) = Alike x y × AlikeNames xs ys
