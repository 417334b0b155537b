-- The bytes that a name may have, lowering, and runs of the same bytes.
-- Assumes nothing.
use Rattle.std.specs.Prelude.{Bool, true, false, cond, ◌&&◌, ◌||◌, List, [], ◌∷◌, ℕ, ◌+◌, eqb, leb}

-- A to Z
abbrev pub is_capital : ℕ → Bool
is_capital b = leb 65 b && leb b 90

-- a to z
abbrev pub is_small : ℕ → Bool
is_small b = leb 97 b && leb b 122

abbrev pub is_letter : ℕ → Bool
is_letter b = is_capital b || is_small b

-- 0 to 9
abbrev pub is_digit : ℕ → Bool
is_digit b = leb 48 b && leb b 57

-- letters, digits and the underscore
abbrev pub is_name_byte : ℕ → Bool
is_name_byte b = is_letter b || is_digit b || eqb b 95

-- a capital's small letter, which stands 32 behind it; every other byte as it is (02, §3)
abbrev pub lowered : ℕ → ℕ
lowered b = cond (is_capital b) (b + 32) b

abbrev pub same : List ℕ → List ℕ → Bool
same [] [] = true
same [] (y ∷ ys) = false
same (x ∷ xs) [] = false
same (x ∷ xs) (y ∷ ys) = eqb x y && same xs ys
