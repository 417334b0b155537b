-- Declared names and literals.
-- Assumes nothing.
use Rattle.std.specs.Prelude.{Bool, true, false, cond, ◌&&◌, List, [], ◌∷◌, ℕ, ◌+◌, ◌*◌, eqb, ltb, leb}
use Rattle.std.proofs.Math.Option.{Option, none, some}
use Rattle.basics.specs.Search.{first}
use Rattle.spelling.specs.Spelling.{same_name, is_name}
use Rattle.text_forms.specs.Bytes.{hyphen}

-- where a name was declared: fluents and actions have one list, fluents first, so that the place i stands for code 2i.
-- No bytes are no name
abbrev pub declared_at : List (List ℕ) → List ℕ → Option ℕ
declared_at names [] = none
declared_at names (b ∷ bs) = first (same_name (b ∷ bs)) 0 names

abbrev pub absent : Option ℕ → Bool
absent none = true
absent (some i) = false

-- a name that is not declared yet
abbrev pub is_new : List (List ℕ) → List ℕ → Bool
is_new names bs = is_name bs && absent (declared_at names bs)

-- the names that a literal may have: those from place low up to, not including, place high
abbrev pub in_sort : ℕ → ℕ → ℕ → Option ℕ → Option ℕ
in_sort low high sign none = none
in_sort low high sign (some i) = cond (leb low i && ltb i high) (some (2 * i + sign)) none

-- the code of a literal of the allowed sort: a name, or a hyphen and a name
unfoldable pub literal : List (List ℕ) → ℕ → ℕ → List ℕ → Option ℕ
literal names low high [] = none
literal names low high (b ∷ bs) =
    cond (eqb b hyphen) (in_sort low high 1 (declared_at names bs)) (in_sort low high 0 (declared_at names (b ∷ bs)))
