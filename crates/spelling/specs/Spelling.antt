-- What a name is, and which names are the same.
-- Assumes nothing.
use Rattle.std.specs.Prelude.{Bool, false, not, ◌&&◌, List, [], ◌∷◌, map, ℕ, leb, length}
use Rattle.basics.specs.Search.{all}
use Rattle.basics.specs.Quoted.{bytes}
use Rattle.spelling.specs.Letters.{is_letter, is_name_byte, lowered, same}

-- two names are the same if they agree after lowering (02, §3)
abbrev pub lowered_name : List ℕ → List ℕ
lowered_name bs = map lowered bs

abbrev pub same_name : List ℕ → List ℕ → Bool
same_name xs ys = same (lowered_name xs) (lowered_name ys)

abbrev pub false_bytes : List ℕ
false_bytes = bytes "false"

-- a letter, then up to 15 letters, digits or underscores; `false`, in any mix of capitals, is no name
abbrev pub starts_with_letter : List ℕ → Bool
starts_with_letter [] = false
starts_with_letter (b ∷ bs) = is_letter b

unfoldable pub is_name : List ℕ → Bool
is_name bs = starts_with_letter bs && leb (length bs) 16 && all is_name_byte bs && not (same_name bs false_bytes)
