-- Worked examples of marks by the word: which codes some words mark. Word 0 has the codes 0 to 63, the lowest bit first.
-- Assumes nothing.
use Rattle.std.specs.Prelude.{◌≡◌, Bool, true, false, List, [], ◌∷◌, ℕ}
use Rattle.literal_sets.specs.Marks.{marked}

pub record Example : Type 0 where
  pub words : List ℕ
  pub code : ℕ
  pub reply : Bool

abbrev pub Holds : Example → Type 0
Holds e = marked e.words e.code ≡ e.reply

abbrev pub examples : List Example
examples =
    record { words = []; code = 0; reply = false }
    ∷ record { words = 1 ∷ []; code = 0; reply = true }
    ∷ record { words = 1 ∷ []; code = 1; reply = false }
    -- 10 is binary 1010
    ∷ record { words = 10 ∷ []; code = 1; reply = true }
    ∷ record { words = 10 ∷ []; code = 2; reply = false }
    ∷ record { words = 10 ∷ []; code = 3; reply = true }
    -- the highest bit of a word
    ∷ record { words = 9223372036854775808 ∷ []; code = 63; reply = true }
    ∷ record { words = 9223372036854775808 ∷ []; code = 0; reply = false }
    ∷ record { words = 4294967296 ∷ []; code = 32; reply = true }
    -- the next word
    ∷ record { words = 0 ∷ 1 ∷ []; code = 64; reply = true }
    ∷ record { words = 0 ∷ 1 ∷ []; code = 0; reply = false }
    ∷ record { words = 1 ∷ 0 ∷ []; code = 64; reply = false }
    -- past the last word
    ∷ record { words = 1 ∷ 1 ∷ []; code = 128; reply = false }
    ∷ []
