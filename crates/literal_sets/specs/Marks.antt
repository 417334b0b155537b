-- Sets of literals as marks by the word: literal code c is bit c mod 64, from the lowest, of word c div 64.
-- Assumes nothing.
use Rattle.std.specs.Prelude.{Bool, List, ℕ, ◌/◌, ◌%◌, ◌^◌, eqb, get_or}
use Rattle.logic_programs.specs.Literals.{Lits}

-- bit k of a word, counted from the lowest
abbrev pub bit : ℕ → ℕ → Bool
bit w k = eqb (w / 2 ^ k % 2) 1

-- the set that a list of words stands for; past the last word there is nothing
unfoldable pub marked : List ℕ → Lits
marked ws c = bit (get_or ws (c / 64) 0) (c % 64)
