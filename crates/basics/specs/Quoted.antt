-- Quoted texts as lists of bytes: a character of a text is the byte of its number, so `bytes "if"` is 105 ∷ 102 ∷ [].
-- Assumes nothing.
use mathlib.Core.List as list
use Rattle.std.specs.Prelude.{ℕ}
use Prim.Native.Char.{code}
use Prim.Native.String.{String, [], ◌∷◌}

abbrev pub bytes : String → list.List ℕ
bytes [] = list.[]
bytes (c ∷ s) = list.◌∷◌ (code c) (bytes s)
