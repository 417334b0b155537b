-- Marks of what is caused in a step, one mark a literal code.
-- Assumes nothing.
use Rattle.std.specs.Prelude.{◌≡◌, ◌↔◌, Bool, true, false, cond, ℕ, length, get_or}
use mathlib.Core.List.{List, [], ◌∷◌, Memᴰ}
use Rattle.action_language.specs.declared.Head.{Head}
use Rattle.action_language.specs.declared.Head.TheVariants.{Lit}

-- the elements before the first that passes the test, all of them where none does
abbrev pub before : {A : Type 0} → (A → Bool) → List A → List A
before p [] = []
before p (x ∷ xs) = cond (p x) [] (x ∷ before p xs)

-- a code past the last mark is not marked
abbrev pub marked_caused : List Bool → ℕ → Bool
marked_caused marks c = get_or marks c false

-- code c is marked exactly if its literal is among the heads; a head's code is a byte
abbrev pub MarksOf : List Head → List Bool → Type 0
MarksOf heads marks = (length marks ≡ 256) × ((c : ℕ) → marked_caused marks c ≡ true ↔ Memᴰ (Lit c) heads)
