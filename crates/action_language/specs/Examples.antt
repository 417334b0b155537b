-- Example descriptions, shared by the crates above: 01's full recipe, 000's (3) and (4), and one with the largest table. Each law
-- record has 0 in the places past its lists' counts, as the reader leaves it.
-- Assumes nothing.
use Rattle.std.specs.Prelude.{List, [], ◌∷◌, ℕ, replicate}
use Rattle.action_language.specs.declared.Head.TheVariants.{Lit, False}
use Rattle.action_language.specs.declared.Kind.TheVariants.{Static, Dynamic}
use Rattle.action_language.specs.declared.Law.{Law}
use Rattle.action_language.specs.declared.Description.{Description}
use Rattle.action_language.specs.Laws.{law_of}

-- fluents 0 and 1 keep their values
abbrev pub inertia : List Law
inertia =
    law_of Dynamic (Lit 0) (0 ∷ []) (0 ∷ [])
    ∷ law_of Dynamic (Lit 1) (1 ∷ []) (1 ∷ [])
    ∷ law_of Dynamic (Lit 2) (2 ∷ []) (2 ∷ [])
    ∷ law_of Dynamic (Lit 3) (3 ∷ []) (3 ∷ [])
    ∷ []

-- 01's full recipe: fluents locked (codes 0, 1) and flowed (2, 3), action reflow (4, 5)
abbrev pub recipe_laws : List Law
recipe_laws = law_of Dynamic (Lit 2) [] (4 ∷ []) ∷ law_of Dynamic False [] (4 ∷ 0 ∷ []) ∷ inertia

abbrev pub recipe : Description
recipe = record { fluents = 2; actions = 1; laws = 6; horizon = 1 }

-- 000's (3): Closed is fluent 0, OpenDoor action 0
abbrev pub door_laws : List Law
door_laws = law_of Static (Lit 0) (0 ∷ []) [] ∷ law_of Dynamic (Lit 1) [] (2 ∷ []) ∷ []

abbrev pub door : ℕ → Description
door T = record { fluents = 1; actions = 1; laws = 2; horizon = T }

-- 000's (4): InWater is fluent 0, Wet fluent 1, PutInWater action 0
abbrev pub water_laws : List Law
water_laws = law_of Dynamic (Lit 0) [] (4 ∷ []) ∷ law_of Static (Lit 2) (0 ∷ []) [] ∷ inertia

abbrev pub water : ℕ → Description
water T = record { fluents = 2; actions = 1; laws = 6; horizon = T }

-- the largest table: 64 dynamic laws with lists of 6 literals
abbrev pub largest_laws : List Law
largest_laws = replicate 64 (law_of Dynamic (Lit 46) (0 ∷ 1 ∷ 2 ∷ 3 ∷ 4 ∷ 5 ∷ []) (58 ∷ 59 ∷ 60 ∷ 61 ∷ 62 ∷ 63 ∷ []))

abbrev pub largest : Description
largest = record { fluents = 24; actions = 8; laws = 64; horizon = 30 }
