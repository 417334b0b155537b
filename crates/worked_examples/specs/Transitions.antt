-- The explained transitions of 000's two examples, (3) and (4), as it prints them.
-- Assumes nothing.
use Rattle.std.specs.Prelude.{List, [], ◌∷◌, ℕ}

-- a state, an action and a resulting state as values, 1 true and 2 false
abbrev pub door_transitions : List (List ℕ)
door_transitions = (1 ∷ 1 ∷ 2 ∷ []) ∷ (1 ∷ 2 ∷ 1 ∷ []) ∷ (2 ∷ 1 ∷ 2 ∷ []) ∷ (2 ∷ 2 ∷ 1 ∷ []) ∷ []

abbrev pub water_transitions : List (List ℕ)
water_transitions =
    (1 ∷ 1 ∷ 1 ∷ 1 ∷ 1 ∷ [])
    ∷ (1 ∷ 1 ∷ 2 ∷ 1 ∷ 1 ∷ [])
    ∷ (2 ∷ 1 ∷ 1 ∷ 1 ∷ 1 ∷ [])
    ∷ (2 ∷ 1 ∷ 2 ∷ 2 ∷ 1 ∷ [])
    ∷ (2 ∷ 2 ∷ 1 ∷ 1 ∷ 1 ∷ [])
    ∷ (2 ∷ 2 ∷ 2 ∷ 2 ∷ 2 ∷ [])
    ∷ []
