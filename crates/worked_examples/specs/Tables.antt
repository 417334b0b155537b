-- The words that the translation writes for the examples: 01's full recipe, and (9) and (10) of 000 for T = 1 and 2.
-- Assumes nothing.
use Rattle.std.specs.Prelude.{List, [], ◌∷◌, ◌++◌, ℕ, ◌+◌}

-- the choice of an atom, c the code of its positive literal: the negative literal unless the positive one is in the set,
-- then the positive one unless the negative one is
abbrev pub choice : ℕ → List ℕ
choice c = ((c + 1) ∷ 1 ∷ 0 ∷ c ∷ []) ++ (c ∷ 1 ∷ 0 ∷ (c + 1) ∷ [])

-- the rules of two fluents' inertia for the step from time 0, where there are 3 atoms for each time
abbrev pub inertia_step : List ℕ
inertia_step = (6 ∷ 1 ∷ 1 ∷ 7 ∷ 0 ∷ []) ++ (7 ∷ 1 ∷ 1 ∷ 6 ∷ 1 ∷ []) ++ (8 ∷ 1 ∷ 1 ∷ 9 ∷ 2 ∷ []) ++ (9 ∷ 1 ∷ 1 ∷ 8 ∷ 3 ∷ [])

-- of 01's full recipe
abbrev pub recipe_table : List ℕ
recipe_table =
    (8 ∷ 0 ∷ 1 ∷ 4 ∷ [])
    ++ (65535 ∷ 0 ∷ 2 ∷ 4 ∷ 0 ∷ [])
    ++ inertia_step
    ++ choice 0 ++ choice 2 ++ choice 4

-- (9) for T = 1: Closed(t) has codes 4t and 4t + 1, OpenDoor(t) 4t + 2 and 4t + 3
abbrev pub door_table1 : List ℕ
door_table1 =
    (0 ∷ 1 ∷ 0 ∷ 1 ∷ [])
    ++ (4 ∷ 1 ∷ 0 ∷ 5 ∷ [])
    ++ (5 ∷ 0 ∷ 1 ∷ 2 ∷ [])
    ++ choice 0 ++ choice 2

-- (9) for T = 2
abbrev pub door_table2 : List ℕ
door_table2 =
    (0 ∷ 1 ∷ 0 ∷ 1 ∷ [])
    ++ (4 ∷ 1 ∷ 0 ∷ 5 ∷ [])
    ++ (8 ∷ 1 ∷ 0 ∷ 9 ∷ [])
    ++ (5 ∷ 0 ∷ 1 ∷ 2 ∷ [])
    ++ (9 ∷ 0 ∷ 1 ∷ 6 ∷ [])
    ++ choice 0 ++ choice 2 ++ choice 6

-- (10) for T = 1: InWater(t) has codes 6t and 6t + 1, Wet(t) 6t + 2 and 6t + 3, PutInWater(t) 6t + 4 and 6t + 5
abbrev pub water_table1 : List ℕ
water_table1 =
    (2 ∷ 1 ∷ 0 ∷ 1 ∷ [])
    ++ (8 ∷ 1 ∷ 0 ∷ 7 ∷ [])
    ++ (6 ∷ 0 ∷ 1 ∷ 4 ∷ [])
    ++ inertia_step
    ++ choice 0 ++ choice 2 ++ choice 4

-- (10) for T = 2
abbrev pub water_table2 : List ℕ
water_table2 =
    (2 ∷ 1 ∷ 0 ∷ 1 ∷ [])
    ++ (8 ∷ 1 ∷ 0 ∷ 7 ∷ [])
    ++ (14 ∷ 1 ∷ 0 ∷ 13 ∷ [])
    ++ (6 ∷ 0 ∷ 1 ∷ 4 ∷ [])
    ++ (12 ∷ 0 ∷ 1 ∷ 10 ∷ [])
    ++ (6 ∷ 1 ∷ 1 ∷ 7 ∷ 0 ∷ [])
    ++ (12 ∷ 1 ∷ 1 ∷ 13 ∷ 6 ∷ [])
    ++ (7 ∷ 1 ∷ 1 ∷ 6 ∷ 1 ∷ [])
    ++ (13 ∷ 1 ∷ 1 ∷ 12 ∷ 7 ∷ [])
    ++ (8 ∷ 1 ∷ 1 ∷ 9 ∷ 2 ∷ [])
    ++ (14 ∷ 1 ∷ 1 ∷ 15 ∷ 8 ∷ [])
    ++ (9 ∷ 1 ∷ 1 ∷ 8 ∷ 3 ∷ [])
    ++ (15 ∷ 1 ∷ 1 ∷ 14 ∷ 9 ∷ [])
    ++ choice 0 ++ choice 2 ++ choice 4 ++ choice 10
