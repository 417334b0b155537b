-- Worked examples by the completion formulas (02, §4): 02's, 000's program (11), the full recipe with M1 to M5, and the tables of 000's
-- two examples, whose formulas exactly the explained transitions satisfy.
-- Assumes nothing.
use Rattle.std.specs.Prelude.{List, [], ◌∷◌, ◌++◌, map, ℕ, replicate}
use Rattle.basics.specs.Replies.{refused, answered}
use Rattle.logic_programs.specs.Rules.{lit, falsum}
use Rattle.completion_theory.specs.Findings.{missing, clash, fails, holds}
use Rattle.completion_theory.specs.Examples as of-crate
use Rattle.worked_examples.specs.Tables.{recipe_table, door_table1, water_table1}
use Rattle.worked_examples.specs.Program11.{program11}
use Rattle.worked_examples.specs.Transitions.{door_transitions, water_transitions}
use Rattle.worked_examples.specs.Examples.{Example, formulas_say, levels_say, holding_are}

-- an example of the crate below
abbrev pub from_formulas : of-crate.Example → Example
from_formulas e = formulas_say e.values e.table e.reply

abbrev pub from_levels : of-crate.LevelExample → Example
from_levels e = levels_say e.values e.table e.levels e.reply

abbrev pub crate_formulas : List Example
crate_formulas = map from_formulas of-crate.examples

abbrev pub crate_levels : List Example
crate_levels = map from_levels of-crate.level_examples

-- the codes of the recipe's literals, which rise with time, as levels
abbrev pub by_code : List ℕ
by_code = 0 ∷ 1 ∷ 2 ∷ 3 ∷ 4 ∷ 5 ∷ 6 ∷ 7 ∷ 8 ∷ 9 ∷ []

-- and all at one level
abbrev pub flat : List ℕ
flat = replicate 10 7

abbrev pub formula_examples : List Example
formula_examples =
    -- the full recipe, and M1 to M5
    (formulas_say (2 ∷ 2 ∷ 1 ∷ 2 ∷ 1 ∷ []) recipe_table (answered holds) ∷ [])
    ++ (formulas_say (1 ∷ 2 ∷ 1 ∷ 1 ∷ 1 ∷ []) recipe_table (answered (fails falsum)) ∷ [])
    ++ (formulas_say (2 ∷ 2 ∷ 2 ∷ 2 ∷ 1 ∷ []) recipe_table (answered (fails (lit 8))) ∷ [])
    ++ (formulas_say (1 ∷ 2 ∷ 2 ∷ 2 ∷ 2 ∷ []) recipe_table (answered (fails (lit 7))) ∷ [])
    ++ (formulas_say (2 ∷ 0 ∷ 1 ∷ 2 ∷ 1 ∷ []) recipe_table (answered (missing 1)) ∷ [])
    ++ (formulas_say (3 ∷ 2 ∷ 1 ∷ 2 ∷ 1 ∷ []) recipe_table (answered (clash 0)) ∷ [])
    -- its literals' codes are levels that fit; equal levels are not, at rule 0, 8 from 4
    ++ (levels_say (2 ∷ 2 ∷ 1 ∷ 2 ∷ 1 ∷ []) recipe_table by_code (answered holds) ∷ [])
    ++ (levels_say (1 ∷ 2 ∷ 1 ∷ 1 ∷ 1 ∷ []) recipe_table by_code (answered (fails falsum)) ∷ [])
    ++ (levels_say (2 ∷ 2 ∷ 1 ∷ 2 ∷ 1 ∷ []) recipe_table flat (refused 13 0) ∷ [])
    -- M8, which the engine passes: where no value is given it is missing (M7 and M10 are among the examples of the crate below)
    ++ (formulas_say (0 ∷ []) (0 ∷ 0 ∷ 1 ∷ 0 ∷ []) (answered (missing 0)) ∷ [])
    -- of the interpretations of (11) the two that 000 prints; of those of (9) and (10) for T = 1 the transitions
    ++ (holding_are 3 program11 ((1 ∷ 1 ∷ 1 ∷ []) ∷ (2 ∷ 1 ∷ 1 ∷ []) ∷ []) ∷ [])
    ++ (holding_are 3 door_table1 door_transitions ∷ [])
    ++ (holding_are 5 water_table1 water_transitions ∷ [])
