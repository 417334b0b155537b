-- Worked examples of atoms that have no value or both (02, §5): the lowest decides, where before the lowest without a value did, wherever
-- those with both were.
-- Assumes nothing.
use Rattle.std.specs.Prelude.{List, [], ◌∷◌, ◌++◌, ℕ, replicate}
use Rattle.basics.specs.Replies.{Reply, refused, answered}
use Rattle.answer_set_theory.specs.Verdicts.{clash}
use Rattle.completion_theory.specs.Findings as formulas
use Rattle.action_language.specs.Examples.{recipe, recipe_laws}
use Rattle.history_check.specs.Checks.{Finding, missing, judged}
use Rattle.worked_examples.specs.Tables.{recipe_table}
use Rattle.worked_examples.specs.Formulas.{by_code}
use Rattle.worked_examples.specs.Examples.{Example, formulas_say, formulas_said, levels_say, levels_said}
use Rattle.worked_examples.specs.Examples.{history_says, history_said, history_leaves}

-- the history check's answer to values of the full recipe, and its former one
abbrev pub of_values : List ℕ → Reply Finding → Reply Finding → List Example
of_values vs now former = history_says recipe recipe_laws vs now ∷ history_said recipe recipe_laws vs former ∷ []

-- the same by the completion formulas of its table, without levels and with them
abbrev pub by_formulas : List ℕ → Reply formulas.FormulaFinding → Reply formulas.FormulaFinding → List Example
by_formulas vs now former =
    formulas_say vs recipe_table now
    ∷ formulas_said vs recipe_table former
    ∷ levels_say vs recipe_table by_code now
    ∷ levels_said vs recipe_table by_code former
    ∷ []

abbrev pub fault_examples : List Example
fault_examples =
    -- M4 and M5 keep theirs
    (history_said recipe recipe_laws (2 ∷ 0 ∷ 1 ∷ 2 ∷ 1 ∷ []) (answered (missing 1)) ∷ [])
    ++ (history_said recipe recipe_laws (3 ∷ 2 ∷ 1 ∷ 2 ∷ 1 ∷ []) (answered (judged (clash 0))) ∷ [])
    -- both below none: neighbours, and far apart
    ++ of_values (3 ∷ 0 ∷ 1 ∷ 2 ∷ 1 ∷ []) (answered (judged (clash 0))) (answered (missing 1))
    ++ of_values (3 ∷ 2 ∷ 1 ∷ 2 ∷ 0 ∷ []) (answered (judged (clash 0))) (answered (missing 4))
    -- none below both, likewise
    ++ of_values (0 ∷ 3 ∷ 1 ∷ 2 ∷ 1 ∷ []) (answered (missing 0)) (answered (missing 0))
    ++ of_values (2 ∷ 0 ∷ 1 ∷ 2 ∷ 3 ∷ []) (answered (missing 1)) (answered (missing 1))
    -- an action beside a fluent, in every order
    ++ of_values (2 ∷ 3 ∷ 0 ∷ 2 ∷ 1 ∷ []) (answered (judged (clash 1))) (answered (missing 2))
    ++ of_values (2 ∷ 0 ∷ 3 ∷ 2 ∷ 1 ∷ []) (answered (missing 1)) (answered (missing 1))
    ++ of_values (2 ∷ 2 ∷ 3 ∷ 0 ∷ 1 ∷ []) (answered (judged (clash 2))) (answered (missing 3))
    ++ of_values (2 ∷ 2 ∷ 0 ∷ 3 ∷ 1 ∷ []) (answered (missing 2)) (answered (missing 2))
    -- several of each
    ++ of_values (2 ∷ 3 ∷ 0 ∷ 3 ∷ 0 ∷ []) (answered (judged (clash 1))) (answered (missing 2))
    ++ of_values (2 ∷ 0 ∷ 3 ∷ 0 ∷ 3 ∷ []) (answered (missing 1)) (answered (missing 1))
    -- what was refused is refused
    ++ of_values (3 ∷ 0 ∷ 1 ∷ 2 ∷ []) (refused 10 4) (refused 10 4)
    ++ of_values (3 ∷ 0 ∷ 1 ∷ 4 ∷ 1 ∷ []) (refused 11 3) (refused 11 3)
    -- the whole translation is left in the table
    ++ (history_leaves recipe recipe_laws (3 ∷ 0 ∷ 1 ∷ 2 ∷ 1 ∷ []) (replicate 60 7) (recipe_table ++ replicate 7 7) ∷ [])
    -- by the completion formulas
    ++ by_formulas (3 ∷ 0 ∷ 1 ∷ 2 ∷ 1 ∷ []) (answered (formulas.clash 0)) (answered (formulas.missing 1))
    ++ by_formulas (2 ∷ 0 ∷ 1 ∷ 2 ∷ 3 ∷ []) (answered (formulas.missing 1)) (answered (formulas.missing 1))
    ++ by_formulas (2 ∷ 3 ∷ 0 ∷ 2 ∷ 1 ∷ []) (answered (formulas.clash 1)) (answered (formulas.missing 2))
    ++ by_formulas (2 ∷ 2 ∷ 0 ∷ 3 ∷ 1 ∷ []) (answered (formulas.missing 2)) (answered (formulas.missing 2))
