-- Worked examples of cutting and joining (02, §6): a recipe of three steps cut after one and after two, two that fit and join, and
-- two whose states differ, put together.
-- Assumes nothing.
use Rattle.std.specs.Prelude.{List, [], ◌∷◌, ◌++◌, ℕ, ◌-◌}
use Rattle.basics.specs.Replies.{refused, answered}
use Rattle.answer_set_theory.specs.Verdicts.{unfounded, passes}
use Rattle.completion_theory.specs.Findings as formulas
use Rattle.action_language.specs.declared.Law.{Law}
use Rattle.action_language.specs.declared.Description.{Description}
use Rattle.action_language.specs.Laws.{with_horizon}
use Rattle.action_language.specs.Examples.{recipe, recipe_laws, door, door_laws, water, water_laws}
use Rattle.translation_rules.specs.Translated.{table_for}
use Rattle.history_check.specs.Checks.{judged}
use Rattle.causal_reading.specs.Verdicts.{uncaused, path}
use Rattle.worked_examples.specs.Examples.{Example, engine_says, formulas_say, history_says, causal_says, cut_as, joined_as, states_are}

-- each reading passes the values: the history check, the causal reading, and on the words of the table the engine and the formulas
abbrev pub passed : Description → List Law → List ℕ → List Example
passed d ls vs =
    history_says d ls vs (answered (judged passes))
    ∷ causal_says d ls vs (answered path)
    ∷ engine_says vs (table_for d ls) (answered passes)
    ∷ formulas_say vs (table_for d ls) (answered formulas.holds)
    ∷ []

-- values cut after k steps, and both halves pass
abbrev pub cut_into : Description → List Law → ℕ → List ℕ → List ℕ → List ℕ → List Example
cut_into d ls k vs first later =
    (cut_as d.fluents d.actions k vs first later ∷ [])
    ++ passed (with_horizon d k) ls first
    ++ passed (with_horizon d (d.horizon - k)) ls later

-- the full recipe over three steps: nothing is done, the story is reflowed, nothing is done
abbrev pub three_steps : List ℕ
three_steps = 2 ∷ 2 ∷ 2 ∷ 2 ∷ 2 ∷ 1 ∷ 2 ∷ 1 ∷ 2 ∷ 2 ∷ 1 ∷ []

abbrev pub cut_examples : List Example
cut_examples =
    -- the full recipe, cut after one step and after two
    passed (with_horizon recipe 3) recipe_laws three_steps
    ++ cut_into (with_horizon recipe 3) recipe_laws 1 three_steps (2 ∷ 2 ∷ 2 ∷ 2 ∷ 2 ∷ []) (2 ∷ 2 ∷ 1 ∷ 2 ∷ 1 ∷ 2 ∷ 2 ∷ 1 ∷ [])
    ++ cut_into (with_horizon recipe 3) recipe_laws 2 three_steps (2 ∷ 2 ∷ 2 ∷ 2 ∷ 2 ∷ 1 ∷ 2 ∷ 1 ∷ []) (2 ∷ 1 ∷ 2 ∷ 2 ∷ 1 ∷ [])
    -- put in water: the second half starts in a state that a static law speaks of
    ++ cut_into (water 2) water_laws 1 (2 ∷ 2 ∷ 1 ∷ 1 ∷ 1 ∷ 2 ∷ 1 ∷ 1 ∷ []) (2 ∷ 2 ∷ 1 ∷ 1 ∷ 1 ∷ []) (1 ∷ 1 ∷ 2 ∷ 1 ∷ 1 ∷ [])
    -- after no step, and after all of them, a half has no step: refused by 3
    ++ (cut_as 2 1 0 three_steps (2 ∷ 2 ∷ []) three_steps ∷ [])
    ++ (cut_as 2 1 3 three_steps three_steps (2 ∷ 1 ∷ []) ∷ [])
    ++ (history_says (with_horizon recipe 0) recipe_laws (2 ∷ 1 ∷ []) (refused 3 0) ∷ [])
    ++ (causal_says (with_horizon recipe 0) recipe_laws (2 ∷ 1 ∷ []) (refused 3 0) ∷ [])

-- both pass (the first is the full recipe's history), and the last state of the first is the first state of the second
abbrev pub join_examples : List Example
join_examples =
    -- reflowed, then nothing done: the story is unlocked and flowed where they meet
    (states_are 2 (2 ∷ 2 ∷ 1 ∷ 2 ∷ 1 ∷ []) (2 ∷ 2 ∷ []) (2 ∷ 1 ∷ []) ∷ [])
    ++ (states_are 2 (2 ∷ 1 ∷ 2 ∷ 2 ∷ 1 ∷ []) (2 ∷ 1 ∷ []) (2 ∷ 1 ∷ []) ∷ [])
    ++ (joined_as 2 (2 ∷ 2 ∷ 1 ∷ 2 ∷ 1 ∷ []) (2 ∷ 1 ∷ 2 ∷ 2 ∷ 1 ∷ []) (2 ∷ 2 ∷ 1 ∷ 2 ∷ 1 ∷ 2 ∷ 2 ∷ 1 ∷ []) ∷ [])
    ++ passed (with_horizon recipe 2) recipe_laws (2 ∷ 2 ∷ 1 ∷ 2 ∷ 1 ∷ 2 ∷ 2 ∷ 1 ∷ [])
    -- two steps of the door and one
    ++ (joined_as 1 (1 ∷ 1 ∷ 2 ∷ 2 ∷ 1 ∷ []) (1 ∷ 1 ∷ 2 ∷ []) (1 ∷ 1 ∷ 2 ∷ 2 ∷ 1 ∷ 1 ∷ 2 ∷ []) ∷ [])
    -- the state where they meet kept twice: too many values
    ++ (history_says (with_horizon recipe 2) recipe_laws (2 ∷ 2 ∷ 1 ∷ 2 ∷ 1 ∷ 2 ∷ 1 ∷ 2 ∷ 2 ∷ 1 ∷ []) (refused 10 10) ∷ [])

-- both pass, and the last state of the first is not the first state of the second
abbrev pub apart_examples : List Example
apart_examples =
    -- unlocked and flowed, then locked and flowed: nothing locks the story
    passed recipe recipe_laws (1 ∷ 1 ∷ 2 ∷ 1 ∷ 1 ∷ [])
    ++ (states_are 2 (1 ∷ 1 ∷ 2 ∷ 1 ∷ 1 ∷ []) (1 ∷ 1 ∷ []) (1 ∷ 1 ∷ []) ∷ [])
    ++ (joined_as 2 (2 ∷ 2 ∷ 1 ∷ 2 ∷ 1 ∷ []) (1 ∷ 1 ∷ 2 ∷ 1 ∷ 1 ∷ []) (2 ∷ 2 ∷ 1 ∷ 2 ∷ 1 ∷ 2 ∷ 1 ∷ 1 ∷ []) ∷ [])
    ++ (history_says (with_horizon recipe 2) recipe_laws (2 ∷ 2 ∷ 1 ∷ 2 ∷ 1 ∷ 2 ∷ 1 ∷ 1 ∷ []) (answered (judged (unfounded 12))) ∷ [])
    ++ (causal_says (with_horizon recipe 2) recipe_laws (2 ∷ 2 ∷ 1 ∷ 2 ∷ 1 ∷ 2 ∷ 1 ∷ 1 ∷ []) (answered (uncaused 2 0)) ∷ [])
    -- the door: opened, then closed and staying so; put together they pass all the same, for it closes by itself
    ++ passed (door 1) door_laws (1 ∷ 1 ∷ 2 ∷ [])
    ++ passed (door 1) door_laws (1 ∷ 2 ∷ 1 ∷ [])
    ++ (joined_as 1 (1 ∷ 1 ∷ 2 ∷ []) (1 ∷ 2 ∷ 1 ∷ []) (1 ∷ 1 ∷ 2 ∷ 2 ∷ 1 ∷ []) ∷ [])
    ++ passed (door 2) door_laws (1 ∷ 1 ∷ 2 ∷ 2 ∷ 1 ∷ [])
