-- Worked examples of all layers, gathered as one list: the full recipe and M1 to M10 with all that 01 prints of them, the
-- horizons and tables at the limits, the transitions of 000's two examples, and the rules of the text format, of the short
-- laws, of the command log and of letter case one by one; the same recipes and programs by the completion formulas;
-- histories with atoms of both faults; and histories cut and joined.
-- Assumes nothing.
use Rattle.basics.specs.Quoted.{bytes}
use Rattle.std.specs.Prelude.{List, [], ◌∷◌, ◌++◌, map, ℕ, replicate}
use Rattle.basics.specs.Search.{tuples}
use Rattle.basics.specs.Replies.{Reply, refused, answered}
use Rattle.answer_set_theory.specs.Verdicts.{clash, broken, unfounded, passes}
use Rattle.answer_set_theory.specs.Examples as engine-examples
use Rattle.action_language.specs.declared.Head.TheVariants.{Lit}
use Rattle.action_language.specs.declared.Kind.TheVariants.{Dynamic}
use Rattle.action_language.specs.declared.Law.{Law}
use Rattle.action_language.specs.declared.Description.{Description}
use Rattle.action_language.specs.Laws.{law_of, with_horizon}
use Rattle.action_language.specs.Examples.{recipe, recipe_laws, door, door_laws, water, water_laws, largest, largest_laws}
use Rattle.translation_rules.specs.Translated.{written}
use Rattle.history_check.specs.Checks.{Finding, missing, judged}
use Rattle.causal_reading.specs.Verdicts.{Causal, contradicted, uncaused, path}
use Rattle.description_lines.specs.Descriptions.{read}
use Rattle.written_form.specs.Writing.{in_full, as_declared}
use Rattle.written_form.specs.HistoryWriting.{every_action}
use Rattle.worked_examples.specs.Tables.{recipe_table, door_table1, door_table2, water_table1, water_table2}
use Rattle.worked_examples.specs.Program11.{program11, answer_sets11}
use Rattle.worked_examples.specs.Texts.{recipe_text, history_text, m1_text, m2_text, m3_text, m4_text, m5_text, small_text}
use Rattle.worked_examples.specs.Outputs.{recipe_counts, passed_lines, passed_output, m1_output, m2_output, m3_output, m4_output, m5_output}
use Rattle.worked_examples.specs.Examples.{Example, engine_says, passing_are, translates, table_is, table_left, history_says}
use Rattle.worked_examples.specs.Examples.{history_leaves, causal_says, paths_are, reads, reads_history, writes, writes_history}
use Rattle.worked_examples.specs.Examples.{prints, shows_fluent, shows_action, coded_as, paired_as}
use Rattle.worked_examples.specs.Recipe.{recipe_fluents, recipe_actions, recipe_draft}
use Rattle.worked_examples.specs.Short.{short_recipe_examples, short_examples}
use Rattle.worked_examples.specs.Log.{two_text, one_listed, log_examples, caller_examples}
use Rattle.worked_examples.specs.Capitals.{style_text, style_m2, style_examples, capital_examples}
use Rattle.worked_examples.specs.Transitions.{door_transitions, water_transitions}
use Rattle.worked_examples.specs.Formulas.{crate_formulas, crate_levels, formula_examples}
use Rattle.worked_examples.specs.Faults.{fault_examples}
use Rattle.worked_examples.specs.Cuts.{cut_examples, join_examples, apart_examples}
use Rattle.worked_examples.specs.Format.{reader_examples, line_examples, history_examples, long_examples}

-- an engine example of the crate below
abbrev pub from_engine : engine-examples.Example → Example
from_engine e = engine_says e.values e.table e.reply

-- both verdicts on a history; the causal reading refuses values 0 and 3 by 11
abbrev pub both : Description → List Law → List ℕ → Reply Finding → Reply Causal → List Example
both d ls vs answer reading = history_says d ls vs answer ∷ causal_says d ls vs reading ∷ []

abbrev pub of_recipe : List ℕ → Reply Finding → Reply Causal → List Example
of_recipe vs answer reading = both recipe recipe_laws vs answer reading

-- by records and values
abbrev pub record_examples : List Example
record_examples =
    -- the full recipe: its table, what is left behind its words, its verdicts
    (translates recipe recipe_laws 53 (answered (written 5 12 53)) ∷ [])
    ++ (translates recipe recipe_laws 52 (refused 9 53) ∷ [])
    ++ (table_is recipe recipe_laws recipe_table ∷ [])
    ++ (table_left recipe recipe_laws (replicate 60 7) (recipe_table ++ replicate 7 7) ∷ [])
    ++ (table_left recipe recipe_laws (replicate 52 7) (replicate 52 7) ∷ [])
    ++ of_recipe (2 ∷ 2 ∷ 1 ∷ 2 ∷ 1 ∷ []) (answered (judged passes)) (answered path)
    -- M1
    ++ of_recipe (1 ∷ 2 ∷ 1 ∷ 1 ∷ 1 ∷ []) (answered (judged (broken 1))) (answered (contradicted 1 1))
    -- M2
    ++ of_recipe (2 ∷ 2 ∷ 2 ∷ 2 ∷ 1 ∷ []) (answered (judged (unfounded 8))) (answered (uncaused 1 1))
    -- M3
    ++ of_recipe (1 ∷ 2 ∷ 2 ∷ 2 ∷ 2 ∷ []) (answered (judged (unfounded 7))) (answered (uncaused 1 0))
    -- M4; the whole translation is left in the table after missing
    ++ of_recipe (2 ∷ 0 ∷ 1 ∷ 2 ∷ 1 ∷ []) (answered (missing 1)) (refused 11 1)
    ++ (history_leaves recipe recipe_laws (2 ∷ 0 ∷ 1 ∷ 2 ∷ 1 ∷ []) (replicate 60 7) (recipe_table ++ replicate 7 7) ∷ [])
    -- M5; and after clash
    ++ of_recipe (3 ∷ 2 ∷ 1 ∷ 2 ∷ 1 ∷ []) (answered (judged (clash 0))) (refused 11 0)
    ++ (history_leaves recipe recipe_laws (3 ∷ 2 ∷ 1 ∷ 2 ∷ 1 ∷ []) (replicate 60 7) (recipe_table ++ replicate 7 7) ∷ [])
    -- a value too few: refused, and the table is as it was
    ++ of_recipe (2 ∷ 2 ∷ 1 ∷ 2 ∷ []) (refused 10 4) (refused 10 4)
    ++ (history_leaves recipe recipe_laws (2 ∷ 2 ∷ 1 ∷ 2 ∷ []) (replicate 60 7) (replicate 60 7) ∷ [])
    -- a contradiction at time 0 by a static law: in water and not wet
    ++ both (water 1) water_laws (1 ∷ 2 ∷ 2 ∷ 1 ∷ 1 ∷ []) (answered (judged (broken 0))) (answered (contradicted 0 1))
    -- an empty after-list makes no static law: the first state need not have what the law causes
    ++ both (record { fluents = 1; actions = 0; laws = 1; horizon = 1 }) (law_of Dynamic (Lit 0) [] [] ∷ []) (2 ∷ 1 ∷ [])
    (answered (judged passes)) (answered path)
    -- faults at time 2: the door opens by nothing; it stays closed though it is opened
    ++ both (door 2) door_laws (1 ∷ 2 ∷ 1 ∷ 2 ∷ 2 ∷ []) (answered (judged (unfounded 9))) (answered (uncaused 2 0))
    ++ both (door 2) door_laws (1 ∷ 2 ∷ 1 ∷ 1 ∷ 1 ∷ []) (answered (judged (broken 4))) (answered (contradicted 2 1))
    -- horizons at the limits
    ++ (translates (with_horizon recipe 0) recipe_laws 53 (refused 3 0) ∷ [])
    ++ (translates (with_horizon recipe 1) recipe_laws 53 (answered (written 5 12 53)) ∷ [])
    ++ (translates (with_horizon recipe 30) recipe_laws 1126 (answered (written 92 244 1126)) ∷ [])
    ++ (translates (with_horizon recipe 31) recipe_laws 1200 (refused 3 0) ∷ [])

-- 30,912 words for the largest table are enough, and one fewer are refused
abbrev pub largest_examples : List Example
largest_examples =
    translates largest largest_laws 30912 (answered (written 984 2448 30912))
    ∷ translates largest largest_laws 30911 (refused 9 30912)
    ∷ []

-- M6 to M10 and the engine's other examples
abbrev pub engine_examples : List Example
engine_examples = map from_engine engine-examples.examples

-- 000's program (11), its tables and transitions
abbrev pub paper_examples : List Example
paper_examples =
    -- of all 64 sets over three atoms, the four answer sets that 000 prints
    (passing_are 3 program11 answer_sets11 ∷ [])
    -- (9) and (10) for T = 1 and 2
    ++ (table_is (door 1) door_laws door_table1 ∷ [])
    ++ (table_is (door 2) door_laws door_table2 ∷ [])
    ++ (table_is (water 1) water_laws water_table1 ∷ [])
    ++ (table_is (water 2) water_laws water_table2 ∷ [])
    ++ (translates (door 2) door_laws 44 (answered (written 5 11 44)) ∷ [])
    ++ (translates (water 2) water_laws 92 (answered (written 8 21 92)) ∷ [])
    -- (3) has 2 states and exactly 4 explained transitions, (4) has 3 and 6
    ++ (paths_are 1 1 0 door_laws (tuples (1 ∷ 2 ∷ []) 1) ((1 ∷ []) ∷ (2 ∷ []) ∷ []) ∷ [])
    ++ (paths_are 1 1 1 door_laws (tuples (1 ∷ 2 ∷ []) 3) door_transitions ∷ [])
    ++ (paths_are 2 1 0 water_laws (tuples (1 ∷ 2 ∷ []) 2) ((1 ∷ 1 ∷ []) ∷ (2 ∷ 1 ∷ []) ∷ (2 ∷ 2 ∷ []) ∷ []) ∷ [])
    ++ (paths_are 2 1 1 water_laws (tuples (1 ∷ 2 ∷ []) 5) water_transitions ∷ [])

-- the full recipe and M1 to M5 as texts: what is read
abbrev pub text_examples : List Example
text_examples =
    reads 64 (recipe_text ++ history_text) (answered (read recipe_draft history_text 23))
    ∷ reads_history (recipe_text ++ history_text) history_text 5 (answered (2 ∷ 2 ∷ 1 ∷ 2 ∷ 1 ∷ []))
    ∷ reads_history recipe_text m1_text 5 (answered (1 ∷ 2 ∷ 1 ∷ 1 ∷ 1 ∷ []))
    ∷ reads_history recipe_text m2_text 5 (answered (2 ∷ 2 ∷ 2 ∷ 2 ∷ 1 ∷ []))
    ∷ reads_history recipe_text m3_text 5 (answered (1 ∷ 2 ∷ 2 ∷ 2 ∷ 2 ∷ []))
    ∷ reads_history recipe_text m4_text 5 (answered (2 ∷ 0 ∷ 1 ∷ 2 ∷ 1 ∷ []))
    ∷ reads_history recipe_text m5_text 5 (answered (3 ∷ 2 ∷ 1 ∷ 2 ∷ 1 ∷ []))
    -- the names shown: the part where each was declared; an empty one for a number that nothing declares
    ∷ shows_fluent recipe_text 1 (bytes "flowed")
    ∷ shows_fluent recipe_text 2 []
    ∷ shows_action recipe_text 0 (bytes "reflow")
    ∷ shows_action recipe_text 1 []
    -- the same texts are written for what was read
    ∷ writes 1 recipe_fluents recipe_actions (λ i. in_full) as_declared recipe_laws recipe_text
    ∷ writes_history 1 recipe_fluents recipe_actions as_declared every_action (2 ∷ 2 ∷ 1 ∷ 2 ∷ 1 ∷ []) history_text
    ∷ []

-- and what is printed; other inputs are the stored vectors of test_vectors
abbrev pub output_examples : List Example
output_examples =
    prints (recipe_text ++ history_text) passed_output
    ∷ prints (recipe_text ++ m1_text) m1_output
    ∷ prints (recipe_text ++ m2_text) m2_output
    ∷ prints (recipe_text ++ m3_text) m3_output
    ∷ prints (recipe_text ++ m4_text) m4_output
    ∷ prints (recipe_text ++ m5_text) m5_output
    -- a refusal; lines count over the whole input: a fluent where an action is due, in the history's second line
    ∷ prints (small_text ++ bytes "state=a\nact=a\nstate=a\nend=\n") (bytes "refused=6\nplace=6\n")
    -- a static law with nothing in its if-list, which the first state contradicts: time 0 is printed
    ∷ prints (bytes "horizon=1\nfluent=a\nstatic=a\nif=\nend=\nstate=-a\nact=\nstate=a\nend=\n")
    (bytes "horizon=1\natoms=2\nrules=4\nwords=14\nanswer=broken\nat=0\ncausal=contradicted\ntime=0\nitem=0\n")
    -- a command log is judged with its actions filled (02, §2)
    ∷ prints (two_text ++ one_listed) (bytes "horizon=2\natoms=7\nrules=13\nwords=52\n" ++ passed_lines)
    -- M2 as a style sheet spells it: the name as it was declared (02, §3)
    ∷ prints (style_text ++ style_m2) (recipe_counts ++ bytes "answer=unfounded\nat=8\ncausal=uncaused\ntime=1\nitem=Flowed\n")
    ∷ []

-- numbers for C: a value above its code, of which the low 56 bits are kept, and two numbers of 16 bits
abbrev pub code_examples : List Example
code_examples =
    coded_as 66 1 322
    ∷ coded_as 12 72057594037927939 780
    ∷ paired_as 1 2 65538
    ∷ paired_as 65537 131071 131071
    ∷ []

abbrev pub gathered : List (List Example) → List Example
gathered [] = []
gathered (es ∷ ess) = es ++ gathered ess

-- the one list
abbrev pub worked : List Example
worked =
    gathered
    (record_examples
    ∷ largest_examples
    ∷ engine_examples
    ∷ paper_examples
    ∷ text_examples
    ∷ reader_examples
    ∷ line_examples
    ∷ history_examples
    ∷ long_examples
    ∷ output_examples
    ∷ short_recipe_examples
    ∷ short_examples
    ∷ log_examples
    ∷ caller_examples
    ∷ style_examples
    ∷ capital_examples
    ∷ code_examples
    ∷ crate_formulas
    ∷ crate_levels
    ∷ formula_examples
    ∷ fault_examples
    ∷ cut_examples
    ∷ join_examples
    ∷ apart_examples
    ∷ [])
