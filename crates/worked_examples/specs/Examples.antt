-- What a worked example says: a definition of one of the layers at given arguments, and what it comes to.
-- Assumes nothing.
use Rattle.std.specs.Prelude.{◌≡◌, Bool, true, false, List, [], ◌∷◌, ℕ, length}
use Rattle.basics.specs.Search.{chosen, tuples}
use Rattle.basics.specs.Replies.{Reply, refused, answered}
use Rattle.answer_set_theory.specs.Verdicts.{Verdict}
use Rattle.answer_set_theory.specs.Answers as engine
use Rattle.completion_theory.specs.Findings as formulas
use Rattle.completion_theory.specs.Answers as completion
use Rattle.action_language.specs.declared.Law.{Law}
use Rattle.action_language.specs.declared.Description.{Description}
use Rattle.translation_rules.specs.Translated as translated
use Rattle.translation_rules.specs.Translated.{Written}
use Rattle.history_check.specs.Checks as history
use Rattle.history_check.specs.Checks.{Finding}
use Rattle.former_answers.specs.Former.{former_checked, former_answer, former_answer_by_levels}
use Rattle.causal_reading.specs.Verdicts.{Causal, contradicted, uncaused, path, causal_verdict}
use Rattle.causal_reading.specs.Readings as causal
use Rattle.cut_and_join.specs.Halves.{first_steps, later_steps, last_state, first_state, joined}
use Rattle.description_lines.specs.Descriptions.{Taken, described}
use Rattle.shown_names.specs.Shown.{shown_fluent, shown_action}
use Rattle.history_reader.specs.Histories.{read_history}
use Rattle.written_form.specs.Writing.{Form, Spelling, description_text}
use Rattle.history_values.specs.Values.{ActionsValued}
use Rattle.written_form.specs.HistoryWriting.{values_text}
use Rattle.written_form.specs.Writable.{Writable}
use Rattle.written_form.specs.Respelling.{InCapitals}
use Rattle.report_theory.specs.Output.{room, output}
use Rattle.answer_codes.specs.Codes.{coded, pair}
use Rattle.worked_examples.specs.Program11.{all_values, passing}

abbrev pub is_path : Causal → Bool
is_path path = true
is_path (contradicted t l) = false
is_path (uncaused t f) = false

abbrev pub is_holds : Reply formulas.FormulaFinding → Bool
is_holds (answered formulas.holds) = true
is_holds (answered (formulas.missing a)) = false
is_holds (answered (formulas.clash a)) = false
is_holds (answered (formulas.fails h)) = false
is_holds (refused k p) = false

-- the sets with one value for each of n atoms that satisfy the completion formulas of a table
abbrev pub holding : ℕ → List ℕ → List (List ℕ)
holding n ws = chosen (λ vs. is_holds (completion.answer vs ws)) (tuples (1 ∷ 2 ∷ []) n)

-- the value lists of a horizon that the causal verdict passes: states for horizon 0, transitions for horizon 1
abbrev pub paths : ℕ → ℕ → ℕ → List Law → List (List ℕ) → List (List ℕ)
paths n m T ls vss = chosen (λ vs. is_path (causal_verdict n m T ls vs)) vss

-- a worked example: what a definition says of something
pub data Example : Type 0 where
  -- values and a table
  engine_says : List ℕ → List ℕ → Reply Verdict → Example
  -- of all sets over so many atoms, those that pass a table
  passing_are : ℕ → List ℕ → List (List ℕ) → Example
  -- values and a table by the completion formulas, without levels and with them
  formulas_say : List ℕ → List ℕ → Reply formulas.FormulaFinding → Example
  levels_say : List ℕ → List ℕ → List ℕ → Reply formulas.FormulaFinding → Example
  -- what they said before 02, §5
  formulas_said : List ℕ → List ℕ → Reply formulas.FormulaFinding → Example
  levels_said : List ℕ → List ℕ → List ℕ → Reply formulas.FormulaFinding → Example
  -- of all sets with one value for each of so many atoms, those that satisfy the completion formulas of a table
  holding_are : ℕ → List ℕ → List (List ℕ) → Example
  -- a description, its laws, and the room in the table
  translates : Description → List Law → ℕ → Reply Written → Example
  -- the words that are written
  table_is : Description → List Law → List ℕ → Example
  -- what the lent table holds before and after
  table_left : Description → List Law → List ℕ → List ℕ → Example
  -- the same for the history check and a set's values
  history_says : Description → List Law → List ℕ → Reply Finding → Example
  -- what it said before 02, §5
  history_said : Description → List Law → List ℕ → Reply Finding → Example
  history_leaves : Description → List Law → List ℕ → List ℕ → List ℕ → Example
  causal_says : Description → List Law → List ℕ → Reply Causal → Example
  -- values of n fluents and m actions cut after k steps, and their two halves
  cut_as : ℕ → ℕ → ℕ → List ℕ → List ℕ → List ℕ → Example
  -- two histories over n fluents, and the two joined
  joined_as : ℕ → List ℕ → List ℕ → List ℕ → Example
  -- the first and the last state of values over n fluents
  states_are : ℕ → List ℕ → List ℕ → List ℕ → Example
  -- of some lists of values, those that the causal verdict passes
  paths_are : ℕ → ℕ → ℕ → List Law → List (List ℕ) → List (List ℕ) → Example
  -- a run of so many law records is lent, a text, and what is read of it
  reads : ℕ → List ℕ → Reply Taken → Example
  -- a description text, a history text, the room for values, and the values read
  reads_history : List ℕ → List ℕ → ℕ → Reply (List ℕ) → Example
  -- the text written for a horizon, fluents, actions, the form of each law, the spelling of each use, and laws, which meet the
  -- conditions of the round trip
  writes : ℕ → List (List ℕ) → List (List ℕ) → (ℕ → Form) → Spelling → List Law → List ℕ → Example
  -- a history written by the spelling of each use and by a choice of the false actions that are listed
  writes_history : ℕ → List (List ℕ) → List (List ℕ) → Spelling → (ℕ → ℕ → Bool) → List ℕ → List ℕ → Example
  -- values of n fluents, m actions and a horizon of which some action has none
  lacks_action : ℕ → ℕ → ℕ → List ℕ → Example
  -- an input of the program and what it prints
  prints : List ℕ → List ℕ → Example
  -- the name shown for a fluent's number and for an action's
  shows_fluent : List ℕ → ℕ → List ℕ → Example
  shows_action : List ℕ → ℕ → List ℕ → Example
  -- a code with a value, and two numbers, as one number
  coded_as : ℕ → ℕ → ℕ → Example
  paired_as : ℕ → ℕ → ℕ → Example

abbrev pub Holds : Example → Type 0
Holds (engine_says vs ws reply) = engine.answer vs ws ≡ reply
Holds (passing_are atoms ws vss) = passing ws (all_values atoms) ≡ vss
Holds (formulas_say vs ws reply) = completion.answer vs ws ≡ reply
Holds (levels_say vs ws levels reply) = completion.answer_by_levels vs ws levels ≡ reply
Holds (formulas_said vs ws reply) = former_answer vs ws ≡ reply
Holds (levels_said vs ws levels reply) = former_answer_by_levels vs ws levels ≡ reply
Holds (holding_are atoms ws vss) = holding atoms ws ≡ vss
Holds (translates d ls words reply) = translated.outcome d ls (length ls) words ≡ reply
Holds (table_is d ls ws) = translated.table_for d ls ≡ ws
Holds (table_left d ls before after) = translated.table_after d ls (length ls) before ≡ after
Holds (history_says d ls vs reply) = history.checked d ls (length ls) vs room ≡ reply
Holds (history_said d ls vs reply) = former_checked d ls (length ls) vs room ≡ reply
Holds (history_leaves d ls vs before after) = history.table_after d ls (length ls) vs before ≡ after
Holds (causal_says d ls vs reply) = causal.reading d ls (length ls) vs ≡ reply
Holds (cut_as n m k vs first later) = (first_steps n m k vs ≡ first) × (later_steps n m k vs ≡ later)
Holds (joined_as n vs ws whole) = joined n vs ws ≡ whole
Holds (states_are n vs first last) = (first_state n vs ≡ first) × (last_state n vs ≡ last)
Holds (paths_are n m T ls vss expected) = paths n m T ls vss ≡ expected
Holds (reads lent text reply) = described lent text ≡ reply
Holds (reads_history description text values reply) = read_history description text values ≡ reply
Holds (writes T fluents actions forms spell ls text) =
    (description_text T fluents actions forms spell ls ≡ text) × Writable (length ls) T fluents actions ls × InCapitals spell
Holds (writes_history T fluents actions spell listed vs text) = (values_text T fluents actions spell listed vs ≡ text) × InCapitals spell
Holds (lacks_action n m T vs) = ActionsValued n m T vs → ⊥
Holds (prints input bytes) = output input ≡ bytes
Holds (shows_fluent text f name) = shown_fluent text f ≡ name
Holds (shows_action text k name) = shown_action text k ≡ name
Holds (coded_as code value number) = coded code value ≡ number
Holds (paired_as high low number) = pair high low ≡ number
