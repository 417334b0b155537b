-- Demand 3: one claim about a whole history, its horizon left open. The published translation, the engine on the words
-- that the translation left, the completion formulas of those words, the history check and the causal reading each pass a set
-- exactly if it is a path of causally explained transitions.
-- Assumes nothing.
use Rattle.std.specs.Prelude.{◌≡◌, ◌↔◌, List, ℕ, ◌≤◌, ◌<◌, length, take}
use Rattle.std.proofs.Math.Option.{none}
use Rattle.basics.specs.Search.{Each}
use Rattle.basics.specs.Replies.{refused, answered}
use Rattle.logic_programs.specs.Literals.{OneValue, set_of}
use Rattle.logic_programs.specs.AnswerSets.{AnswerSet}
use Rattle.answer_set_theory.specs.Verdicts.{passes}
use Rattle.answer_set_theory.specs.Answers as engine
use Rattle.completion_theory.specs.Findings.{holds}
use Rattle.completion_theory.specs.Answers as completion
use Rattle.action_language.specs.declared.Law.{Law}
use Rattle.action_language.specs.declared.Description.{Description}
use Rattle.action_language.specs.Laws.{laws_of}
use Rattle.action_language.specs.Atoms.{atom_count}
use Rattle.action_language.specs.Acceptance.{bad_record, bad_horizon}
use Rattle.transitions.specs.Meaning.{Path}
use Rattle.translation_rules.specs.Translated.{rules_for, table_for, table_after}
use Rattle.history_check.specs.Checks as history
use Rattle.causal_reading.specs.Verdicts.{path}
use Rattle.causal_reading.specs.Readings as causal

-- the description is accepted: neither its records, of which some number is lent, nor its horizon are refused; and the set has
-- one value for each atom: as many bytes as atoms, each 1 or 2
pub record Complete (d : Description) (ls : List Law) (lent : ℕ) (vs : List ℕ) : Type 0 where
  pub records : bad_record d ls lent ≡ none
  pub horizon : bad_horizon d.horizon ≡ none
  pub size : length vs ≡ atom_count d.fluents d.actions d.horizon
  pub one_value : Each OneValue vs

-- the set is a path of the description's causally explained transitions, all T steps
abbrev pub PathOf : Description → List Law → List ℕ → Type 0
PathOf d ls vs = Path d.fluents d.actions d.horizon (laws_of d ls) vs

-- each of the five readings passes the set exactly if it is a path
pub record FiveReadings (d : Description) (ls : List Law) (lent : ℕ) (vs : List ℕ) : Type 0 where
  -- 000, Proposition 1
  pub answer-set : AnswerSet (rules_for d ls) (set_of vs) ↔ PathOf d ls vs
  -- the translated table: the words left at the front of a table that is long enough, whatever stood there before
  pub engine-passes : (old : List ℕ) → length (table_for d ls) ≤ length old
      → engine.answer vs (take (length (table_for d ls)) (table_after d ls lent old)) ≡ answered passes ↔ PathOf d ls vs
  -- the completion formulas of the same words
  pub completion-holds : (old : List ℕ) → length (table_for d ls) ≤ length old
      → completion.answer vs (take (length (table_for d ls)) (table_after d ls lent old)) ≡ answered holds ↔ PathOf d ls vs
  -- for every table that is long enough; else the refusal is 9
  pub history-passes : (room : ℕ) → length (table_for d ls) ≤ room
      → history.checked d ls lent vs room ≡ answered (history.judged passes) ↔ PathOf d ls vs
  pub history-refused : (room : ℕ) → room < length (table_for d ls)
      → history.checked d ls lent vs room ≡ refused 9 (length (table_for d ls))
  pub causal-path : causal.reading d ls lent vs ≡ answered path ↔ PathOf d ls vs

-- for all descriptions, law runs, numbers lent and values
abbrev pub Demand3 : Type 0
Demand3 = (d : Description) (ls : List Law) (lent : ℕ) (vs : List ℕ) → Complete d ls lent vs → FiveReadings d ls lent vs
