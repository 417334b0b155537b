-- When a history passes, once for the path and once for each of demand 3's readings, by the definitions that the public functions
-- promise.
-- Assumes nothing.
use Rattle.std.specs.Prelude.{◌≡◌, List, ℕ, ◌≤◌, length, take}
use Rattle.basics.specs.Replies.{answered}
use Rattle.logic_programs.specs.Literals.{set_of}
use Rattle.logic_programs.specs.AnswerSets.{AnswerSet}
use Rattle.answer_set_theory.specs.Verdicts.{passes}
use Rattle.answer_set_theory.specs.Answers as engine
use Rattle.completion_theory.specs.Findings.{holds}
use Rattle.completion_theory.specs.Answers as completion
use Rattle.action_language.specs.declared.Law.{Law}
use Rattle.action_language.specs.declared.Description.{Description}
use Rattle.translation_rules.specs.Translated.{rules_for, table_for, table_after}
use Rattle.history_check.specs.Checks as history
use Rattle.causal_reading.specs.Verdicts.{path}
use Rattle.causal_reading.specs.Readings as causal
use Rattle.correctness.specs.Demand3.{Complete, PathOf}

-- what passes: a description, a run of laws, the number of them lent, values, and a table lent
abbrev pub Criterion : Type 1
Criterion = Description → List Law → ℕ → List ℕ → List ℕ → Type 0

-- a path of causally explained transitions
abbrev pub by_path : Criterion
by_path d ls lent vs table = PathOf d ls vs

-- an answer set of the published translation
abbrev pub by_answer_set : Criterion
by_answer_set d ls lent vs table = AnswerSet (rules_for d ls) (set_of vs)

-- the engine passes, on the words that the translation leaves in front
abbrev pub by_engine : Criterion
by_engine d ls lent vs table = engine.answer vs (take (length (table_for d ls)) (table_after d ls lent table)) ≡ answered passes

-- the completion formulas of these words hold
abbrev pub by_formulas : Criterion
by_formulas d ls lent vs table = completion.answer vs (take (length (table_for d ls)) (table_after d ls lent table)) ≡ answered holds

-- the history check passes
abbrev pub by_history : Criterion
by_history d ls lent vs table = history.checked d ls lent vs (length table) ≡ answered (history.judged passes)

-- the causal reading says path
abbrev pub by_causes : Criterion
by_causes d ls lent vs table = causal.reading d ls lent vs ≡ answered path

-- passed: the description is accepted, the values are one for each atom, and the reading passes them, whatever table is lent that
-- is long enough
pub record Passed (Passes : Criterion) (d : Description) (ls : List Law) (lent : ℕ) (vs : List ℕ) : Type 0 where
  pub complete : Complete d ls lent vs
  pub passes : (table : List ℕ) → length (table_for d ls) ≤ length table → Passes d ls lent vs table
