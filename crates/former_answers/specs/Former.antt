-- What the history check and the completion formulas answered before 02, §5: missing with the lowest atom of value 0, then clash with
-- the lowest of value 3, wherever it lies. The refusals are those of now.
-- Assumes nothing.
use Rattle.std.specs.Prelude.{List, ℕ, eqb, length}
use Rattle.basics.specs.Search.{first}
use Rattle.basics.specs.Replies.{Reply, answered, or_else, or_refuse}
use Rattle.logic_programs.specs.Literals.{set_of}
use Rattle.logic_programs.specs.Words.{rules_of}
use Rattle.rule_tables.specs.Acceptance.{after_tests}
use Rattle.answer_set_theory.specs.Answers as engine
use Rattle.action_language.specs.declared.Law.{Law}
use Rattle.action_language.specs.declared.Description.{Description}
use Rattle.translation_rules.specs.Translated as translated
use Rattle.history_check.specs.Checks as history
use Rattle.completion_theory.specs.Findings as formulas
use Rattle.completion_theory.specs.LevelLists.{bad_levels}

-- clash was the engine's own
abbrev pub former_finding : List ℕ → List ℕ → Reply history.Finding
former_finding vs ws = or_else (first (eqb 0) 0 vs) (λ atom. answered (history.missing atom)) (history.of_engine (engine.answer vs ws))

abbrev pub former_checked : Description → List Law → ℕ → List ℕ → ℕ → Reply history.Finding
former_checked d ls lent vs room =
    translated.after_translation (translated.outcome d ls lent room) vs (former_finding vs (translated.table_for d ls))

abbrev pub former_formulas : List ℕ → List ℕ → formulas.FormulaFinding
former_formulas vs ws =
    or_else (first (eqb 0) 0 vs) formulas.missing
    (or_else (first (eqb 3) 0 vs) formulas.clash
    (formulas.judged_by_formulas (length vs) (rules_of ws) (set_of vs)))

abbrev pub former_answer : List ℕ → List ℕ → Reply formulas.FormulaFinding
former_answer vs ws = after_tests vs ws (answered (former_formulas vs ws))

abbrev pub former_answer_by_levels : List ℕ → List ℕ → List ℕ → Reply formulas.FormulaFinding
former_answer_by_levels vs ws levels =
    after_tests vs ws (or_refuse (bad_levels (length vs) ws levels) 13 (answered (former_formulas vs ws)))
