-- The worked examples of atoms that have no value or both hold.
-- Assumes nothing.
use mathlib.Core.Path.{refl}
use Rattle.basics.specs.Search.{Each}
use Rattle.basics.proofs.Pairs.{◌&◌}
use Rattle.logic_programs.specs.Literals.{complement, set_of, holds_true, holds_false}
use Rattle.logic_programs.specs.Words.{rules_of, bad_rule}
use Rattle.answer_set_theory.specs.Verdicts.{verdict}
use Rattle.answer_set_theory.specs.Answers as engine
use Rattle.completion_theory.specs.Findings as formulas
use Rattle.completion_theory.specs.LevelLists.{bad_levels}
use Rattle.completion_theory.specs.Answers as completion
use Rattle.action_language.specs.Acceptance.{bad_record, bad_horizon}
use Rattle.translation_rules.specs.Rules.{translation}
use Rattle.translation_rules.specs.Translated as translated
use Rattle.history_check.specs.Checks as history
use Rattle.worked_examples.specs.Examples.{Holds}
use Rattle.worked_examples.specs.Faults.{fault_examples}

pub fault-examples : Each Holds fault_examples
unfolding engine.answer verdict rules_of bad_rule set_of holds_true holds_false complement bad_record bad_horizon translation
    translated.outcome history.checked history.table_after completion.answer completion.answer_by_levels bad_levels
    formulas.formula_finding formulas.judged_by_formulas
fault-examples =
    refl & refl & refl & refl & refl & refl & refl & refl & refl & refl & refl & refl & refl & refl & refl & refl & refl
    & refl & refl & refl & refl & refl & refl & refl & refl & refl & refl & refl & refl & refl & refl & refl & refl
    & refl & refl & refl & refl & refl & refl & refl & refl & refl & refl & tt
