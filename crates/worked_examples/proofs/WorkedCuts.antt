-- The worked examples of cutting and joining hold.
-- Assumes nothing.
use mathlib.Core.Path.{refl}
use Rattle.basics.specs.Search.{Each}
use Rattle.basics.proofs.Pairs.{◌&◌}
use Rattle.logic_programs.specs.Literals.{complement, set_of, holds_true, holds_false}
use Rattle.logic_programs.specs.Words.{rules_of, bad_rule}
use Rattle.answer_set_theory.specs.Verdicts.{verdict}
use Rattle.answer_set_theory.specs.Answers as engine
use Rattle.completion_theory.specs.Findings as formulas
use Rattle.completion_theory.specs.Answers as completion
use Rattle.action_language.specs.Acceptance.{bad_record, bad_horizon}
use Rattle.translation_rules.specs.Rules.{translation}
use Rattle.translation_rules.specs.Translated as translated
use Rattle.history_check.specs.Checks as history
use Rattle.causal_reading.specs.Verdicts.{causal_verdict}
use Rattle.causal_reading.specs.Readings as causal
use Rattle.worked_examples.specs.Examples.{Holds}
use Rattle.worked_examples.specs.Cuts.{cut_examples, join_examples, apart_examples}

pub cut-examples : Each Holds cut_examples
unfolding engine.answer verdict rules_of bad_rule set_of holds_true holds_false complement bad_record bad_horizon translation
    translated.outcome history.checked causal_verdict causal.reading completion.answer formulas.formula_finding
    formulas.judged_by_formulas
cut-examples =
    refl & refl & refl & refl & (refl, refl) & refl & refl & refl & refl & refl & refl & refl & refl & (refl, refl)
    & refl & refl & refl & refl & refl & refl & refl & refl & (refl, refl) & refl & refl & refl & refl & refl & refl
    & refl & refl & (refl, refl) & (refl, refl) & refl & refl & tt

pub join-examples : Each Holds join_examples
unfolding engine.answer verdict rules_of bad_rule set_of holds_true holds_false complement bad_record bad_horizon translation
    translated.outcome history.checked causal_verdict causal.reading completion.answer formulas.formula_finding
    formulas.judged_by_formulas
join-examples = ((refl, refl), ((refl, refl), (refl, (refl, (refl, (refl, (refl, (refl, (refl, tt)))))))))

pub apart-examples : Each Holds apart_examples
unfolding engine.answer verdict rules_of bad_rule set_of holds_true holds_false complement bad_record bad_horizon translation
    translated.outcome history.checked causal_verdict causal.reading completion.answer formulas.formula_finding
    formulas.judged_by_formulas
apart-examples =
    refl & refl & refl & refl & (refl, refl) & refl & refl & refl & refl & refl & refl & refl & refl & refl & refl
    & refl & refl & refl & refl & refl & refl & tt
