-- The worked examples of the command log hold.
-- Assumes nothing.
use mathlib.Core.Path.{refl}
use native.Mathlib.Omega.{arith}
use Rattle.basics.specs.Search.{Each}
use Rattle.logic_programs.specs.Literals.{complement, set_of, holds_true, holds_false}
use Rattle.answer_set_theory.specs.Verdicts.{verdict}
use Rattle.logic_programs.specs.Words.{rules_of, bad_rule}
use Rattle.answer_set_theory.specs.Answers as engine
use Rattle.action_language.specs.Acceptance.{bad_record, bad_horizon}
use Rattle.translation_rules.specs.Rules.{translation}
use Rattle.translation_rules.specs.Translated as translated
use Rattle.history_check.specs.Checks as history
use Rattle.causal_reading.specs.Verdicts.{causal_verdict}
use Rattle.causal_reading.specs.Readings as causal
use Rattle.text_forms.specs.Bytes.{cut}
use Rattle.text_forms.specs.Lines.{key_number, first_line}
use Rattle.spelling.specs.Spelling.{is_name}
use Rattle.text_forms.specs.Names.{literal}
use Rattle.text_forms.specs.Lists.{items, list_of}
use Rattle.line_values.specs.HorizonText.{horizon_of}
use Rattle.description_lines.specs.LineSteps.{read_head, line_step}
use Rattle.description_lines.specs.Descriptions.{described}
use Rattle.history_reader.specs.Histories.{read_history}
use Rattle.written_form.specs.HistoryWriting.{values_text}
use Rattle.worked_examples.specs.Examples.{Holds}
use Rattle.worked_examples.proofs.Spelled.{declared}
use Rattle.worked_examples.specs.Log.{log_examples, caller_examples}

pub log-examples : Each Holds log_examples
unfolding cut key_number first_line is_name literal items list_of horizon_of read_head line_step described read_history values_text
log-examples = (refl, (refl, (refl, (refl, (refl, ((refl, declared), ((refl, declared), ((refl, declared), tt))))))))

pub caller-examples : Each Holds caller_examples
unfolding engine.answer verdict rules_of bad_rule set_of holds_true holds_false complement bad_record bad_horizon translation
    translated.outcome history.checked causal_verdict causal.reading
caller-examples = (
  refl,
  (
    refl,
    (
      (λ h. h 0 0 (omega arith) (omega arith) refl),
      ((λ h. h 1 1 (omega arith) (omega arith) refl), ((λ h. h 1 1 (omega arith) (omega arith) refl), tt)),
    ),
  ),
)
