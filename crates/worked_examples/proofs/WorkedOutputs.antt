-- What the program prints for the example texts.
-- Assumes nothing.
use mathlib.Core.Path.{refl}
use Rattle.basics.specs.Search.{Each}
use Rattle.logic_programs.specs.Literals.{complement, set_of, holds_true, holds_false}
use Rattle.answer_set_theory.specs.Verdicts.{verdict}
use Rattle.logic_programs.specs.Words.{rules_of, bad_rule}
use Rattle.answer_set_theory.specs.Answers as engine
use Rattle.action_language.specs.Acceptance.{bad_record, bad_horizon}
use Rattle.translation_rules.specs.Rules.{translation}
use Rattle.translation_rules.specs.Translated as translated
use Rattle.history_check.specs.Checks as history
use Rattle.causal_reading.specs.Verdicts.{causal_verdict}
use Rattle.causal_reading.specs.Readings as causal
use Rattle.text_forms.specs.Bytes.{cut}
use Rattle.text_forms.specs.Lines.{key_number, first_line}
use Rattle.spelling.specs.Spelling.{is_name}
use Rattle.text_forms.specs.Names.{literal}
use Rattle.text_forms.specs.Lists.{items, list_of}
use Rattle.line_values.specs.HorizonText.{horizon_of}
use Rattle.description_lines.specs.LineSteps.{read_head, line_step}
use Rattle.description_lines.specs.Descriptions.{described}
use Rattle.history_reader.specs.Histories.{read_history}
use Rattle.shown_names.specs.Shown.{shown_fluent}
use Rattle.whole_inputs.specs.Inputs.{recorded_in}
use Rattle.printed_lines.specs.Writing.{decimal}
use Rattle.report_theory.specs.Output.{output}
use Rattle.worked_examples.specs.Examples.{Holds}
use Rattle.worked_examples.specs.Worked.{output_examples}

pub output-examples : Each Holds output_examples
unfolding output decimal shown_fluent engine.answer verdict rules_of bad_rule set_of holds_true holds_false complement
    bad_record bad_horizon translation translated.outcome history.checked causal_verdict causal.reading cut key_number
    first_line is_name literal items list_of horizon_of read_head line_step described read_history recorded_in
output-examples = (refl, (refl, (refl, (refl, (refl, (refl, (refl, (refl, (refl, (refl, tt))))))))))
