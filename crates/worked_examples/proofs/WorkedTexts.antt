-- The worked examples by texts hold.
-- Assumes nothing.
use mathlib.Core.Path.{refl}
use native.Mathlib.Omega.{arith}
use Rattle.basics.specs.Search.{Each}
use Rattle.basics.proofs.Pairs.{◌&◌}
use Rattle.text_forms.specs.Bytes.{cut}
use Rattle.text_forms.specs.Lines.{key_number, first_line}
use Rattle.spelling.specs.Spelling.{is_name}
use Rattle.text_forms.specs.Names.{literal}
use Rattle.text_forms.specs.Lists.{items, list_of}
use Rattle.line_values.specs.HorizonText.{horizon_of}
use Rattle.description_lines.specs.LineSteps.{read_head, line_step}
use Rattle.description_lines.specs.Descriptions.{described}
use Rattle.shown_names.specs.Shown.{shown_fluent, shown_action}
use Rattle.history_reader.specs.Histories.{read_history}
use Rattle.written_form.specs.Writing.{description_text}
use Rattle.written_form.specs.HistoryWriting.{values_text}
use Rattle.written_form.specs.Writable.{Writable}
use Rattle.action_language.specs.Examples.{recipe_laws}
use Rattle.worked_examples.specs.Examples.{Holds}
use Rattle.worked_examples.specs.Recipe.{recipe_fluents, recipe_actions}
use Rattle.worked_examples.specs.Worked.{text_examples}
use Rattle.worked_examples.proofs.Spelled.{declared}

pub recipe-writable : Writable 6 1 recipe_fluents recipe_actions recipe_laws
unfolding is_name
recipe-writable = record {
  horizon-from = omega arith;
  horizon-to = omega arith;
  some-fluent = omega arith;
  few-fluents = omega arith;
  few-actions = omega arith;
  are-names = (refl, (refl, (refl, tt)));
  distinct = ((refl, (refl, tt)), ((refl, tt), (tt, tt)));
  few-laws = omega arith;
  held-laws = omega arith;
  laws-fit = (refl, (refl, (refl, (refl, (refl, (refl, tt))))));
  laws-tidy = (refl, (refl, (refl, (refl, (refl, (refl, tt))))));
}

pub text-examples : Each Holds text_examples
unfolding cut key_number first_line is_name literal items list_of horizon_of read_head line_step described read_history
    shown_fluent shown_action description_text values_text
text-examples =
    refl & refl & refl & refl & refl & refl & refl & refl & refl & refl & refl & (refl, recipe-writable, declared) & (refl, declared) & tt
