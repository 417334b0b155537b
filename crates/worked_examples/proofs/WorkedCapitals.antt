-- The worked examples of letter case hold.
-- Assumes nothing.
use mathlib.Core.Path.{refl}
use mathlib.Core.List.{[], ◌∷◌}
use native.Mathlib.Omega.{arith}
use Rattle.basics.specs.Search.{Each}
use Rattle.basics.specs.Quoted.{bytes}
use Rattle.basics.proofs.Pairs.{◌&◌}
use Rattle.spelling.specs.Spelling.{is_name}
use Rattle.text_forms.specs.Bytes.{cut}
use Rattle.text_forms.specs.Lines.{key_number, first_line}
use Rattle.text_forms.specs.Names.{literal}
use Rattle.text_forms.specs.Lists.{items, list_of}
use Rattle.line_values.specs.HorizonText.{horizon_of}
use Rattle.description_lines.specs.LineSteps.{read_head, line_step}
use Rattle.description_lines.specs.Descriptions.{described}
use Rattle.shown_names.specs.Shown.{shown_fluent, shown_action}
use Rattle.history_reader.specs.Histories.{read_history}
use Rattle.written_form.specs.Writing.{description_text}
use Rattle.written_form.specs.HistoryWriting.{values_text}
use Rattle.written_form.specs.Writable.{Writable}
use Rattle.worked_examples.specs.Examples.{Holds}
use Rattle.worked_examples.specs.Capitals.{two_laws, style_examples, capital_examples}
use Rattle.worked_examples.proofs.Spelled.{capitals-any}

two-writable : Writable 2 1 (bytes "a" ∷ []) (bytes "c" ∷ []) two_laws
unfolding is_name
two-writable = record {
  horizon-from = omega arith;
  horizon-to = omega arith;
  some-fluent = omega arith;
  few-fluents = omega arith;
  few-actions = omega arith;
  are-names = (refl, (refl, tt));
  distinct = ((refl, tt), (tt, tt));
  few-laws = omega arith;
  held-laws = omega arith;
  laws-fit = (refl, (refl, tt));
  laws-tidy = (refl, (refl, tt));
}

pub style-examples : Each Holds style_examples
unfolding cut key_number first_line is_name literal items list_of horizon_of read_head line_step described read_history
    shown_fluent shown_action description_text values_text
style-examples =
    refl & refl & refl & refl & refl & (refl, two-writable, capitals-any 1 2 1)
    & (refl, two-writable, capitals-any 0 0 0) & (refl, capitals-any 0 1 0) & tt

pub capital-examples : Each Holds capital_examples
unfolding cut key_number first_line is_name literal items list_of horizon_of read_head line_step described read_history
capital-examples =
    refl & refl & refl & refl & refl & refl & refl & refl & refl & refl & refl & refl & refl & refl & refl & refl & refl
    & refl & refl & refl & refl & refl & refl & refl & tt
