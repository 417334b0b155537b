-- The worked examples of the text format hold.
-- Assumes nothing.
use mathlib.Core.Path.{refl}
use Rattle.basics.specs.Search.{Each}
use Rattle.basics.proofs.Pairs.{◌&◌}
use Rattle.text_forms.specs.Bytes.{cut}
use Rattle.text_forms.specs.Lines.{key_number, first_line}
use Rattle.spelling.specs.Spelling.{is_name}
use Rattle.text_forms.specs.Names.{literal}
use Rattle.text_forms.specs.Lists.{items, list_of}
use Rattle.line_values.specs.HorizonText.{horizon_of}
use Rattle.description_lines.specs.LineSteps.{read_head, line_step}
use Rattle.description_lines.specs.Descriptions.{described}
use Rattle.shown_names.specs.Shown.{shown_fluent, shown_action}
use Rattle.history_reader.specs.Histories.{read_history}
use Rattle.worked_examples.specs.Examples.{Holds}
use Rattle.worked_examples.specs.Format.{reader_examples, line_examples, history_examples}

pub reader-examples : Each Holds reader_examples
unfolding cut key_number first_line is_name literal items list_of horizon_of read_head line_step described read_history
    shown_fluent shown_action
reader-examples =
    refl & refl & refl & refl & refl & refl & refl & refl & refl & refl & refl & refl & refl & refl & refl & refl & refl
    & refl & refl & refl & refl & refl & refl & refl & refl & refl & refl & refl & refl & refl & refl & refl & refl
    & refl & refl & refl & refl & refl & refl & tt

pub line-examples : Each Holds line_examples
unfolding cut key_number first_line is_name literal items list_of horizon_of read_head line_step described read_history
    shown_fluent shown_action
line-examples =
    refl & refl & refl & refl & refl & refl & refl & refl & refl & refl & refl & refl & refl & refl & refl & refl & refl
    & refl & refl & refl & refl & refl & refl & refl & tt

pub history-examples : Each Holds history_examples
unfolding cut key_number first_line is_name literal items list_of horizon_of read_head line_step described read_history
    shown_fluent shown_action
history-examples = refl & refl & refl & refl & refl & refl & refl & refl & refl & refl & refl & refl & refl & refl & refl & refl & refl & tt
