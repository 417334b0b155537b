-- The worked examples of reading a description.
-- Assumes nothing.
use mathlib.Core.Path.{refl}
use Rattle.spelling.specs.Spelling.{is_name}
use Rattle.text_forms.specs.Bytes.{cut}
use Rattle.text_forms.specs.Lines.{key_number, first_line}
use Rattle.text_forms.specs.Names.{literal}
use Rattle.text_forms.specs.Lists.{items, list_of}
use Rattle.line_values.specs.HorizonText.{horizon_of}
use Rattle.description_lines.specs.LineSteps.{read_head, line_step}
use Rattle.description_lines.specs.Descriptions.{described}
use Rattle.description_lines.specs.LineExamples.{LinesRead}

pub lines-read : LinesRead
unfolding described first_line cut key_number line_step literal list_of items read_head is_name horizon_of
lines-read = record {
  no_line = refl;
  other_key = refl;
  no_end = refl;
  end-with-a-value = refl;
  second-default = refl;
  second-inertial = refl;
  second-static = refl;
  law-where-none-is-lent = refl;
  unknown-literal = refl;
  unknown-item = refl;
  unknown-item-of-a-law = refl;
}
