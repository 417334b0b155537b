-- The worked examples of the short laws hold.
-- Assumes nothing.
use mathlib.Core.Path.{refl}
use Rattle.basics.specs.Search.{Each}
use Rattle.basics.proofs.Pairs.{◌&◌}
use Rattle.text_forms.specs.Bytes.{cut}
use Rattle.text_forms.specs.Lines.{key_number, first_line}
use Rattle.spelling.specs.Spelling.{is_name}
use Rattle.text_forms.specs.Names.{literal}
use Rattle.text_forms.specs.Lists.{items, list_of}
use Rattle.line_values.specs.HorizonText.{horizon_of}
use Rattle.description_lines.specs.LineSteps.{read_head, line_step}
use Rattle.description_lines.specs.Descriptions.{described}
use Rattle.written_form.specs.Writing.{description_text}
use Rattle.worked_examples.specs.Examples.{Holds}
use Rattle.worked_examples.specs.Short.{short_recipe_examples, short_examples}
use Rattle.worked_examples.proofs.Spelled.{declared}
use Rattle.worked_examples.proofs.WorkedTexts.{recipe-writable}

pub short-recipe : Each Holds short_recipe_examples
unfolding cut key_number first_line is_name literal items list_of horizon_of read_head line_step described description_text
short-recipe = (refl, ((refl, recipe-writable, declared), tt))

pub short-examples : Each Holds short_examples
unfolding cut key_number first_line is_name literal items list_of horizon_of read_head line_step described
short-examples =
    refl & refl & refl & refl & refl & refl & refl & refl & refl & refl & refl & refl & refl & refl & refl & refl & refl
    & refl & refl & refl & refl & refl & refl & refl & refl & refl & refl & refl & refl & refl & refl & tt
