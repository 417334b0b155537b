-- `names::literal` meets its contract: a hyphen and a name, or a name.
-- Assumes nothing.
use mathlib.Core.Path.{◌∙◌}
use Rattle.text.proofs.Spelling.{literal-signed, literal-plain}
use Rattle.text.proofs.names.literal.Goals as goal

pub returns-in-Some : goal.returns-in-Some
returns-in-Some c =
    let cut = c.in-Some.ensures.cases in
    c.in_sort.ensures ∙ rw c.find_name.ensures.place (literal-signed _ _ _ _ _ cut.0 cut.1)

pub returns-in-None : goal.returns-in-None
returns-in-None c = c.in_sort-in-None.ensures ∙ rw c.find_name-in-None.ensures.place (literal-plain _ _ _ _ c.in-None.ensures.cases)
