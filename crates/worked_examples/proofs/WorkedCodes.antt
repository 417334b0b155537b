-- The worked examples of the numbers for C hold, and those of the largest table, which are counted and not computed.
-- Assumes nothing.
use mathlib.Core.Path.{refl}
use Rattle.basics.specs.Search.{Each}
use Rattle.answer_codes.specs.Codes.{coded, pair}
use Rattle.worked_examples.specs.Examples.{Holds}
use Rattle.worked_examples.specs.Worked.{largest_examples, code_examples}
use Rattle.worked_examples.proofs.Tables.{largest-taken, largest-refused}

pub largest-examples : Each Holds largest_examples
largest-examples = (largest-taken, (largest-refused, tt))

pub code-examples : Each Holds code_examples
unfolding coded pair
code-examples = (refl, (refl, (refl, (refl, tt))))
