-- The worked examples of marks hold of the definition.
-- Assumes nothing.
use mathlib.Core.Path.{refl}
use Rattle.basics.specs.Search.{Each}
use Rattle.literal_sets.specs.Marks.{marked}
use Rattle.literal_sets.specs.MarkExamples.{Holds, examples}

pub worked : Each Holds examples
unfolding marked
worked = (refl, (refl, (refl, (refl, (refl, (refl, (refl, (refl, (refl, (refl, (refl, (refl, (refl, tt)))))))))))))
