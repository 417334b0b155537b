-- How many places among the laws lent are kept for what is due: one for a law that has begun.
-- Assumes nothing.
use Rattle.std.specs.Prelude.{ℕ, Option, Some}
use Rattle.description_reader.specs.declared.states.Due.{Due}
use Rattle.description_reader.specs.declared.states.Due.TheVariants.{If, After, By}

abbrev pub needed : Option Due → ℕ
needed (Some (If kind head)) = 1
needed (Some (After law)) = 1
needed (Some (By head)) = 1
needed due = 0
