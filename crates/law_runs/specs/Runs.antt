-- 64 law records by value, in which every count and place is 0: what a program lends to the description reader at first.
-- Assumes nothing.
use Rattle.std.specs.Prelude.{List, replicate}
use Rattle.action_language.specs.declared.Law.{Law}
use Rattle.action_language.specs.Laws.{no_law}

unfoldable pub no_laws : List Law
no_laws = replicate 64 no_law
