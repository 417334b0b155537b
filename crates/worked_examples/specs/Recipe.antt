-- What the description reader is left with of 01's full recipe.
-- Assumes nothing.
use Rattle.basics.specs.Quoted.{bytes}
use Rattle.std.specs.Prelude.{List, [], ◌∷◌, ◌++◌, ℕ}
use Rattle.action_language.specs.Examples.{recipe_laws}
use Rattle.description_lines.specs.LineSteps.{Draft}

abbrev pub recipe_fluents : List (List ℕ)
recipe_fluents = bytes "locked" ∷ bytes "flowed" ∷ []

abbrev pub recipe_actions : List (List ℕ)
recipe_actions = bytes "reflow" ∷ []

abbrev pub recipe_draft : Draft
recipe_draft = record { horizon = 1; fluents = 2; names = recipe_fluents ++ recipe_actions; laws = recipe_laws }
