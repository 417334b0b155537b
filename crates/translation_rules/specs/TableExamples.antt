-- Worked examples of the translation: what 01 writes out of its full recipe's table, and a table with just enough room and with one
-- word less.
-- Assumes nothing.
use Rattle.std.specs.Prelude.{◌≡◌, [], ◌∷◌, take, drop}
use Rattle.basics.specs.Replies.{refused, answered}
use Rattle.action_language.specs.Examples.{recipe, recipe_laws}
use Rattle.translation_rules.specs.Translated.{written, table_for, outcome}

pub record RecipeTable : Type 0 where
  -- rules 0, 1 and 2
  pub laws-first : take 14 (table_for recipe recipe_laws) ≡ 8 ∷ 0 ∷ 1 ∷ 4 ∷ 65535 ∷ 0 ∷ 2 ∷ 4 ∷ 0 ∷ 6 ∷ 1 ∷ 1 ∷ 7 ∷ 0 ∷ []
  -- rules 6 and 7, behind three more of 5 words each
  pub choices-last : take 8 (drop 29 (table_for recipe recipe_laws)) ≡ 1 ∷ 1 ∷ 0 ∷ 0 ∷ 0 ∷ 1 ∷ 0 ∷ 1 ∷ []
  -- 5 atoms, 12 rules and 53 words
  pub room-enough : outcome recipe recipe_laws 6 53 ≡ answered (written 5 12 53)
  pub room-short : outcome recipe recipe_laws 6 52 ≡ refused 9 53
