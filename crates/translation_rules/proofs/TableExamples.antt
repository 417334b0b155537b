-- The worked examples of the translation.
-- Assumes nothing.
use mathlib.Core.Path.{refl}
use Rattle.logic_programs.specs.Literals.{complement}
use Rattle.action_language.specs.Acceptance.{bad_record, bad_horizon}
use Rattle.translation_rules.specs.Rules.{translation}
use Rattle.translation_rules.specs.Translated.{outcome}
use Rattle.translation_rules.specs.TableExamples.{RecipeTable}

pub recipe-table : RecipeTable
unfolding translation outcome bad_record bad_horizon complement
recipe-table = record {
  laws-first = refl;
  choices-last = refl;
  room-enough = refl;
  room-short = refl;
}
