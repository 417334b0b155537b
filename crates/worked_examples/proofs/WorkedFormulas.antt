-- The worked examples by the completion formulas hold.
-- Assumes nothing.
use mathlib.Core.Path.{refl}
use Rattle.basics.specs.Search.{Each}
use Rattle.basics.proofs.Lists.{each-mapped}
use Rattle.logic_programs.specs.Literals.{complement, set_of, holds_true, holds_false}
use Rattle.logic_programs.specs.Words.{rules_of, bad_rule}
use Rattle.completion_theory.specs.Findings.{judged_by_formulas, formula_finding}
use Rattle.completion_theory.specs.LevelLists.{bad_levels}
use Rattle.completion_theory.specs.Answers.{answer, answer_by_levels}
use Rattle.completion_theory.specs.Examples as of-crate
use Rattle.completion_theory.proofs.Examples as of-crate-holds
use Rattle.worked_examples.specs.Examples.{Holds}
use Rattle.worked_examples.specs.Formulas.{from_formulas, from_levels, crate_formulas, crate_levels, formula_examples}

-- as their crate shows
pub crate-formulas : Each Holds crate_formulas
crate-formulas = (each-mapped Holds from_formulas of-crate.examples).1 of-crate-holds.worked

pub crate-levels : Each Holds crate_levels
crate-levels = (each-mapped Holds from_levels of-crate.level_examples).1 of-crate-holds.worked-levels

pub formula-examples : Each Holds formula_examples
unfolding answer answer_by_levels bad_levels formula_finding judged_by_formulas rules_of bad_rule set_of holds_true holds_false complement
formula-examples = (refl, (refl, (refl, (refl, (refl, (refl, (refl, (refl, (refl, (refl, (refl, (refl, (refl, tt)))))))))))))
