-- The worked examples hold of the definitions.
-- Assumes nothing.
use mathlib.Core.Path.{refl}
use Rattle.basics.specs.Search.{Each}
use Rattle.basics.proofs.Pairs.{◌&◌}
use Rattle.logic_programs.specs.Literals.{complement, set_of, holds_true, holds_false}
use Rattle.logic_programs.specs.Words.{rules_of, bad_rule}
use Rattle.completion_theory.specs.Findings.{judged_by_formulas, formula_finding}
use Rattle.completion_theory.specs.LevelLists.{bad_levels}
use Rattle.completion_theory.specs.Answers.{answer, answer_by_levels}
use Rattle.completion_theory.specs.Examples.{Holds, examples, HoldsByLevels, level_examples}

pub worked : Each Holds examples
unfolding answer formula_finding judged_by_formulas rules_of bad_rule set_of holds_true holds_false complement
worked =
    refl & refl & refl & refl & refl & refl & refl & refl & refl & refl & refl & refl & refl & refl & refl & refl & refl
    & refl & refl & refl & refl & refl & refl & refl & tt

pub worked-levels : Each HoldsByLevels level_examples
unfolding answer_by_levels bad_levels formula_finding judged_by_formulas rules_of bad_rule set_of holds_true holds_false complement
worked-levels = refl & refl & refl & refl & refl & refl & refl & refl & refl & refl & refl & refl & refl & tt
