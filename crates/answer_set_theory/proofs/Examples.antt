-- The worked examples hold of the definitions.
-- Assumes nothing.
use mathlib.Core.Path.{refl}
use Rattle.basics.specs.Search.{Each}
use Rattle.logic_programs.specs.Literals.{set_of, holds_true, holds_false}
use Rattle.answer_set_theory.specs.Verdicts.{verdict}
use Rattle.logic_programs.specs.Words.{rules_of, bad_rule}
use Rattle.answer_set_theory.specs.Answers.{answer}
use Rattle.answer_set_theory.specs.Examples.{Holds, examples, RoundHolds, round_examples}

pub worked : Each Holds examples
unfolding answer verdict rules_of bad_rule set_of holds_true holds_false
worked = (refl, (refl, (refl, (refl, (refl, (refl, (refl, (refl, (refl, (refl, tt))))))))))

pub rounds-worked : Each RoundHolds round_examples
unfolding rules_of
rounds-worked = (refl, (refl, (refl, (refl, (refl, (refl, (refl, tt)))))))
