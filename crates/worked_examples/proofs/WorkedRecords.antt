-- The worked examples by records and values hold, and those of 000.
-- Assumes nothing.
use mathlib.Core.Path.{refl}
use Rattle.basics.specs.Search.{Each}
use Rattle.basics.proofs.Lists.{each-mapped}
use Rattle.basics.proofs.Pairs.{◌&◌}
use Rattle.logic_programs.specs.Literals.{complement, set_of, holds_true, holds_false}
use Rattle.answer_set_theory.specs.Verdicts.{verdict}
use Rattle.logic_programs.specs.Words.{rules_of, bad_rule}
use Rattle.answer_set_theory.specs.Answers as engine
use Rattle.answer_set_theory.specs.Examples as engine-list
use Rattle.answer_set_theory.proofs.Examples as engine-list-holds
use Rattle.action_language.specs.Acceptance.{bad_record, bad_horizon}
use Rattle.translation_rules.specs.Rules.{translation}
use Rattle.translation_rules.specs.Translated as translated
use Rattle.history_check.specs.Checks as history
use Rattle.causal_reading.specs.Verdicts.{causal_verdict}
use Rattle.causal_reading.specs.Readings as causal
use Rattle.worked_examples.specs.Examples.{Holds}
use Rattle.worked_examples.specs.Worked.{from_engine, record_examples, engine_examples, paper_examples}

pub record-examples : Each Holds record_examples
unfolding engine.answer verdict rules_of bad_rule set_of holds_true holds_false complement bad_record bad_horizon translation
    translated.outcome translated.table_after history.checked history.table_after causal_verdict causal.reading
record-examples =
    refl & refl & refl & refl & refl & refl & refl & refl & refl & refl & refl & refl & refl & refl & refl & refl & refl
    & refl & refl & refl & refl & refl & refl & refl & refl & refl & refl & refl & refl & refl & refl & refl & refl
    & refl & tt

pub paper-examples : Each Holds paper_examples
unfolding engine.answer verdict rules_of bad_rule set_of holds_true holds_false complement bad_record bad_horizon translation
    translated.outcome translated.table_after history.checked history.table_after causal_verdict causal.reading
paper-examples = (refl, (refl, (refl, (refl, (refl, (refl, (refl, (refl, (refl, (refl, (refl, tt)))))))))))

-- as the engine's crate shows
pub engine-examples : Each Holds engine_examples
engine-examples = (each-mapped Holds from_engine engine-list.examples).1 engine-list-holds.worked
