-- `completion::judge_formulas` meets its contract.
-- Assumes nothing.
use Rattle.basics.proofs.Results.{at_place, no_place}
use Rattle.rule_tables.proofs.Walking.{accepted-sound}
use Rattle.completion.specs.Internal.{marked_head}
use Rattle.completion.proofs.Judging.{says-fails, says-false, says_holds}
use Rattle.completion.proofs.judge_formulas.Goals as goal

pub held_heads-held-requires : goal.held_heads-held-requires
held_heads-held-requires c = accepted-sound _ _ c.requires.few_values c.requires.rules_fit

pub returns-in-Some : goal.returns-in-Some
returns-in-Some c =
    says-fails _ _ c.requires.few_values (marked_head c.held_heads-held.result) c.held_heads-held.ensures
    (at_place c.first_failing.ensures c.in-Some.is)

pub returns-in-Some-false_failing : goal.returns-in-Some-false_failing
returns-in-Some-false_failing c =
    says-false _ _ c.requires.few_values (marked_head c.held_heads-held.result) c.held_heads-held.ensures
    (no_place c.first_failing.ensures c.in_default.is)
    (at_place c.false_failing.ensures c.in-Some-false_failing.is)

pub returns : goal.returns
returns c =
    says_holds _ _ c.requires.few_values (marked_head c.held_heads-held.result) c.held_heads-held.ensures
    (no_place c.first_failing.ensures c.in_default.is)
    (no_place c.false_failing.ensures c.in_default-false_failing.is)
