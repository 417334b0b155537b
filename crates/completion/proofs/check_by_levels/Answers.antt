-- `completion::check_by_levels` meets its contract.
-- Assumes nothing.
use borrow.Author.Rules.{rules}
use mathlib.Core.Path.{◌≡◌, sym, ap, ◌∙◌}
use Rattle.basics.specs.Replies.{refused, answered}
use Rattle.basics.specs.Refusals.{number_of, tested_of}
use Rattle.basics.proofs.Results.{refused-at, not-refused}
use Rattle.rule_tables.proofs.Testing.{accepts}
use Rattle.completion.specs.Answers.{reply_of}
use Rattle.completion.proofs.Testing.{says-tested, says-13, says-levelled, judge-ready, levels-ready}
use Rattle.completion_theory.proofs.Theorems.{keeps-levels}
use Rattle.completion.proofs.check_by_levels.Goals as goal

pub judge-requires : goal.judge-requires
judge-requires c =
    let ready = judge-ready _ _ (sym (ap tested_of c.in_ok-test.was) ∙ c.test.ensures.answers) in
    record { few_values = ready.0; rules_fit = ready.1 }

pub returns-in_err-test : goal.returns-in_err-test
returns-in_err-test c =
    let refusal = c.in_err-test.field-0.0 in
    let said : reply_of c.from_residual.result ≡ refused (number_of refusal.reason) refusal.place = search rules in
    let kept = keeps-levels _ _ _ (said ∙ says-tested _ _ _ c.in_err-test.ensures.answers) in
    record { answers = kept.0; numbered = search rules; by_levels = kept.1 }

pub check_levels-requires : goal.check_levels-requires
check_levels-requires c =
    let ready = levels-ready _ _ (sym (ap tested_of c.in_ok-test.was) ∙ c.test.ensures.answers) in
    record { few_atoms = ready.0; sound = ready.1 }

pub returns-in_err-check_levels : goal.returns-in_err-check_levels
returns-in_err-check_levels c =
    let accepted = accepts _ _ (sym (ap tested_of c.in_ok-test.was) ∙ c.test.ensures.answers) in
    let refusal = c.in_err-check_levels.field-0.0 in
    let bad = refused-at 13 c.check_levels.ensures.answers c.in_err-check_levels.was in
    let said : reply_of c.from_residual-in_err-check_levels.result ≡ refused (number_of refusal.reason) refusal.place = search rules in
    let kept = keeps-levels _ _ _ (said ∙ rw bad.1 (says-13 _ _ _ accepted bad.0)) in
    record { answers = kept.0; numbered = search rules; by_levels = kept.1 }

pub returns : goal.returns
returns c =
    let accepted = accepts _ _ (sym (ap tested_of c.in_ok-test.was) ∙ c.test.ensures.answers) in
    let levelled = says-levelled _ _ _ accepted (not-refused 13 c.check_levels.ensures.answers c.in_ok-check_levels.was) in
    let kept = keeps-levels _ _ _ (ap answered c.judge.ensures ∙ levelled) in
    record { answers = kept.0; numbered = search rules; by_levels = kept.1 }
