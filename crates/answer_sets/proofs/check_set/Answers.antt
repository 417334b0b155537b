-- `answer_sets::check_set` meets its contract.
-- Assumes nothing.
use borrow.Author.Rules.{rules}
use Rattle.answer_sets.specs.Answers.{reply_of}
use mathlib.Core.Path.{◌≡◌, sym, ap, ◌∙◌}
use Rattle.basics.specs.Replies.{refused, answered}
use Rattle.basics.specs.Refusals.{number_of, tested_of}
use Rattle.rule_tables.proofs.Testing.{accepts}
use Rattle.answer_set_theory.proofs.Theorems.{keeps-demand-2}
use Rattle.answer_sets.proofs.Judging.{says-refused, says-verdict, judge-ready}
use Rattle.answer_sets.proofs.check_set.Goals as goal

pub judge-requires : goal.judge-requires
judge-requires c =
    let ready = judge-ready _ _ (sym (ap tested_of c.in_ok-test.was) ∙ c.test.ensures.answers) in
    record { few_values = ready.0; values_fit = ready.1.0; rules_fit = ready.1.1 }

pub returns-in_err-test : goal.returns-in_err-test
returns-in_err-test c =
    let refusal = c.in_err-test.field-0.0 in
    let said : reply_of c.from_residual.result ≡ refused (number_of refusal.reason) refusal.place = search rules in
    let kept = keeps-demand-2 c.args.values.now c.args.table.now (said ∙ says-refused _ _ c.in_err-test.ensures.answers) in
    record { answers = kept.0; numbered = search rules; demand_2 = kept.1 }

pub returns : goal.returns
returns c =
    let accepted = accepts _ _ (sym (ap tested_of c.in_ok-test.was) ∙ c.test.ensures.answers) in
    let kept = keeps-demand-2 c.args.values.now c.args.table.now (ap answered c.judge.ensures ∙ says-verdict _ _ accepted) in
    record { answers = kept.0; numbered = search rules; demand_2 = kept.1 }
