-- What the reader said of the text settles which part of the definition applies.
-- Assumes nothing.
use mathlib.Core.Path.{◌≡◌, ap, ◌∙◌}
use Rattle.std.proofs.Common.{rules}
use Prim.Native.Nat.{ℕ}
use lib.ListN.{length}
use Rattle.basics.specs.Replies.{refused}
use Rattle.basics.specs.Refusals.{number_of}
use Rattle.description_reader.specs.Answers.{reply_of}
use Rattle.history_check.specs.Checks as Checks
use Rattle.answer_codes.specs.Codes.{reply_code, finding_code}
use Rattle.lent_laws.proofs.SixtyFour.{replied-64, record-64, left-64}
use Rattle.huntyghai_theory.proofs.Texts.{check-refused, check-table-refused, check-read, check-table-read}
use Rattle.huntyghai.proofs.check_history.Goals as goal

pub returns-in_err-read : goal.returns-in_err-read
returns-in_err-read c =
    let text = c.args.text.now in
    let vs = c.args.values.now in
    let r = c.read_description in
    let refusal = c.in_err-read.field-0.0 in
    let e = replied-64 text c.no_laws-laws.ensures.bounded r.result r.ensures.answers (ap reply_of c.in_err-read.was) in
    let said : Checks.reply_of c.from_residual.result ≡ refused (number_of refusal.reason) refusal.place = search rules in
    record {
      answers = ap (reply_code finding_code) said ∙ check-refused text e vs (length c.args.table.now);
      leaves = check-table-refused text e vs c.args.table.now;
    }

pub returns : goal.returns
returns c =
    let text = c.args.text.now in
    let vs = c.args.values.now in
    let table = c.args.table.now in
    let old = c.no_laws-laws.result in
    let long = c.no_laws-laws.ensures.bounded in
    let r = c.read_description in
    let d = c.in_ok-read.read.description in
    let e = replied-64 text long r.result r.ensures.answers (ap reply_of c.in_ok-read.was) in
    let is = record-64 text long r.ensures.description c.in_ok-read.was in
    let left = r.ensures.leaves ∙ left-64 text long old in
    let lent : length r.new.laws ≡ 64 = r.auto.laws ∙ long in
    record {
      answers =
          ap (reply_code finding_code)
          (c.check_history.ensures.answers ∙ ap (λ (n : ℕ). Checks.checked d r.new.laws n vs (length table)) lent)
          ∙ check-read text old e is left vs (length table);
      leaves =
          c.check_history.ensures.leaves ∙ ap (λ (n : ℕ). Checks.table_after d r.new.laws n vs table) lent
          ∙ check-table-read text old e is left vs table;
    }
