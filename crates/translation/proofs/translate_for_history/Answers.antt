-- `translate_for_history` meets its contract: what `measure` says, then 10, 11 and the caller's own tests, then the words are written.
-- Assumes nothing.
use mathlib.Core.Path.{sym, ap, ◌∙◌}
use Rattle.std.proofs.Common.{rules}
use Rattle.basics.specs.Refusals.{tested_of}
use Rattle.basics.proofs.Results.{refused-at, not-refused}
use Rattle.translation_rules.proofs.Histories.{first-refused, says-10, says-11, later-refused, all-passed}
use Rattle.translation.proofs.Ready.{ready-to-write, enough-room}
use Rattle.translation.proofs.Handed.{no-own}
use Rattle.translation.proofs.translate_for_history.Goals as goal

pub returns-in_err-written : goal.returns-in_err-written
returns-in_err-written c =
    let said = first-refused _ _ _ c.args.values.now _ c.args.table.now (sym c.in_err-written.ensures.answers) in
    record { answers = search (rules, said); numbered = no-own c.args.later _ (search rules); leaves = said.1 }

pub returns-then-values-written : goal.returns-then-values-written
returns-then-values-written c =
    let said = says-10 _ _ _ c.args.values.now _ c.args.table.now (sym c.in_ok-written.ensures.answers) c.if-values-written.true in
    record { answers = said.0; numbered = λ h. search rules; leaves = said.1 }

pub returns-in_err-check_values : goal.returns-in_err-check_values
returns-in_err-check_values c =
    let e = refused-at 11 c.check_values.ensures.answers c.in_err-check_values.was in
    let said = says-11 _ _ _ c.args.values.now _ c.args.table.now (sym c.in_ok-written.ensures.answers) c.if-values-written.false e.0 in
    record { answers = search (rules, said, e); numbered = no-own c.args.later _ (search rules); leaves = said.1 }

pub returns-in_err-later : goal.returns-in_err-later
returns-in_err-later c =
    let said = later-refused _ _ _ c.args.values.now _ c.args.table.now (sym c.in_ok-written.ensures.answers) c.if-values-written.false
    (not-refused 11 c.check_values.ensures.answers c.in_ok-check_values.was) (ap tested_of c.in_err-later.was) in
    record { answers = search (rules, said); numbered = search (rules, c.in_err-later.was); leaves = said.1 }

pub write_table-requires : goal.write_table-requires
write_table-requires c =
    let e = c.in_ok-written.ensures.answers in
    let fit = ready-to-write _ _ _ _ e in
    record { limits = fit.limits; lent = fit.held; laws_in_bounds = enough-room _ _ _ _ e }

pub returns : goal.returns
returns c =
    let said =
    all-passed _ _ _ c.args.values.now _ c.args.table.now (sym c.in_ok-written.ensures.answers) c.if-values-written.false
    (not-refused 11 c.check_values.ensures.answers c.in_ok-check_values.was) (ap tested_of c.in_ok-later.was) in
    record { answers = said.0; numbered = tt; leaves = c.write_table.ensures ∙ said.1 }
