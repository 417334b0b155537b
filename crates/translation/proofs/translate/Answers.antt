-- `translate` meets its contract. What `measure` says is the answer; the words are written only where it is no refusal.
-- Assumes nothing.
use mathlib.Core.Path.{sym, ◌∙◌}
use Rattle.translation_rules.proofs.Outcomes.{refused-left, written-left}
use Rattle.translation.proofs.Ready.{ready-to-write, enough-room}
use Rattle.translation.proofs.translate.Goals as goal

pub returns-in_err-written-clause-leaves : goal.returns-in_err-written-clause-leaves
returns-in_err-written-clause-leaves c = refused-left _ _ _ c.args.table.now (sym c.in_err-written.ensures.answers)

pub write_table-requires : goal.write_table-requires
write_table-requires c =
    let e = c.in_ok-written.ensures.answers in
    let fit = ready-to-write _ _ _ _ e in
    record { limits = fit.limits; lent = fit.held; laws_in_bounds = enough-room _ _ _ _ e }

pub returns-clause-leaves : goal.returns-clause-leaves
returns-clause-leaves c = c.write_table.ensures ∙ written-left _ _ _ c.args.table.now (sym c.in_ok-written.ensures.answers)
