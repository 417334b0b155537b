-- `measure` meets its contract, refusal by refusal.
-- Assumes nothing.
use mathlib.Core.Path.{refl}
use borrow.Author.Tests.{lt-ltb, le-ltb}
use Rattle.std.proofs.Common.{rules}
use Rattle.record_acceptance.proofs.Checked.{both-refused, both-passed}
use Rattle.translation_rules.specs.Translated.{Written, outcome}
use Rattle.translation.proofs.Ready.{ready}
use Rattle.translation.proofs.measure.Goals as goal

pub returns-in_err-check-clause-answers : goal.returns-in_err-check-clause-answers
unfolding outcome
returns-in_err-check-clause-answers c =
    let said = both-refused _ _ 8 3 c.check.ensures.answers c.in_err-check.was {A = Written} in
    search (rules, said)

pub sizes_needed-needed-requires : goal.sizes_needed-needed-requires
sizes_needed-needed-requires c =
    let passed = both-passed _ _ 8 3 c.check.ensures.answers c.in_ok-check.was in
    let fit = ready _ _ _ passed.0 passed.1 in
    record { limits = fit.limits; lent = fit.held }

pub returns-then-room-needed-clause-answers : goal.returns-then-room-needed-clause-answers
unfolding outcome
returns-then-room-needed-clause-answers c =
    let passed = both-passed _ _ 8 3 c.check.ensures.answers c.in_ok-check.was in
    let words = c.sizes_needed-needed.ensures.2 in
    rw (passed.0, passed.1, lt-ltb _ _ (rw words at c.if-room-needed.true), words) refl

pub returns-clause-answers : goal.returns-clause-answers
unfolding outcome
returns-clause-answers c =
    let passed = both-passed _ _ 8 3 c.check.ensures.answers c.in_ok-check.was in
    let (atoms, rules, words) = c.sizes_needed-needed.ensures in
    rw (passed.0, passed.1, le-ltb _ _ (rw words at c.if-room-needed.false), atoms, rules, words)
