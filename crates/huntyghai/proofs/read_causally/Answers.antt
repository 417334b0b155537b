-- What the input holds settles which part of the definition applies.
-- Assumes nothing.
use mathlib.Core.Path.{◌≡◌, sym, ap, ◌∙◌}
use Rattle.std.proofs.Common.{rules}
use Prim.Native.Nat.{ℕ}
use lib.ListN.{replicate, take}
use Rattle.basics.specs.Replies.{refused}
use Rattle.basics.specs.Refusals.{number_of}
use Rattle.history_reader.specs.Histories.{history_reply_of}
use Rattle.causal_reading.specs.Readings.{reply_of, reading}
use Rattle.answer_codes.specs.Codes.{reply_code, causal_code}
use Rattle.huntyghai_theory.proofs.Texts.{reading-refused, reading-read}
use Rattle.huntyghai.proofs.read_causally.Goals as goal

pub returns-in_err-whole : goal.returns-in_err-whole
returns-in_err-whole c =
    let refusal = c.in_err-whole.field-0.0 in
    let said : reply_of c.from_residual.result ≡ refused (number_of refusal.reason) refusal.place = search rules in
    ap (reply_code causal_code) said
    ∙ reading-refused c.args.input.now (sym (ap history_reply_of c.in_err-whole.was) ∙ c.read_input-whole.ensures.answers)

pub returns : goal.returns
returns c =
    let e = c.read_input-whole.ensures in
    let whole = c.read_input-whole.result in
    ap (reply_code causal_code)
    (c.causal_reading.ensures.answers
    ∙ ap (λ (n : ℕ). reading whole.description whole.laws n (take whole.atoms whole.values)) e.bounded_laws)
    ∙ reading-read c.args.input.now (replicate whole.atoms 0) e.description e.laws e.values
    (sym (ap history_reply_of c.in_ok-whole.was) ∙ e.answers)
