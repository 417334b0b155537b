-- What the description reader says of a run of 64 records.
-- Assumes nothing.
use mathlib.Core.Path.{◌≡◌, sym, ap, ◌∙◌}
use mathlib.Core.List.{List}
use Prim.Native.Nat.{ℕ}
use Rattle.std.specs.Prelude.{Result, Ok, IfOk}
use Rattle.std.proofs.lemmas.Result.{IfOk-at_ok}
use Rattle.basics.specs.declared.Refusal.{Refusal}
use Rattle.basics.specs.Replies.{Reply}
use Rattle.action_language.specs.declared.Law.{Law}
use Rattle.description_lines.specs.Descriptions.{described}
use Rattle.description_lines.specs.Answers.{Behind, replied, record_of, laws_left}
use Rattle.description_reader.specs.declared.Read.{Read}
use Rattle.description_reader.specs.Answers.{reply_of}

module _ (text : List ℕ) {n : ℕ} (long : n ≡ 64) where
  pub replied-64 : (r : Result Read Refusal) {reply : Reply Behind} → reply_of r ≡ replied text (described n text) → reply_of r ≡ reply
      → replied text (described 64 text) ≡ reply
  replied-64 r said is = ap (λ n. replied text (described n text)) (sym long) ∙ sym said ∙ is

  pub record-64 : {r : Result Read Refusal} {read : Read} → IfOk r (λ x. x.description ≡ record_of (described n text)) → r ≡ Ok read
      → read.description ≡ record_of (described 64 text)
  record-64 said is = IfOk-at_ok _ is said ∙ ap (λ n. record_of (described n text)) long

  pub left-64 : (old : List Law) → laws_left (described n text) old ≡ laws_left (described 64 text) old
  left-64 old = ap (λ n. laws_left (described n text) old) long
