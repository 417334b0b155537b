-- What the functions that take a text answer, from what the readers said of it.
-- Assumes nothing.
use mathlib.Core.Path.{◌≡◌, refl, sym, ap, ◌∙◌}
use mathlib.Core.List.{List, ◌++◌}
use Prim.Native.Nat.{ℕ}
use lib.ListN.{length, drop}
use Rattle.basics.specs.Replies.{refused, answered}
use Rattle.action_language.specs.declared.Law.{Law}
use Rattle.action_language.specs.declared.Description.{Description}
use Rattle.translation_rules.specs.Translated as translated
use Rattle.history_check.specs.Checks as history
use Rattle.causal_reading.specs.Readings as causal
use Rattle.description_lines.specs.LineSteps.{Draft}
use Rattle.description_lines.specs.Descriptions.{read, described, description_of}
use Rattle.description_lines.specs.Answers.{behind, replied, record_of, laws_left}
use Rattle.history_reader.specs.Histories.{history_replied, values_left}
use Rattle.law_runs.specs.Runs.{no_laws}
use Rattle.whole_inputs.specs.Inputs.{recorded_in}
use Rattle.whole_inputs.proofs.Known.{known, description-refused, history-refused, history-read}
use Rattle.report_theory.specs.Output.{laws_taken}
use Rattle.report_theory.proofs.Composing.{same-laws, same_outcome, same_check, same-reading}
use Rattle.report_theory.proofs.Reported.{unread, laws-left, laws-counted}
use Rattle.answer_codes.specs.Codes.{coded, reply_code, written_code, finding_code, causal_code}
use Rattle.huntyghai_theory.specs.Texts.{translated_text, table_of_text, checked_text, table_of_check, reading_of, reading_of_input}

module _ (text : List ℕ) where
  -- the description is refused
  module _ {number place : ℕ} (e : replied text (described 64 text) ≡ refused number place) where
    pub translate-refused : (room : ℕ) → coded number place ≡ translated_text text room
    unfolding translated_text
    translate-refused room = rw (description-refused text e)

    pub table-refused : (table : List ℕ) → table ≡ table_of_text text table
    unfolding table_of_text
    table-refused table = rw (description-refused text e)

    pub check-refused : (vs : List ℕ) (room : ℕ) → coded number place ≡ checked_text text vs room
    unfolding checked_text
    check-refused vs room = rw (description-refused text e)

    pub check-table-refused : (vs table : List ℕ) → table ≡ table_of_check text vs table
    unfolding table_of_check
    check-table-refused vs table = rw (description-refused text e)

  -- a description that is taken, by what its reader left
  module _ {bytes lines : ℕ} (old : List Law) {d : Description} {laws : List Law}
      (e : replied text (described 64 text) ≡ answered (behind bytes lines))
      (dis : d ≡ record_of (described 64 text)) (lis : laws ≡ laws_left (described 64 text) old) where
    is : described 64 text ≡ answered (read (known text e).draft (known text e).rest lines)
    is = (known text e).is

    abbrev draft : Draft
    draft = (known text e).draft

    abbrev more : List Law
    more = drop (length draft.laws) old

    dis' : d ≡ description_of draft
    dis' = dis ∙ ap record_of is

    lis' : laws ≡ draft.laws ++ more
    lis' = lis ∙ ap (λ o. laws_left o old) is

    pub translate-read : (room : ℕ) → reply_code written_code (translated.outcome d laws 64 room) ≡ translated_text text room
    unfolding translated_text
    translate-read room = rw (dis', lis', is) (ap (reply_code written_code) (same_outcome (description_of draft) draft.laws more refl room))

    pub table-read : (table : List ℕ) → translated.table_after d laws 64 table ≡ table_of_text text table
    unfolding table_of_text translated.table_after
    table-read table =
        rw (dis', lis', is)
        (rw (
          same_outcome (description_of draft) draft.laws more refl (length table),
          same-laws (description_of draft) draft.laws more refl,
        ))

    pub check-read : (vs : List ℕ) (room : ℕ) → reply_code finding_code (history.checked d laws 64 vs room) ≡ checked_text text vs room
    unfolding checked_text
    check-read vs room = rw (dis', lis', is) (ap (reply_code finding_code) (same_check (description_of draft) draft.laws more refl vs room))

    pub check-table-read : (vs table : List ℕ) → history.table_after d laws 64 vs table ≡ table_of_check text vs table
    unfolding table_of_check history.table_after
    check-table-read vs table =
        rw (dis', lis', is)
        (rw (
          same_check (description_of draft) draft.laws more refl vs (length table),
          same-laws (description_of draft) draft.laws more refl,
        ))

-- the causal reading of a whole input
module _ (input : List ℕ) where
  pub reading-refused : {number place : ℕ} → refused number place ≡ history_replied (recorded_in input)
      → coded number place ≡ reading_of_input input
  unfolding reading_of_input
  reading-refused e = rw (history-refused (recorded_in input) e)

  pub reading-read : {d : Description} {laws : List Law} {vs : List ℕ} (old : List ℕ) → d ≡ record_of (described 64 input)
      → laws ≡ laws_left (described 64 input) no_laws → vs ≡ values_left (recorded_in input) old
      → answered tt ≡ history_replied (recorded_in input)
      → reply_code causal_code (causal.reading d laws 64 vs) ≡ reading_of_input input
  unfolding reading_of_input
  reading-read old dis lis vis e =
      let o = described 64 input in
      let vs = values_left (recorded_in input) old in
      rw (dis, lis ∙ laws-left o no_laws, vis)
      (ap (reply_code causal_code) (same-reading (record_of o) (laws_taken o) (unread o no_laws) (laws-counted o) vs)
      ∙ ap (reply_code (reading_of o)) (sym (history-read (recorded_in input) old e)))
