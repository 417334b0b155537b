-- The readers read respelled inputs alike, and what is printed depends on what was read and on the names shown.
-- Assumes nothing.
use mathlib.Core.Path.{◌≡◌, refl, ap, ◌∙◌}
use mathlib.Core.List.{List, ◌++◌}
use Prim.Native.Nat.{ℕ}
use Rattle.basics.specs.Replies.{Reply, refused, answered}
use Rattle.answer_set_theory.specs.Verdicts.{clash, broken, unfounded, passes}
use Rattle.action_language.specs.declared.Law.{Law}
use Rattle.action_language.specs.declared.Description.{Description}
use Rattle.translation_rules.specs.Translated.{Written, written, outcome}
use Rattle.history_check.specs.Checks.{Finding, missing, judged, checked}
use Rattle.causal_reading.specs.Verdicts.{Causal, contradicted, uncaused, path}
use Rattle.causal_reading.specs.Readings.{reading}
use Rattle.description_lines.specs.Descriptions.{Taken, read, described, description_of}
use Rattle.history_reader.specs.Histories.{atoms, read_history}
use Rattle.shown_names.specs.Shown.{shown_fluent}
use Rattle.whole_inputs.specs.Inputs.{moved_by, after_description, recorded_in}
use Rattle.printed_lines.specs.Printed.{count_lines, finding_lines, causal_lines, reading_lines, causal_after, checked_lines}
use Rattle.report_theory.specs.Output.{room, after_outcome, after_input, output}
use Rattle.written_form.specs.Respelling.{Respelled, ReadAlike, both-refused, both_read}
use Rattle.written_form.proofs.Respelled.{respelling}
use Rattle.respelled_inputs.specs.RespelledInputs.{PrintsAlike}

-- what is printed by the same answers, where the same names are shown
module _ (input input' : List ℕ) (shown : (f : ℕ) → shown_fluent input f ≡ shown_fluent input' f) where
  causal-alike : (c : Causal) → causal_lines input c ≡ causal_lines input' c
  causal-alike path = refl
  causal-alike (contradicted t l) = refl
  causal-alike (uncaused t f) = rw (shown f)

  reading-alike : (reply : Reply Causal) → reading_lines input reply ≡ reading_lines input' reply
  reading-alike (refused number place) = refl
  reading-alike (answered c) = causal-alike c

  after-alike : (f : Finding) (reply : Reply Causal) → causal_after input f reply ≡ causal_after input' f reply
  after-alike (missing a) reply = refl
  after-alike (judged (clash a)) reply = refl
  after-alike (judged (broken r)) reply = reading-alike reply
  after-alike (judged (unfounded c)) reply = reading-alike reply
  after-alike (judged passes) reply = reading-alike reply

  checked-alike : (counts : List ℕ) (answer : Reply Finding) (reply : Reply Causal)
      → checked_lines input counts answer reply ≡ checked_lines input' counts answer reply
  checked-alike counts (refused number place) reply = refl
  checked-alike counts (answered f) reply = ap (λ bytes. counts ++ (finding_lines f ++ bytes)) (after-alike f reply)

  outcome-alike : (d : Description) (ls : List Law) (vs : List ℕ) (reply : Reply Written)
      → after_outcome input d ls vs reply ≡ after_outcome input' d ls vs reply
  outcome-alike d ls vs (refused number place) = refl
  outcome-alike d ls vs (answered (written atoms rules words)) =
      checked-alike (count_lines d.horizon atoms rules words) (checked d ls 64 vs room) (reading d ls 64 vs)

  -- the same refusal, or the same values of the history behind the description
  module _ (respelled : Respelled input input') where
    input-alike : (o o' : Reply Taken) → ReadAlike o o'
        → after_input input o (after_description input o) ≡ after_input input' o' (after_description input' o')
    input-alike o o' (both-refused number place) = refl
    input-alike o o' (both_read d rest rest' lines q) =
        ap (λ reply. after_input input (answered (read d rest lines)) (moved_by lines reply))
        (respelling.histories input input' rest rest' (atoms d) respelled q)
        ∙ by-reply (moved_by lines (read_history input' rest' (atoms d)))
      where
        by-reply : (reply : Reply (List ℕ))
            → after_input input (answered (read d rest lines)) reply ≡ after_input input' (answered (read d rest' lines)) reply
        by-reply (refused number place) = refl
        by-reply (answered vs) = outcome-alike (description_of d) d.laws vs (outcome (description_of d) d.laws 64 room)

pub prints-alike : PrintsAlike
unfolding output recorded_in
prints-alike input input' r =
    input-alike input input' (respelling.shown-fluents input input' r) r (described 64 input) (described 64 input')
    (respelling.descriptions 64 input input' r)
