-- The output of an input, from what the readers said of it.
-- Assumes nothing.
use mathlib.Core.Path.{◌≡◌, refl, sym, ap, ◌∙◌}
use mathlib.Core.List.{List, ◌++◌}
use Prim.Native.Nat.{ℕ}
use native.Mathlib.Nat.{zero-add}
use lib.ListN.{length, drop}
use lib.Seq.{sets}
use Rattle.basics.specs.Replies.{Reply, refused, answered}
use Rattle.action_language.specs.declared.Law.{Law}
use Rattle.action_language.specs.declared.Description.{Description}
use Rattle.translation_rules.specs.Translated.{outcome}
use Rattle.description_lines.specs.Descriptions.{Taken, read, described}
use Rattle.description_lines.specs.Answers.{record_of, laws_left}
use Rattle.history_reader.specs.Histories.{history_replied, values_left}
use Rattle.law_runs.specs.Runs.{no_laws}
use Rattle.whole_inputs.specs.Inputs.{recorded_in}
use Rattle.whole_inputs.proofs.Known.{history-refused, history-read}
use Rattle.printed_lines.specs.Printed.{refusal_lines}
use Rattle.printed_lines.proofs.Stores.{Wrote}
use Rattle.report_theory.specs.Output.{room, after_outcome, laws_taken, after_input, output}
use Rattle.report_theory.proofs.Composing.{laws-behind}

-- stores from the first byte on
pub from_first : (l ws : List ℕ) {l' : List ℕ} {r : ℕ} → Wrote l 0 ws l' r → (r ≡ length ws) × (l' ≡ sets l 0 ws)
from_first l ws w = (w.0 ∙ zero-add (length ws), w.1)

-- the laws left are those read, with some behind them that are not counted
abbrev pub unread : Reply Taken → List Law → List Law
unread (refused number place) old = old
unread (answered (read d rest lines)) old = drop (length d.laws) old

pub laws-left : (o : Reply Taken) (old : List Law) → laws_left o old ≡ laws_taken o ++ unread o old
laws-left (refused number place) old = refl
laws-left (answered (read d rest lines)) old = refl

pub laws-counted : (o : Reply Taken) → length (laws_taken o) ≡ (record_of o).laws
laws-counted (refused number place) = refl
laws-counted (answered (read d rest lines)) = refl

module _ (input : List ℕ) where
  pub says-refused : {number place : ℕ} → refused number place ≡ history_replied (recorded_in input)
      → output input ≡ refusal_lines number place
  unfolding output
  says-refused e = rw (history-refused (recorded_in input) e)

  pub says-values : {d : Description} {laws : List Law} {vs : List ℕ} (old : List ℕ) → d ≡ record_of (described 64 input)
      → laws ≡ laws_left (described 64 input) no_laws → vs ≡ values_left (recorded_in input) old
      → answered tt ≡ history_replied (recorded_in input)
      → output input ≡ after_outcome input d laws vs (outcome d laws 64 room)
  unfolding output
  says-values {d} {laws} {vs} old dis lis vis e =
      let o = described 64 input in
      rw (dis, lis ∙ laws-left o no_laws, vis)
      (ap (after_input input o) (history-read (recorded_in input) old e)
      ∙ sym (laws-behind (record_of o) (laws_taken o) (unread o no_laws) (laws-counted o) input (values_left (recorded_in input) old)))
