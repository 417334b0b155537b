-- What is known of an input whose description is read, and what the readers' answers say of the whole input.
-- Assumes nothing.
use mathlib.Core.Path.{◌≡◌, refl, sym, ap, ◌∙◌}
use mathlib.Core.List.{List, ◌++◌}
use Prim.Native.Nat.{ℕ, ◌+◌, ◌-◌, ◌*◌, ◌≤◌}
use native.Mathlib.Omega.{arith}
use borrow.Author.Tests.{eq-eqb}
use lib.Dec.{ltb}
use lib.ListN.{length, take, drop, replicate, length-append, length-replicate, replicate-append-replicate}
use lib.Seq.{drop_at, take_at, take_all}
use Rattle.basics.specs.Replies.{Reply, refused, answered}
use Rattle.description_lines.specs.LineSteps.{law_due, Draft}
use Rattle.description_lines.specs.Descriptions.{Taken, read, described}
use Rattle.description_lines.specs.Answers.{behind, replied}
use Rattle.history_reader.specs.Histories.{atoms, states_from, read_history, history_replied, values_left}
use Rattle.reader_bounds.proofs.Drafts.{Limited, chosen, BoundedReply, bounded}
use Rattle.whole_inputs.specs.Inputs.{moved_by, recorded_in}
use Rattle.whole_inputs.specs.Internal.{CanMove}
use Rattle.whole_inputs.proofs.Places.{PlaceUpTo, place-within, states-place}

abbrev zeros : ℕ → List ℕ
zeros n = replicate n 0

-- the first and the last of a run of zeros
zeros-parted : (k n : ℕ) → k ≤ n → zeros n ≡ zeros k ++ zeros (n - k)
zeros-parted k n h = let e : k + (n - k) ≡ n = omega arith in sym (replicate-append-replicate k (n - k) 0 ∙ ap zeros e)

take-zeros : (k n : ℕ) → k ≤ n → take k (zeros n) ≡ zeros k
take-zeros k n h = ap (take k) (zeros-parted k n h) ∙ take_at (zeros k) (zeros (n - k)) k (length-replicate k 0)

drop-zeros : (k n : ℕ) → k ≤ n → drop k (zeros n) ≡ zeros (n - k)
drop-zeros k n h = ap (drop k) (zeros-parted k n h) ∙ drop_at (zeros k) (zeros (n - k)) k (length-replicate k 0)

-- a refusal is what the answer says
pub history-refused : {number place : ℕ} (r : Reply (List ℕ)) → refused number place ≡ history_replied r → r ≡ refused number place
history-refused {number} {place} (refused k p) e =
    let a : k ≡ number = cc in
    let b : p ≡ place = cc in
    rw (a, b)
history-refused (answered vs) e = let z : ◌≡◌ {A = ℕ} 0 1 = cc in absurd (omega arith)

-- and so are the values that the history reader leaves
pub history-read : (r : Reply (List ℕ)) (old : List ℕ) → answered tt ≡ history_replied r → r ≡ answered (values_left r old)
history-read (refused k p) old e = let z : ◌≡◌ {A = ℕ} 0 1 = cc in absurd (omega arith)
history-read (answered vs) old e = refl

-- what is known of an input whose description is read
pub record Known (input : List ℕ) (bytes lines : ℕ) : Type 0 where
  pub draft : Draft
  pub rest : List ℕ
  pub is : described 64 input ≡ answered (read draft rest lines)
  pub limited : Limited 64 law_due draft
  pub start : bytes ≤ length input
  pub part : take (length input - bytes) (drop bytes input) ≡ rest
  pub counted : lines ≤ 65537

moved-left : (lines : ℕ) (r : Reply (List ℕ)) (old : List ℕ) → values_left (moved_by lines r) old ≡ values_left r old
moved-left lines (refused k p) old = refl
moved-left lines (answered vs) old = refl

moved-reply : (lines : ℕ) (r : Reply (List ℕ)) → moved_by lines (history_replied r) ≡ history_replied (moved_by lines r)
moved-reply lines (refused k p) = refl
moved-reply lines (answered vs) = refl

low-place : (lines : ℕ) (r : Reply (List ℕ)) → lines ≤ 65537 → PlaceUpTo 1024 r → CanMove lines (history_replied r)
low-place lines (refused k p) few h = omega arith
low-place lines (answered vs) few h = tt

module _ (input : List ℕ) where
  refused-from : (o : Reply Taken) {number place : ℕ} → replied input o ≡ refused number place → o ≡ refused number place
  refused-from (refused k p) {number} {place} e =
      let a : k ≡ number = cc in
      let b : p ≡ place = cc in
      rw (a, b)
  refused-from (answered (read d rest last)) e = let z : ◌≡◌ {A = ℕ} 0 1 = cc in absurd (omega arith)

  -- the description is refused
  pub description-refused : {number place : ℕ} → replied input (described 64 input) ≡ refused number place
      → described 64 input ≡ refused number place
  description-refused e = refused-from (described 64 input) e

  pub recorded-refused : {number place : ℕ} → described 64 input ≡ refused number place → recorded_in input ≡ refused number place
  unfolding recorded_in
  recorded-refused e = rw e

  known_from : (o : Reply Taken) {bytes lines : ℕ} → described 64 input ≡ o → BoundedReply input 64 65537 o
      → replied input o ≡ answered (behind bytes lines)
      → Known input bytes lines
  known_from (refused k p) is t e = let z : ◌≡◌ {A = ℕ} 0 1 = cc in absurd (omega arith)
  known_from (answered (read d rest last)) {bytes} {lines} is t e =
      let a : length input - length rest ≡ bytes = cc in
      let b : last ≡ lines = cc in
      let front = t.behind.front in
      let size : length input ≡ length front + length rest = ap length t.behind.whole ∙ length-append front rest in
      let dropped : drop bytes input ≡ rest = ap (drop bytes) t.behind.whole ∙ drop_at front rest bytes (omega arith) in
      record {
        draft = d;
        rest = rest;
        is = is ∙ ap (λ n. answered (read d rest n)) b;
        limited = t.limited;
        start = omega arith;
        part = ap (take (length input - bytes)) dropped ∙ take_all (length input - bytes) rest (omega arith);
        counted = omega (arith, t.counted);
      }

  pub known : {bytes lines : ℕ} → replied input (described 64 input) ≡ answered (behind bytes lines) → Known input bytes lines
  known e = known_from (described 64 input) refl (bounded 64 input) e

  module _ {bytes lines : ℕ} (k : Known input bytes lines) where
    pub limits : (k.draft.fluents ≤ 24) × (length k.draft.names - k.draft.fluents ≤ 8) × (k.draft.horizon ≤ 30)
    limits = (k.limited.few, omega (arith, k.limited.actions), k.limited.time)

    recorded-place : PlaceUpTo 1024 (read_history input k.rest (atoms k.draft))
    unfolding read_history
    recorded-place =
        rw (k.is, eq-eqb (atoms k.draft) (atoms k.draft) refl)
        (chosen (PlaceUpTo 1024) (ltb 65535 (length k.rest)) (λ _. omega arith)
        (λ _. place-within (1 + 2 * k.draft.horizon + 2) 1024 (omega (arith, limits.2))
        (states_from k.draft.horizon k.draft 0 1 (replicate (atoms k.draft) 0) k.rest)
        (states-place k.draft.horizon k.draft 0 1 (replicate (atoms k.draft) 0) k.rest)))

    module _ {text : List ℕ} {lent : ℕ} (part : text ≡ k.rest) (enough : lent ≡ atoms k.draft) where
      same-history : read_history input text lent ≡ read_history input k.rest (atoms k.draft)
      same-history = rw (part, enough)

      -- the whole input holds what the history reader says
      whole : recorded_in input ≡ moved_by lines (read_history input text lent)
      unfolding recorded_in
      whole = rw (k.is, same-history)

      -- the answer to the whole input is the history reader's, moved up
      pub says : (answer : Reply Unit) → answer ≡ history_replied (read_history input text lent)
          → moved_by lines answer ≡ history_replied (recorded_in input)
      says answer e = rw (e, whole) (moved-reply lines (read_history input text lent))

      pub can-move : (answer : Reply Unit) → answer ≡ history_replied (read_history input text lent) → CanMove lines answer
      can-move answer e =
          rw (e, same-history) (low-place lines (read_history input k.rest (atoms k.draft)) k.counted recorded-place)

      leaves : (old : List ℕ) → values_left (read_history input text lent) old ≡ values_left (recorded_in input) old
      leaves old = rw whole (sym (moved-left lines (read_history input text lent) old))

      -- the values lent are the first of 1,024 zeros; behind them all stay 0
      pub values-read : (m : ℕ) (zs last : List ℕ) → m ≤ 1024 → zs ≡ replicate 1024 0 → length last ≡ m
          → last ≡ values_left (read_history input text lent) (take m zs)
          → (take m (last ++ drop m zs) ≡ values_left (recorded_in input) (replicate m 0))
          × (drop m (last ++ drop m zs) ≡ replicate (1024 - m) 0)
      values-read m zs last few clear size left = (
        take_at last (drop m zs) m size
            ∙ left
            ∙ leaves (take m zs)
            ∙ ap (values_left (recorded_in input)) (ap (take m) clear ∙ take-zeros m 1024 few),
        drop_at last (drop m zs) m size ∙ ap (drop m) clear ∙ drop-zeros m 1024 few,
      )
