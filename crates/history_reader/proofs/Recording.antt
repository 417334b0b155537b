-- The loops of the history reader: a line's items mark the values, and one line after another is read.
-- Assumes nothing.
use mathlib.Core.Path.{◌≡◌, refl, sym, ◌∙◌, ap}
use mathlib.Core.Bool.{Bool, true, false, cond}
use mathlib.Core.List.{List, [], ◌∷◌, ◌++◌}
use mathlib.Core.Option.{none, some}
use Prim.Native.Nat.{ℕ, zero, suc, ◌+◌, ◌-◌, ◌*◌, ◌≤◌, ◌<◌}
use native.Mathlib.Numerals.{add-one}
use native.Mathlib.Omega.{arith}
use borrow.Author.Tests.{eq-eqb, ne_eqb, lt-ltb, le-ltb}
use lib.ListN.{length, take, drop, replicate, length-append}
use Rattle.text_forms.specs.declared.LineAt.{LineAt}
use Rattle.action_language.specs.declared.Law.{Law}
use Rattle.description_reader.specs.declared.declarations.Declarations.{Declarations}
use Rattle.history_reader.specs.declared.histories.Wanted.{Wanted}
use Rattle.std.specs.Prelude.{Result, Ok, Err}
use Rattle.basics.specs.declared.Reason.{Reason}
use Rattle.basics.specs.Refusals.{number_of}
use Rattle.basics.specs.Replies.{Reply, refused, answered}
use Rattle.text_forms.specs.declared.Key.TheVariants.{State, Act}
use Rattle.text_forms.specs.Keys.{number_of_key, number_or}
use Rattle.text_forms.specs.Lines.{first_line}
use Rattle.text_forms.specs.Names.{literal}
use Rattle.text_forms.specs.Lists.{codes, list_from, list_of}
use Rattle.description_lines.specs.LineSteps.{Draft}
use Rattle.description_lines.specs.Descriptions.{read}
use Rattle.history_values.specs.Values.{with_literals, filled}
use Rattle.history_reader.specs.Histories.{listed, list_line, most, states_from, by_names}
use Rattle.text.specs.Internal.{spelled, item_at, next_at, items_at}
use Rattle.history_reader.specs.Internal.{atoms_of, is_state, due_key, marked_by}
use Rattle.history_reader.specs.Internal.{record_from, key_at, low_at, high_at, base_at, filled_at, wanted_at, place_from}
use Rattle.description_reader.specs.Internal.{draft_by}
use Rattle.text.proofs.Placing.{line_of}
use Rattle.text.proofs.Spelling.{spelled-length}
use Rattle.text.proofs.Items.{next-later}
use Rattle.history_reader.proofs.Marking.{marked_more, item-marked, item_refused, list_done, list_all}
use Rattle.history_reader.proofs.Marking.{line_other, line-due, key_below, states-lines}
use lib.Dec.{ltb}

-- the items passed, the values that they marked, and the items left
pub record Marked (names : List (List ℕ)) (w : Wanted) (list : List ℕ) (start i : ℕ) (old new : List ℕ) : Type 0 where
  pub done : List ℕ
  pub few : length done ≤ i
  pub values : new ≡ with_literals w.base old done
  pub left : list_from names w.low w.high most done (items_at list i) ≡ list_from names w.low w.high most [] (items_at list start)

pub marked-one : (names : List (List ℕ)) (w : Wanted) (list : List ℕ) (start i : ℕ) (old new : List ℕ) → Marked names w list start i old new
    → i ≤ length list → length list ≤ 65535 → (c next : ℕ) → literal names w.low w.high (item_at list i) ≡ some c
    → next ≡ next_at list i
    → (more : List ℕ) → more ≡ with_literals w.base new (c ∷ []) → Marked names w list start next old more
marked-one names w list start i old new m inside short c next e f more one =
    record {
      done = m.done ++ (c ∷ []);
      few = omega (arith, length-append m.done (c ∷ []), m.few, next-later list i inside);
      values = one ∙ ap (λ vs. with_literals w.base vs (c ∷ [])) m.values ∙ sym (marked_more w.base old m.done c);
      left = item-marked names w.low w.high list i inside m.done (omega (arith, m.few)) m.left c next e f;
    }

-- what a whole list marks, and a list with an item that is no literal
module _ (names : List (List ℕ)) (w : Wanted) (list : List ℕ) (start i : ℕ) (old new : List ℕ) (starts : start ≡ place_from (length list))
    (m : Marked names w list start i old new) where
  pub marked-all : length list < i → (line : ℕ) (next : List ℕ → Reply (List ℕ))
      → next new ≡ listed (list_of names w.low w.high most list) line w.base old next
  marked-all past line next =
      let all : codes m.done ≡ list_of names w.low w.high most list =
      list_done names w.low w.high list i m.done past m.left ∙ list_all names w.low w.high list start starts in
      ap next m.values ∙ ap (λ r. listed r line w.base old next) all

  pub marked-refused : i ≤ length list → length list ≤ 65535 → literal names w.low w.high (item_at list i) ≡ none
      → (line : ℕ) (next : List ℕ → Reply (List ℕ)) → refused 6 line ≡ listed (list_of names w.low w.high most list) line w.base old next
  marked-refused inside short e line next =
      let all = list_all names w.low w.high list start starts in
      let bad = item_refused names w.low w.high list i inside m.done (omega (arith, m.few)) m.left e in
      ap (λ r. listed r line w.base old next) (sym bad ∙ all)

-- one line of literals
module _ (names-text text : List ℕ) (laws : List Law) (r : Declarations) (m line at : ℕ) (vs : List ℕ) (l : LineAt)
    (is : line_of text l ≡ first_line (drop at text)) where
  abbrev Here : Reply (List ℕ)
  Here = record_from (suc m) (draft_by names-text laws r) line vs (drop at text)

  -- the line, with the count of names
  counted : record_from (suc m) (draft_by names-text laws r) line vs (drop at text)
      ≡ list_line (draft_by names-text laws r) (key_at line) (low_at r.fluents line)
      (high_at r.fluents r.names.count line) (line_of text l) line (base_at r.names.count line) vs
      (λ ws rest. record_from m (draft_by names-text laws r) (suc line) (filled_at r.fluents r.names.count line ws) rest)
  counted = rw (spelled-length names-text r.names, is)

  pub turn-other : (number_or l.key ≡ key_at line → ⊥) → Here ≡ refused 2 line
  unfolding line_of
  turn-other h =
      counted
      ∙ sym (line_other (draft_by names-text laws r) (key_at line) _ _ line _ vs _
      (take (l.to - l.from) (drop l.from text)) (drop l.next text) (number_or l.key) h)

  pub turn-due : number_or l.key ≡ key_at line
      → Here
      ≡ listed (list_of (spelled names-text r.names) (low_at r.fluents line)
      (high_at r.fluents r.names.count line) most (take (l.to - l.from) (drop l.from text)))
      line (base_at r.names.count line) vs
      (λ ws. record_from m (draft_by names-text laws r) (suc line) (filled_at r.fluents r.names.count line ws) (drop l.next text))
  unfolding line_of
  turn-due same =
      counted
      ∙ sym (line-due (draft_by names-text laws r) (key_at line) (low_at r.fluents line)
      (high_at r.fluents r.names.count line) line (base_at r.names.count line) vs
      (λ ws rest. record_from m (draft_by names-text laws r) (suc line) (filled_at r.fluents r.names.count line ws) rest)
      (take (l.to - l.from) (drop l.from text)) (drop l.next text) (number_or l.key) same (key_below line))

-- the number of the key that is due
due-number : (line : ℕ) → number_of_key (due_key line) ≡ key_at line
due-number line = go (is_state line)
  where
    go : (b : Bool) → number_of_key (cond b State Act) ≡ cond b 7 8
    go true = refl
    go false = refl

-- the same, as the loop finds it: w is what the line must be, and R what the text comes to
module _ (names-text text : List ℕ) (laws : List Law) (r : Declarations) (most-lines line at : ℕ) (vs : List ℕ) (l : LineAt)
    (is : line_of text l ≡ first_line (drop at text)) (w : Wanted) (is-due : w ≡ wanted_at r.fluents r.names.count line)
    (more : line < most-lines) {R : Reply (List ℕ)}
    (left : record_from (most-lines - line) (draft_by names-text laws r) line vs (drop at text) ≡ R) where
  number-due : number_of_key w.key ≡ key_at line
  number-due = ap (λ v. number_of_key v.key) is-due ∙ due-number line

  this-line : record_from (suc (most-lines - suc line)) (draft_by names-text laws r) line vs (drop at text) ≡ R
  this-line =
      let e : suc (most-lines - suc line) ≡ most-lines - line = omega arith in
      ap (λ k. record_from k (draft_by names-text laws r) line vs (drop at text)) e ∙ left

  pub turn-wrong : (number_or l.key ≡ number_of_key w.key → ⊥) → refused 2 line ≡ R
  turn-wrong h =
      sym (turn-other names-text text laws r (most-lines - suc line) line at vs l is (λ e. h (e ∙ sym number-due))) ∙ this-line

  module _ (same : number_or l.key ≡ number_of_key w.key) (result : Result Unit Reason) (new : List ℕ)
      (marks : (next : List ℕ → Reply (List ℕ)) → marked_by result line (next new)
      ≡ listed (list_of (spelled names-text r.names) w.low w.high most (take (l.to - l.from) (drop l.from text))) line w.base vs next) where
    turn-list : marked_by result line
        (record_from (most-lines - suc line) (draft_by names-text laws r) (suc line)
        (filled (w.base + r.fluents) (w.high - r.fluents) new) (drop l.next text))
        ≡ R
    turn-list =
        marks (λ ws. record_from (most-lines - suc line) (draft_by names-text laws r) (suc line)
        (filled (w.base + r.fluents) (w.high - r.fluents) ws) (drop l.next text))
        ∙ ap (λ v. listed (list_of (spelled names-text r.names) v.low v.high most (take (l.to - l.from) (drop l.from text)))
        line v.base vs
        (λ ws. record_from (most-lines - suc line) (draft_by names-text laws r) (suc line)
        (filled (v.base + r.fluents) (v.high - r.fluents) ws) (drop l.next text)))
        is-due
        ∙ sym (turn-due names-text text laws r (most-lines - suc line) line at vs l is (same ∙ number-due))
        ∙ this-line

    pub turn-refused : {reason : Reason} → result ≡ Err reason → refused (number_of reason) line ≡ R
    turn-refused e = rw e at turn-list

    pub turn-read : {u : Unit} → result ≡ Ok u → {full : List ℕ} → full ≡ filled (w.base + r.fluents) (w.high - r.fluents) new
        → record_from (most-lines - (line + 1)) (draft_by names-text laws r) (line + 1) full (drop l.next text) ≡ R
    turn-read e f = rw (add-one line, f) (rw e at turn-list)

-- the lines at the start
pub record-starts : (T : ℕ) (d : Draft) (text vs : List ℕ) → record_from (2 * T + 1 + 1 - 1) d 1 vs text ≡ states_from T d 0 1 vs text
record-starts T d text vs =
    let left : 2 * T + 1 + 1 - 1 ≡ suc (T + T) = omega arith in
    rw left (sym (states-lines T d 0 1 vs text refl))

-- a history behind a description that was read: 10, then 1, then its lines
module _ (names-text : List ℕ) (laws : List Law) (r : Declarations) (rest : List ℕ) (line : ℕ) (text : List ℕ) (room : ℕ) where
  pub history-room : (room ≡ atoms_of r → ⊥) → by_names (answered (read (draft_by names-text laws r) rest line)) text room ≡ refused 10 room
  history-room h = rw (spelled-length names-text r.names, ne_eqb room (atoms_of r) h)

  pub history-long : room ≡ atoms_of r → 65535 < length text
      → by_names (answered (read (draft_by names-text laws r) rest line)) text room ≡ refused 1 0
  history-long e h = rw (spelled-length names-text r.names, eq-eqb room (atoms_of r) e, lt-ltb 65535 (length text) h)

  pub history-lines : room ≡ atoms_of r → length text ≤ 65535
      → by_names (answered (read (draft_by names-text laws r) rest line)) text room
      ≡ states_from r.horizon (draft_by names-text laws r) 0 1 (replicate room 0) text
  history-lines e h = rw (spelled-length names-text r.names, eq-eqb room (atoms_of r) e, le-ltb 65535 (length text) h, e)

-- the first of so many places that hold 0
pub first-zeros : (n m : ℕ) → n ≤ m → take {A = ℕ} n (replicate m 0) ≡ replicate n 0
first-zeros zero m h = refl
first-zeros (suc n) zero h = absurd (omega arith)
first-zeros (suc n) (suc m) h = ap (λ xs. 0 ∷ xs) (first-zeros n m (omega arith))

-- a list is read from 0 or not at all
pub place-bound : (size : ℕ) → place_from size ≤ size + 1
place-bound size = go (ltb 0 size)
  where
    go : (b : Bool) → cond b 0 (size + 1) ≤ size + 1
    go true = omega arith
    go false = omega arith

-- before the first item
pub marked-none : (names : List (List ℕ)) (w : Wanted) (list : List ℕ) (i : ℕ) (old : List ℕ) → Marked names w list i i old old
marked-none names w list i old = record { done = []; few = omega arith; values = refl; left = refl }
