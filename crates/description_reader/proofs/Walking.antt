-- The lines that are left: enough steps are enough, one line makes one step, and what its list comes to.
-- Assumes nothing.
use mathlib.Core.Path.{◌≡◌, refl, sym, ◌∙◌, ap}
use mathlib.Core.Bool.{Bool, true, false, cond, ◌&&◌}
use mathlib.Core.List.{List, [], ◌∷◌}
use mathlib.Core.Option.{Option, none, some}
use Prim.Native.Nat.{ℕ, zero, suc, ◌+◌, ◌-◌, ◌≤◌, ◌<◌, min}
use native.Mathlib.Numerals.{add-one}
use native.Mathlib.Omega.{arith}
use borrow.Author.Tests.{lt-ltb, le-ltb, ltb-true, ltb-false, eqb-true}
use lib.Dec.{eqb, ltb}
use lib.ListN.{length, take, drop, length-take, length-drop}
use Rattle.std.specs.Prelude.{Some, None}
use Rattle.basics.specs.Search.{first}
use Rattle.basics.proofs.Tests.{and-iff}
use Rattle.text_forms.specs.declared.Key.{Key}
use Rattle.text_forms.specs.Keys.{number_of_key}
use Rattle.text_forms.proofs.Keys.{key_below}
use Rattle.text_forms.specs.Bytes.{newline, equals_sign, Cut, cut_at, cut}
use Rattle.text_forms.specs.Lines.{no_key, Line, keyed, valued, ended, key_number, first_line}
use Rattle.text_forms.specs.Places.{line_at}
use Rattle.description_lines.specs.LineSteps.{Due, horizon_due, Draft, allowed, room_for, any_list}
use Rattle.description_lines.specs.LineSteps as step
use Rattle.description_lines.specs.LineSteps.{Step, next, finish, line_step}
use Rattle.basics.specs.Replies.{Reply, refused}
use Rattle.description_lines.specs.Descriptions.{Taken, blank, after_step, after_first, lines_from, described}
use Rattle.text_forms.specs.declared.LineAt.{LineAt}
use Rattle.description_reader.specs.declared.states.ReaderState.{ReaderState}
use Rattle.description_reader.specs.declared.states.Due as code
use Rattle.text_forms.specs.Lists as lists
use Rattle.text_forms.specs.Lists.{Listed, codes, list_from, list_of}
use Rattle.text.specs.Internal.{spelled, items_at}
use Rattle.description_reader.specs.Internal.{due_of, draft_of, goes_on, step_with, is_list_key, items_from, high_for}
use Rattle.text.proofs.Cutting.{first-inside}
use Rattle.text.proofs.Placing.{line_of, line-answers, line-fits}
use Rattle.text.proofs.Spelling.{spelled-length}
use Rattle.text.proofs.Items.{items-start, items-end, items-none}

-- what is behind a line is shorter than the text
keyed-rest : (o : Option ℕ) (value rest : List ℕ) (l : Line) → keyed o value rest ≡ some l → l.rest ≡ rest
keyed-rest none value rest l e = cc
keyed-rest (some k) value rest l e =
    let q : ◌≡◌ {A = Line} (record { key = k; value = value; rest = rest }) l = cc in
    sym (ap (λ x. x.rest) q)

valued_rest : (o : Option Cut) (rest : List ℕ) (l : Line) → valued o rest ≡ some l → l.rest ≡ rest
valued_rest none rest l e = cc
valued_rest (some c) rest l e = keyed-rest (key_number c.front) c.back rest l e

ended-rest : (text : List ℕ) (o : Option ℕ) (l : Line) → first (eqb newline) 0 text ≡ o → ended (cut_at text o) ≡ some l
    → length l.rest < length text
ended-rest text none l f e = cc
ended-rest text (some i) l f e =
    omega (
      arith,
      first-inside (eqb newline) text i f,
      length-drop (suc i) text,
      ap length (valued_rest (cut equals_sign (take i text)) (drop (suc i) text) l e),
    )

pub shorter : (text : List ℕ) (l : Line) → first_line text ≡ some l → length l.rest < length text
unfolding first_line cut
shorter text l e = ended-rest text (first (eqb newline) 0 text) l refl e

-- enough steps are enough
module _ (k m lent line : ℕ) where
  after-step : (s : Step) (rest : List ℕ)
      → ((due : Due) (d : Draft) → lines_from k lent (suc line) due d rest ≡ lines_from m lent (suc line) due d rest)
      → after_step s line rest (λ due d r. lines_from k lent (suc line) due d r)
      ≡ after_step s line rest (λ due d r. lines_from m lent (suc line) due d r)
  after-step (step.refused j) rest h = refl
  after-step (next due d) rest h = h due d
  after-step (finish d) rest h = refl

  after_first_lem : (o : Option Line) (due : Due) (d : Draft)
      → ((l : Line) → o ≡ some l → (due : Due) (d : Draft)
      → lines_from k lent (suc line) due d l.rest ≡ lines_from m lent (suc line) due d l.rest)
      → after_first o lent due d line (λ due d r. lines_from k lent (suc line) due d r)
      ≡ after_first o lent due d line (λ due d r. lines_from m lent (suc line) due d r)
  after_first_lem none due d h = refl
  after_first_lem (some l) due d h = after-step (line_step lent due d l.key l.value) l.rest (h l refl)

pub lines-enough : (k m lent line : ℕ) (due : Due) (d : Draft) (text : List ℕ) → length text < k → length text < m
    → lines_from k lent line due d text ≡ lines_from m lent line due d text
lines-enough zero m lent line due d text h g = absurd (omega arith)
lines-enough (suc k) zero lent line due d text h g = absurd (omega arith)
lines-enough (suc k) (suc m) lent line due d text h g =
    after_first_lem k m lent line (first_line text) due d
    (λ l e due' d'. lines-enough k m lent (suc line) due' d' l.rest (omega (arith, shorter text l e)) (omega (arith, shorter text l e)))

-- the list of a line as the loop over its items reads it: nothing where the line has no list to read
abbrev pub line_list : List (List ℕ) → ℕ → Due → ℕ → Bool → List ℕ → Listed
line_list names high due key room list = list_from names 0 high 6 [] (items_at list (items_from due key room (length list)))

module _ (names : List (List ℕ)) (high : ℕ) (due : Due) (key : ℕ) (room : Bool) (list : List ℕ) where
  list-sized : (b : Bool) → ltb 0 (length list) ≡ b → (allowed due key && is_list_key key room) ≡ true
      → line_list names high due key room list ≡ list_of names 0 high 6 list
  unfolding items_from list_of
  list-sized true e is = rw (e, is, items-start list (ltb-true 0 (length list) e))
  list-sized false e is =
      let past : items_at list (length list + 1) ≡ [] = items-end list (length list + 1) (omega arith) in
      rw (e, past, items-none list (ltb-false 0 (length list) e))

  list_read : allowed due key ≡ true → is_list_key key room ≡ true → line_list names high due key room list ≡ list_of names 0 high 6 list
  list_read may is = list-sized (ltb 0 (length list)) refl ((and-iff (allowed due key) (is_list_key key room)).1 (may, is))

  none-sized : (b : Bool) → ltb 0 (length list) ≡ b → (allowed due key && is_list_key key room) ≡ false
      → line_list names high due key room list ≡ codes []
  unfolding items_from
  none-sized true e is =
      let past : items_at list (length list + 1) ≡ [] = items-end list (length list + 1) (omega arith) in
      rw (e, is, past)
  none-sized false e is =
      let past : items_at list (length list + 1) ≡ [] = items-end list (length list + 1) (omega arith) in
      rw (e, past)

  list-none : (allowed due key && is_list_key key room) ≡ false → line_list names high due key room list ≡ codes []
  list-none is = none-sized (ltb 0 (length list)) refl is

-- a choice by a test, whichever way it goes
by-test : (P : Type 0) (b : Bool) → (b ≡ true → P) → (b ≡ false → P) → P
by-test P true t f = t refl
by-test P false t f = f refl

-- the run has room where the draft has
module _ (text : List ℕ) (s : ReaderState) where
  pub counted : length (take s.count s.laws) ≡ s.count
  counted = omega (arith, length-take s.count s.laws, s.held, s.room)

  pub room-here : ltb s.count (min 64 s.lent) ≡ room_for s.lent (draft_of text s)
  room-here = rw counted

-- a line's step with its list read is the line's step
module _ (text : List ℕ) (lent : ℕ) (due : Due) (s : ReaderState) (key : ℕ) (list : List ℕ) where
  abbrev d : Draft
  d = draft_of text s

  abbrev listed : Listed
  listed = line_list (spelled text s.names) (high_for key s) due key (room_for lent d) list

  abbrev Same : Type 0
  Same = step_with lent due d key list listed ≡ line_step lent due d key list

  module _ (may : allowed due key ≡ true) where
    -- the names of a list of either sort
    any-listed : (is_list_key key (room_for lent d)) ≡ true → eqb key 5 ≡ false → listed ≡ any_list d list
    any-listed is n = rw (list_read (spelled text s.names) (high_for key s) due key (room_for lent d) list may is, n, spelled-length)

    same-nonexecutable : eqb key 14 ≡ true → (b : Bool) → room_for lent d ≡ b → Same
    unfolding step_with line_step
    same-nonexecutable e true room =
        let k = eqb-true key 14 e in
        rw (any-listed (rw (room, k)) (rw k), may, k)
    same-nonexecutable e false room = let k = eqb-true key 14 e in rw (may, k, room)

    same_by : eqb key 13 ≡ true → Same
    unfolding step_with line_step
    same_by e = let k = eqb-true key 13 e in rw (any-listed (rw k) (rw k), may, k)

    same_after : eqb key 6 ≡ true → Same
    unfolding step_with line_step
    same_after e = let k = eqb-true key 6 e in rw (any-listed (rw k) (rw k), may, k)

    same_if : eqb key 5 ≡ true → Same
    unfolding step_with line_step
    same_if e =
        let k = eqb-true key 5 e in
        rw (list_read (spelled text s.names) (high_for key s) due key (room_for lent d) list may (rw k), may, k)

    same-other : eqb key 5 ≡ false → eqb key 6 ≡ false → eqb key 13 ≡ false → eqb key 14 ≡ false → Same
    unfolding step_with line_step
    same-other i a b n = rw (may, i, a, b, n)

    same_step : Same
    same_step =
        by-test Same (eqb key 5) same_if
        (λ i. by-test Same (eqb key 6) same_after
        (λ a. by-test Same (eqb key 13) same_by
        (λ b. by-test Same (eqb key 14) (λ e. same-nonexecutable e (room_for lent d) refl) (λ n. same-other i a b n))))

  step_by : (b : Bool) → allowed due key ≡ b → Same
  unfolding step_with line_step
  step_by true e = same_step e
  step_by false e = rw e

  pub step-whole : Same
  step-whole = step_by (allowed due key) refl

  -- a list that is refused refuses its line
  module _ (k : ℕ) (fails : listed ≡ lists.refused k) where
    abbrev Refuses : Type 0
    Refuses = step_with lent due d key list (lists.refused k) ≡ step.refused k

    with-key : allowed due key ≡ true → is_list_key key (room_for lent d) ≡ true → Refuses
    unfolding step_with
    with-key may is =
        by-test Refuses (eqb key 5) (λ i. rw (may, i))
        (λ i. by-test Refuses (eqb key 6) (λ a. rw (may, i, a))
        (λ a. by-test Refuses (eqb key 13) (λ b. rw (may, i, a, b))
        (λ b.
        let last : (eqb key 14 && room_for lent d) ≡ true = rw (i, a, b) at is in
        let both = (and-iff (eqb key 14) (room_for lent d)).0 last in
        let which = eqb-true key 14 both.0 in
        rw (may, which, both.1))))

    with-list : (b : Bool) → (allowed due key && is_list_key key (room_for lent d)) ≡ b → Refuses
    with-list true e = let t = (and-iff (allowed due key) (is_list_key key (room_for lent d))).0 e in with-key t.0 t.1
    with-list false e = let none = list-none (spelled text s.names) (high_for key s) due key (room_for lent d) list e in cc

    pub list-refuses : step.refused k ≡ line_step lent due d key list
    list-refuses = sym (with-list (allowed due key && is_list_key key (room_for lent d)) refl) ∙ (rw fails at step-whole)

-- what the lines left come to behind a step: those from a place on, where so many lines are read
abbrev pub left : List ℕ → ℕ → Step → ℕ → ℕ → Reply Taken
left text lent s at lines =
    after_step s lines (drop at text) (λ due d rest. lines_from (suc (length rest)) lent (suc lines) due d rest)

pub left-start : (text : List ℕ) (lent : ℕ) → length text ≤ 65535 → left text lent (next horizon_due blank) 0 0 ≡ described lent text
unfolding described
left-start text lent h = rw (le-ltb 65535 (length text) h)

fewer : (s : Step) (k lent line : ℕ) (rest : List ℕ) → length rest < k
    → after_step s line rest (λ due d r. lines_from k lent (suc line) due d r)
    ≡ after_step s line rest (λ due d r. lines_from (suc (length r)) lent (suc line) due d r)
fewer (step.refused j) k lent line rest h = refl
fewer (next due d) k lent line rest h = lines-enough k (suc (length rest)) lent (suc line) due d rest h (omega arith)
fewer (finish d) k lent line rest h = refl

-- a part is as long as it is
part-stands : (n : ℕ) (xs : List ℕ) → take n xs ≡ take (length (take n xs)) xs
part-stands zero xs = refl
part-stands (suc n) [] = refl
part-stands (suc n) (x ∷ xs) = ap (λ ys. x ∷ ys) (part-stands n xs)

-- one more line
module _ (text : List ℕ) (lent at lines : ℕ) (due : Due) (d : Draft) {l : LineAt} (is : l ≡ line_at text at) where
  abbrev value : List ℕ
  value = take (l.to - l.from) (drop l.from text)

  no_line : l.key ≡ None → left text lent (next due d) at lines ≡ refused 2 (suc lines)
  unfolding line_of
  no_line e = let answers = rw e at (line-answers text at is) in rw (← answers)

  one_line : (key : Key) → l.key ≡ Some key
      → left text lent (next due d) at lines ≡ left text lent (line_step lent due d (number_of_key key) value) l.next (suc lines)
  unfolding line_of
  one_line key e =
      let below = key_below key in
      let answers = rw (e, lt-ltb (number_of_key key) no_key below) at (line-answers text at is) in
      let f = line-fits text at is in
      let later : at < l.next = f.later (rw e below) in
      rw (← answers)
      (fewer (line_step lent due d (number_of_key key) value) (length (drop at text)) lent (suc lines) (drop l.next text)
      (omega (arith, length-drop at text, length-drop l.next text, f.within)))

-- what the reader knows at a place where something is due, with a line there or none: D is what the text comes to
pub record Here (text : List ℕ) (lent at lines : ℕ) (s : ReaderState) (due : code.Due) (l : LineAt) (D : Reply Taken) : Type 0 where
  pub now : s.due ≡ Some due
  pub same : s.lent ≡ lent
  pub is : l ≡ line_at text at
  pub before : left text lent (goes_on s.due (draft_of text s)) at lines ≡ D

pub here-by : {text : List ℕ} {lent at lines : ℕ} (s : ReaderState) {due : code.Due} {l : LineAt} {D : Reply Taken} → s.due ≡ Some due
    → s.lent ≡ lent → l ≡ line_at text at → left text lent (goes_on s.due (draft_of text s)) at lines ≡ D
    → Here text lent at lines s due l D
here-by s now same is before = record { now = now; same = same; is = is; before = before }

-- the list of a line as the loop over its items reads it
abbrev pub listing : List ℕ → ℕ → ReaderState → code.Due → LineAt → ℕ → Listed
listing text lent s due l key =
    line_list (spelled text s.names) (high_for key s) (due_of due) key (room_for lent (draft_of text s))
    (take (l.to - l.from) (drop l.from text))

module _ {text : List ℕ} {lent at lines : ℕ} {s : ReaderState} {due : code.Due} {l : LineAt} {D : Reply Taken}
    (h : Here text lent at lines s due l D) where
  next-line : left text lent (next (due_of due) (draft_of text s)) at lines ≡ D
  next-line = ap (λ o. left text lent (goes_on o (draft_of text s)) at lines) (sym h.now) ∙ h.before

  pub turn-no-line : l.key ≡ None → refused 2 (lines + 1) ≡ D
  turn-no-line e = rw (add-one lines) (sym (no_line text lent at lines (due_of due) (draft_of text s) h.is e) ∙ next-line)

  module _ (key : Key) (keyed : l.key ≡ Some key) where
    abbrev k : ℕ
    k = number_of_key key

    abbrev list : List ℕ
    list = take (l.to - l.from) (drop l.from text)

    this-line : left text lent (line_step lent (due_of due) (draft_of text s) k list) l.next (suc lines) ≡ D
    this-line = sym (one_line text lent at lines (due_of due) (draft_of text s) h.is key keyed) ∙ next-line

    pub turn-refused : (n : ℕ) → listing text lent s due l k ≡ lists.refused n → refused n (lines + 1) ≡ D
    turn-refused n fails =
        rw (add-one lines)
        (ap (λ x. left text lent x l.next (suc lines)) (list-refuses text lent (due_of due) s k list n fails) ∙ this-line)

    pub turn-step : (cs : List ℕ) → codes cs ≡ listing text lent s due l k → (x : Step)
        → x ≡ step_with s.lent (due_of due) (draft_of text s) k (take (length list) (drop l.from text)) (codes cs)
        → left text lent x l.next (lines + 1) ≡ D
    turn-step cs gathered x e =
        rw (add-one lines)
        (ap (λ y. left text lent y l.next (suc lines))
        (e
        ∙ ap (λ n. step_with n (due_of due) (draft_of text s) k (take (length list) (drop l.from text)) (codes cs)) h.same
        ∙ ap (λ v. step_with lent (due_of due) (draft_of text s) k v (codes cs)) (sym (part-stands (l.to - l.from) (drop l.from text)))
        ∙ ap (step_with lent (due_of due) (draft_of text s) k list) gathered
        ∙ step-whole text lent (due_of due) s k list)
        ∙ this-line)

    -- the list as the loop begins on it
    pub listing-begins : {high i : ℕ} {room : Bool} → high ≡ high_for k s → room ≡ ltb s.count (min 64 s.lent)
        → i ≡ items_from (due_of due) k room (length list)
        → list_from (spelled text s.names) 0 high 6 [] (items_at list i) ≡ listing text lent s due l k
    listing-begins e r f = rw (e, f, r, room-here text s, h.same)

-- bounds of a line's list
pub high-32 : (key : ℕ) (s : ReaderState) → high_for key s ≤ 32
high-32 key s = go (eqb key 5)
  where
    go : (b : Bool) → cond b s.fluents s.names.count ≤ 32
    go true = omega (arith, s.few)
    go false = omega (arith, s.few, s.actions)

pub from-bound : (due : Due) (key : ℕ) (room : Bool) (size : ℕ) → items_from due key room size ≤ size + 1
unfolding items_from
from-bound due key room size = go (ltb 0 size && (allowed due key && is_list_key key room))
  where
    go : (b : Bool) → cond b 0 (size + 1) ≤ size + 1
    go true = omega arith
    go false = omega arith
