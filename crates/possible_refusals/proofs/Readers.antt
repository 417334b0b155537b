-- The numbers by which the readers refuse a text.
-- Assumes nothing.
use mathlib.Core.Path.{◌≡◌, refl, subst, ap}
use mathlib.Core.Logic.{⊎_elim}
use mathlib.Core.Bool.{Bool, true, false, cond}
use mathlib.Core.List.{List, [], ◌∷◌, ◌++◌}
use mathlib.Core.Option.{Option, none, some}
use Prim.Native.Nat.{ℕ, zero, suc, ◌+◌, min, ◌≤◌}
use native.Mathlib.Omega.{arith}
use borrow.Author.Tests.{eq-eqb, eqb-true, ltb-false, le-ltb}
use lib.Dec.{eqb, ltb}
use lib.ListN.{length, take, drop, replicate, length-append, length-take, length-drop}
use Rattle.basics.specs.Search.{all, first}
use Rattle.basics.specs.Replies.{Reply, refused, answered}
use Rattle.basics.proofs.Tests.{not-both, and-iff, or-iff}
use Rattle.action_language.specs.declared.Head.{Head}
use Rattle.action_language.specs.declared.Kind.{Kind}
use Rattle.action_language.specs.declared.Kind.TheVariants.{Static, Dynamic}
use Rattle.text_forms.specs.Bytes.{newline, comma, equals_sign, cut_at, cut}
use Rattle.text_forms.specs.Lines.{end_key, Line, keyed, valued, ended, key_number, first_line}
use Rattle.text_forms.specs.Names.{literal}
use Rattle.text_forms.specs.Lists as lists
use Rattle.text_forms.specs.Lists.{Listed, codes, items_in, items, added, list_from, list_of}
use Rattle.text.proofs.Cutting.{first-inside}
use Rattle.description_lines.specs.LineSteps as step
use Rattle.description_lines.specs.LineSteps.{Due, horizon_due, Draft, Step, next, finish, with_if, line_step}
use Rattle.description_lines.specs.Descriptions.{Taken, read, after_step, after_first, blank, lines_from, described}
use Rattle.history_reader.specs.Histories as histories
use Rattle.history_reader.specs.Histories.{at_end, history_end, listed, list_line, undone_false, states_from, atoms}
use Rattle.history_reader.specs.Histories.{recorded, by_names, read_history}
use Rattle.reader_bounds.proofs.Drafts.{BoundedReply, bounded}
use Rattle.reader_bounds.proofs.LineCases.{chosen, Cases, line-cases}
use Rattle.whole_inputs.specs.Inputs.{moved_by, recorded_in}
use Rattle.possible_refusals.specs.Refusals.{among, RefusedBy}

-- a number among some is among others that hold them all
pub among-more : (few many : List ℕ) (k : ℕ) → all (λ c. among c many) few ≡ true → among k few ≡ true → among k many ≡ true
among-more [] many k e h = absurd (not-both h refl)
among-more (c ∷ few) many k e h =
    let both = (and-iff (among c many) (all (λ x. among x many) few)).0 e in
    ⊎_elim (λ (is : eqb k c ≡ true). rw (eqb-true k c is) both.0) (λ (later : among k few ≡ true). among-more few many k both.1 later)
    ((or-iff (eqb k c) (among k few)).0 h)

pub refused-more : {A : Type 0} (few many : List ℕ) → all (λ c. among c many) few ≡ true → (r : Reply A)
    → RefusedBy few r → RefusedBy many r
refused-more few many e (refused number place) h = among-more few many number e h
refused-more few many e (answered a) h = tt

-- Lists of a history: they are of any number, since no text holds too many

abbrev ListedBy : List ℕ → Listed → Type 0
ListedBy numbers (lists.refused k) = among k numbers ≡ true
ListedBy numbers (codes cs) = Unit

-- each item takes a comma or the end
module _ (k : ℕ) (bs : List ℕ) (again : (back : List ℕ) → length (items_in k back) ≤ suc (length back)) where
  few-from : (o : Option ℕ) → first (eqb comma) 0 bs ≡ o → length (items_in (suc k) bs) ≤ suc (length bs)
  unfolding cut
  few-from none e = rw e (omega arith)
  few-from (some i) e =
      let inside = first-inside (eqb comma) bs i e in
      rw e (omega (arith, again (drop (suc i) bs), length-drop (suc i) bs))

few-in : (k : ℕ) (bs : List ℕ) → length (items_in k bs) ≤ suc (length bs)
few-in zero bs = omega arith
few-in (suc k) bs = few-from k bs (few-in k) (first (eqb comma) 0 bs) refl

few-items : (value : List ℕ) → length (items value) ≤ suc (length value)
unfolding items
few-items [] = omega arith
few-items (b ∷ bs) = few-in (suc (length (b ∷ bs))) (b ∷ bs)

-- where there is room for all items only 6 comes
items-by : (names : List (List ℕ)) (low high most : ℕ) (done : List ℕ) (xs : List (List ℕ)) → length done + length xs ≤ most
    → ListedBy (6 ∷ []) (list_from names low high most done xs)
items-by names low high most done [] room = tt
items-by names low high most done (x ∷ xs) room =
    chosen (ListedBy (6 ∷ [])) (ltb (length done) most)
    (λ _. by-literal (literal names low high x)
    (λ c. items-by names low high most (done ++ (c ∷ [])) xs (omega (arith, length-append done (c ∷ [])))))
    (λ full. absurd (omega (arith, ltb-false (length done) most full)))
  where
    by-literal : (o : Option ℕ) → ((c : ℕ) → ListedBy (6 ∷ []) (list_from names low high most (done ++ (c ∷ [])) xs))
        → ListedBy (6 ∷ []) (added done o (λ more. list_from names low high most more xs))
    by-literal none later = refl
    by-literal (some c) later = later c

list-by : (names : List (List ℕ)) (low high : ℕ) (value : List ℕ) → length value ≤ 65535
    → ListedBy (6 ∷ []) (list_of names low high histories.most value)
unfolding list_of
list-by names low high value short = items-by names low high histories.most [] (items value) (omega (arith, few-items value))

-- Descriptions

abbrev six : List ℕ
six = 1 ∷ 2 ∷ 3 ∷ 4 ∷ 5 ∷ 6 ∷ []

abbrev StepBy : Step → Type 0
StepBy (step.refused k) = among k six ≡ true
StepBy (next due d) = Unit
StepBy (finish d) = Unit

with-if-by : (d : Draft) (kind : Kind) (head : Head) (cs : List ℕ) → StepBy (with_if d kind head cs)
with-if-by d Static head cs = tt
with-if-by d Dynamic head cs = tt

-- a line is refused by 2 to 6, whatever is known where it stands
line-by : (lent : ℕ) (d : Draft) (value : List ℕ) → Cases lent d value (λ _. Unit) StepBy
line-by lent d value =
    record {
      further = λ _. tt;
      no-fluent = λ _. tt;
      no-action = λ _. tt;
      refusals = (refl, (refl, (refl, (refl, (refl, tt)))));
      horizon = λ _ _ _ _. tt;
      fluent = λ _ _ _. tt;
      action = λ _ _ _. tt;
      begins = λ _ _ _ _ _. tt;
      causes = λ _ _ _ _. tt;
      default = λ _ _ _ _. tt;
      inertial = λ _ _ _ _. tt;
      nonexecutable = λ _ _ _ _. tt;
      if-list = λ l _ kind cs _. with-if-by d kind l.head cs;
      after_list = λ _ _ _ _. tt;
      by-list = λ _ _ _ _. tt;
      ends = λ _. tt;
    }

step_by : (lent : ℕ) (due : Due) (d : Draft) (key : ℕ) (value : List ℕ) → StepBy (line_step lent due d key value)
step_by lent due d key value = line-cases lent d value (λ _. Unit) StepBy (line-by lent d value) due key tt

module _ (lent : ℕ) where
  lines-by : (fuel line : ℕ) (due : Due) (d : Draft) (text : List ℕ) → RefusedBy six (lines_from fuel lent line due d text)
  lines-by zero line due d text = refl
  lines-by (suc fuel) line due d text = by-line (λ due' d' rest. lines-by fuel (suc line) due' d' rest) (first_line text)
    where
      by-step : ((due' : Due) (d' : Draft) (rest : List ℕ) → RefusedBy six (lines_from fuel lent (suc line) due' d' rest))
          → (s : Step) (rest : List ℕ) → StepBy s
          → RefusedBy six (after_step s line rest (λ due' d' rest'. lines_from fuel lent (suc line) due' d' rest'))
      by-step go (step.refused k) rest h = h
      by-step go (next due' d') rest h = go due' d' rest
      by-step go (finish d') rest h = tt

      by-line : ((due' : Due) (d' : Draft) (rest : List ℕ) → RefusedBy six (lines_from fuel lent (suc line) due' d' rest))
          → (o : Option Line)
          → RefusedBy six (after_first o lent due d line (λ due' d' rest'. lines_from fuel lent (suc line) due' d' rest'))
      by-line go none = refl
      by-line go (some l) = by-step go (line_step lent due d l.key l.value) l.rest (step_by lent due d l.key l.value)

  pub described-by : (text : List ℕ) → RefusedBy six (described lent text)
  unfolding described
  described-by text =
      chosen (RefusedBy six) (ltb 65535 (length text)) (λ _. refl) (λ _. lines-by (suc (length text)) 1 horizon_due blank text)

-- Histories

-- the numbers by which the lines of a history are refused
abbrev own : List ℕ
own = 2 ∷ 6 ∷ 7 ∷ []

abbrev Own : Reply (List ℕ) → Type 0
Own r = RefusedBy own r

-- a line's value and what stands behind it, where there is a line
abbrev Short : Option Line → Type 0
Short none = Unit
Short (some l) = (length l.value ≤ 65535) × (length l.rest ≤ 65535)

line-short : (text : List ℕ) → length text ≤ 65535 → Short (first_line text)
unfolding first_line cut
line-short text small = by_end (first (eqb newline) 0 text)
  where
    by_key : (o : Option ℕ) (value rest : List ℕ) → length value ≤ 65535 → length rest ≤ 65535 → Short (keyed o value rest)
    by_key none value rest v r = tt
    by_key (some k) value rest v r = (v, r)

    by_sign : (i : ℕ) (o : Option ℕ) → Short (valued (cut_at (take i text) o) (drop (suc i) text))
    by_sign i none = tt
    by_sign i (some j) =
        by_key (key_number (take j (take i text))) (drop (suc j) (take i text)) (drop (suc i) text)
        (omega (arith, length-drop (suc j) (take i text), length-take i text)) (omega (arith, length-drop (suc i) text))

    by_end : (o : Option ℕ) → Short (ended (cut_at text o))
    by_end none = tt
    by_end (some i) = by_sign i (first (eqb equals_sign) 0 (take i text))

module _ (line : ℕ) where
  at-end : (vs rest : List ℕ) → Own (at_end vs line rest)
  at-end vs [] = tt
  at-end vs (b ∷ bs) = refl

  history-end : (o : Option Line) (vs : List ℕ) → Own (history_end o line vs)
  history-end none vs = refl
  history-end (some l) vs = by_value l.value refl
    where
      by_value : (v : List ℕ) → l.value ≡ v → Own (history_end (some l) line vs)
      by_value [] e = chosen Own (eqb l.key end_key) (λ _. rw e (at-end vs l.rest)) (λ _. refl)
      by_value (b ∷ bs) e = chosen Own (eqb l.key end_key) (λ _. rw e refl) (λ _. refl)

  listed_by : (l : Listed) (base : ℕ) (vs : List ℕ) (go : List ℕ → Reply (List ℕ)) → ListedBy (6 ∷ []) l
      → ((vs' : List ℕ) → Own (go vs'))
      → Own (listed l line base vs go)
  listed_by (lists.refused k) base vs go h later = among-more (6 ∷ []) own k refl h
  listed_by (codes cs) base vs go h later = later _

  list-line-by : (d : Draft) (key low high : ℕ) (o : Option Line) (base : ℕ) (vs : List ℕ) (go : List ℕ → List ℕ → Reply (List ℕ))
      → Short o → ((vs' rest : List ℕ) → length rest ≤ 65535 → Own (go vs' rest)) → Own (list_line d key low high o line base vs go)
  list-line-by d key low high none base vs go short later = refl
  list-line-by d key low high (some l) base vs go short later =
      chosen Own (eqb l.key key)
      (λ _. listed_by (list_of d.names low high histories.most l.value) base vs (λ vs'. go vs' l.rest)
      (list-by d.names low high l.value short.0) (λ vs'. later vs' l.rest short.1))
      (λ _. refl)

states-by : (n : ℕ) (d : Draft) (t line : ℕ) (vs text : List ℕ) → length text ≤ 65535 → Own (states_from n d t line vs text)
states-by zero d t line vs text small =
    list-line-by line d _ _ _ (first_line text) _ vs _ (line-short text small)
    (λ vs' rest _. history-end (suc line) (first_line rest) vs')
states-by (suc n) d t line vs text small =
    list-line-by line d _ _ _ (first_line text) _ vs _ (line-short text small)
    (λ vs' rest small'.
    list-line-by (suc line) d _ _ _ (first_line rest) _ vs' _ (line-short rest small')
    (λ vs'' rest' small''. states-by n d (suc t) (suc (suc line)) (undone_false d t vs'') rest' small''))

-- behind a description that was taken: the history's length, the buffer's length, and the lines
abbrev behind : List ℕ
behind = 1 ∷ 2 ∷ 6 ∷ 7 ∷ 10 ∷ []

recorded-by : (d : Draft) (text : List ℕ) (room : ℕ) → RefusedBy behind (recorded d text room)
recorded-by d text room = by-room (eqb room (atoms d)) refl
  where
    by_length : RefusedBy behind (cond (ltb 65535 (length text)) (refused 1 0) (states_from d.horizon d 0 1 (replicate (atoms d) 0) text))
    by_length =
        chosen (RefusedBy behind) (ltb 65535 (length text)) (λ _. refl)
        (λ small. refused-more own behind refl (states_from d.horizon d 0 1 (replicate (atoms d) 0) text)
        (states-by d.horizon d 0 1 (replicate (atoms d) 0) text (ltb-false 65535 (length text) small)))

    by-room : (b : Bool) → eqb room (atoms d) ≡ b → RefusedBy behind (recorded d text room)
    by-room true e = rw e by_length
    by-room false e = rw e refl

module _ (description : List ℕ) (d : Draft) (rest : List ℕ) (lines : ℕ) (is : described 64 description ≡ answered (read d rest lines)) where
  pub taken-history-by : (text : List ℕ) (room : ℕ) → RefusedBy behind (read_history description text room)
  unfolding read_history
  taken-history-by text room = rw is (recorded-by d text room)

  text-short : length description ≤ 65535
  unfolding described
  text-short = by_length (ltb 65535 (length description)) refl is
    where
      by_length : (b : Bool) → ltb 65535 (length description) ≡ b
          → cond b (refused 1 0) (lines_from (suc (length description)) 64 1 horizon_due blank description) ≡ answered (read d rest lines)
          → length description ≤ 65535
      by_length true q e = absurd (let z : ◌≡◌ {A = ℕ} 0 1 = cc in omega arith)
      by_length false q e = ltb-false 65535 (length description) q

  -- the rest is an end of the text
  rest-short : length rest ≤ 65535
  rest-short =
      let end = (subst (BoundedReply description (min 64 64) 65537) is (bounded 64 description)).behind in
      omega (arith, text-short, ap length end.whole, length-append end.front rest)

  -- a whole input: the buffer has the length that is due, and the rest of the text is short
  rest-by : Own (read_history description rest (atoms d))
  unfolding read_history
  rest-by =
      rw (is, eq-eqb (atoms d) (atoms d) refl, le-ltb 65535 (length rest) rest-short)
      (states-by d.horizon d 0 1 (replicate (atoms d) 0) rest rest-short)

  pub taken-input-by : Own (recorded_in description)
  unfolding recorded_in
  taken-input-by = rw is (moved_by_lem (read_history description rest (atoms d)) rest-by)
    where
      moved_by_lem : (r : Reply (List ℕ)) → Own r → Own (moved_by lines r)
      moved_by_lem (refused number place) h = h
      moved_by_lem (answered vs) h = tt

-- the same, whether the description is taken or not

abbrev seven : List ℕ
seven = 1 ∷ 2 ∷ 3 ∷ 4 ∷ 5 ∷ 6 ∷ 7 ∷ []

abbrev eight : List ℕ
eight = 1 ∷ 2 ∷ 3 ∷ 4 ∷ 5 ∷ 6 ∷ 7 ∷ 10 ∷ []

pub history-by : (description text : List ℕ) (room : ℕ) → RefusedBy eight (read_history description text room)
unfolding read_history
history-by description text room = by-description (described 64 description) (described-by 64 description)
  where
    by-description : (o : Reply Taken) → RefusedBy six o → RefusedBy eight (by_names o text room)
    by-description (refused number place) h = among-more six eight number refl h
    by-description (answered (read d rest lines)) h = refused-more behind eight refl (recorded d text room) (recorded-by d text room)

pub input-by : (input : List ℕ) → RefusedBy seven (recorded_in input)
unfolding recorded_in
input-by input = by-description (described 64 input) refl (described-by 64 input)
  where
    by-description : (o : Reply Taken) → described 64 input ≡ o → RefusedBy six o → RefusedBy seven (recorded_in input)
    by-description (refused number place) is h = rw is (among-more six seven number refl h)
    by-description (answered (read d rest lines)) is h =
        refused-more own seven refl (recorded_in input) (taken-input-by input d rest lines is)
