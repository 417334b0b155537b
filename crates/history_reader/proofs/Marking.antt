-- Values marked with literals, and the lines of a history.
-- Assumes nothing.
use mathlib.Core.Path.{◌≡◌, refl, sym, ◌∙◌, ap}
use mathlib.Core.Bool.{Bool, true, false, cond}
use mathlib.Core.List.{List, [], ◌∷◌, ◌++◌}
use mathlib.Core.Option.{Option, none, some}
use Prim.Native.Nat.{ℕ, zero, suc, ◌+◌, ◌-◌, ◌*◌, ◌/◌, ◌%◌, ◌≤◌, ◌<◌}
use native.Mathlib.Omega.{arith}
use borrow.Author.Tests.{eq-eqb, ne_eqb, lt-ltb, ltb-true, ltb-false}
use lib.Dec.{eqb, ltb}
use lib.ListN.{length, get_or, set}
use Rattle.basics.specs.Replies.{Reply, refused, answered}
use Rattle.text_forms.specs.Lines.{no_key, Line, keyed, first_line}
use Rattle.text.specs.Internal.{item_at, next_at, items_at}
use Rattle.text.proofs.Placing.{key_in}
use Rattle.text.proofs.Items.{items-next, items-end, items-start, items-none}
use Rattle.text_forms.specs.Lists as lists
use Rattle.text_forms.specs.Lists.{Listed, codes, items, list_from, list_of}
use Rattle.text_forms.specs.Names.{literal}
use Rattle.description_lines.specs.LineSteps.{Draft}
use Rattle.history_values.specs.Values.{with_true, with_false, with_literals}
use Rattle.history_reader.specs.Histories.{history_end, listed, list_line, undone_false, act_line, most, states_from}
use Rattle.history_reader.specs.Internal.{record_from, is_state, key_at, place_from}
use native.Mathlib.Nat.{mul-le-mul_left}

-- one literal after others
pub marked_more : (base : ℕ) (vs : List ℕ) (done : List ℕ) (c : ℕ)
    → with_literals base vs (done ++ (c ∷ [])) ≡ with_literals base (with_literals base vs done) (c ∷ [])
marked_more base vs [] c = refl
marked_more base vs (x ∷ done) c =
    marked_more base
    (set vs (base + x / 2) (cond (eqb (x % 2) 0) (with_true (get_or vs (base + x / 2) 0)) (with_false (get_or vs (base + x / 2) 0))))
    done c

-- a line of literals with what follows it
list-line : (d : Draft) (key low high : ℕ) (o : Option Line) (line base : ℕ) (vs : List ℕ) (f g : List ℕ → List ℕ → Reply (List ℕ))
    → ((ws rest : List ℕ) → f ws rest ≡ g ws rest) → list_line d key low high o line base vs f ≡ list_line d key low high o line base vs g
list-line d key low high none line base vs f g h = refl
list-line d key low high (some l) line base vs f g h = go (eqb l.key key) (list_of d.names low high most l.value)
  where
    go : (b : Bool) (list : Listed)
        → cond b (listed list line base vs (λ ws. f ws l.rest)) (refused 2 line)
        ≡ cond b (listed list line base vs (λ ws. g ws l.rest)) (refused 2 line)
    go true (lists.refused k) = refl
    go true (codes cs) = h (with_literals base vs cs) l.rest
    go false list = refl

-- states and acts in turn are the lines in turn; behind a state line nothing is filled
act-turn : (k : ℕ) (d : Draft) (t line : ℕ) → line ≡ 2 * t + 1
    → ((ws rest : List ℕ) → states_from k d (suc t) (suc (suc line)) ws rest ≡ record_from (suc (k + k)) d (suc (suc line)) ws rest)
    → (ws rest : List ℕ) → act_line d (first_line rest) (suc line) t ws (λ ws' rest'. states_from k d (suc t) (suc (suc line)) ws' rest')
    ≡ record_from (suc (suc (k + k))) d (suc line) ws rest
act-turn k d t line e again ws rest =
    let even : suc line % 2 ≡ 0 = omega arith in
    let time : (suc line - 1) / 2 ≡ t = omega arith in
    rw (even, time)
    (list-line d 8 d.fluents (length d.names) (first_line rest) (suc line) (t * length d.names) ws
    (λ ws' rest'. states_from k d (suc t) (suc (suc line)) (undone_false d t ws') rest')
    (λ ws' rest'. record_from (suc (k + k)) d (suc (suc line)) (undone_false d t ws') rest')
    (λ ws' rest'. again (undone_false d t ws') rest'))

pub states-lines : (k : ℕ) (d : Draft) (t line : ℕ) (vs text : List ℕ) → line ≡ 2 * t + 1
    → states_from k d t line vs text ≡ record_from (suc (k + k)) d line vs text
states-lines zero d t line vs text e =
    let odd : line % 2 ≡ 1 = omega arith in
    let time : (line - 1) / 2 ≡ t = omega arith in
    let no-actions : d.fluents - d.fluents ≡ 0 = omega arith in
    rw (odd, time, no-actions)
states-lines (suc k) d t line vs text e =
    let odd : line % 2 ≡ 1 = omega arith in
    let time : (line - 1) / 2 ≡ t = omega arith in
    let no-actions : d.fluents - d.fluents ≡ 0 = omega arith in
    let left : suc k + suc k ≡ suc (suc (k + k)) = omega arith in
    rw (left, odd, time, no-actions)
    (list-line d 7 0 d.fluents (first_line text) line (t * length d.names) vs
    (λ ws rest. act_line d (first_line rest) (suc line) t ws (λ ws' rest'. states_from k d (suc t) (suc (suc line)) ws' rest'))
    (λ ws rest. record_from (suc (suc (k + k))) d (suc line) ws rest)
    (act-turn k d t line e (λ ws rest. states-lines k d (suc t) (suc (suc line)) ws rest (omega arith))))

-- the end line: another key, a value, bytes behind it, or whole
module _ (line : ℕ) (vs : List ℕ) where
  pub end-other : (k : ℕ) (value rest : List ℕ) → (k ≡ 9 → ⊥) → refused 2 line ≡ history_end (keyed (key_in k) value rest) line vs
  end-other k value rest h = go (ltb k no_key)
    where
      go : (b : Bool) → refused 2 line ≡ history_end (keyed (cond b (some k) none) value rest) line vs
      go true = rw (ne_eqb k 9 h)
      go false = refl

  pub end-valued : (value rest : List ℕ) → 0 < length value → refused 2 line ≡ history_end (keyed (key_in 9) value rest) line vs
  end-valued [] rest h = absurd (omega arith)
  end-valued (b ∷ bs) rest h = refl

  pub end_more : (value rest : List ℕ) → length value ≤ 0 → 0 < length rest
      → refused 7 (suc line) ≡ history_end (keyed (key_in 9) value rest) line vs
  end_more [] [] h g = absurd (omega arith)
  end_more [] (b ∷ bs) h g = refl
  end_more (b ∷ bs) rest h g = absurd (omega arith)

  pub end_whole : (value rest : List ℕ) → length value ≤ 0 → length rest ≤ 0 → answered vs
      ≡ history_end (keyed (key_in 9) value rest) line vs
  end_whole [] [] h g = refl
  end_whole [] (b ∷ bs) h g = absurd (omega arith)
  end_whole (b ∷ bs) rest h g = absurd (omega arith)

-- one turn of the loop over a line's items, where R is what the whole list comes to
module _ (names : List (List ℕ)) (low high : ℕ) (list : List ℕ) (i : ℕ) (inside : i ≤ length list) (done : List ℕ)
    (few : length done < 65536) {R : Listed}
    (left : list_from names low high most done (items_at list i) ≡ R) where
  unrolled : list_from names low high most done (item_at list i ∷ items_at list (next_at list i)) ≡ R
  unrolled = ap (list_from names low high most done) (sym (items-next list i inside)) ∙ left

  pub item-marked : (c next : ℕ) → literal names low high (item_at list i) ≡ some c → next ≡ next_at list i
      → list_from names low high most (done ++ (c ∷ [])) (items_at list next) ≡ R
  item-marked c next e f = rw f (rw (lt-ltb (length done) most few, e) at unrolled)

  pub item_refused : literal names low high (item_at list i) ≡ none → R ≡ lists.refused 6
  item_refused e = sym (rw (lt-ltb (length done) most few, e) at unrolled)

pub list_done : (names : List (List ℕ)) (low high : ℕ) (list : List ℕ) (i : ℕ) (done : List ℕ) {R : Listed} → length list < i
    → list_from names low high most done (items_at list i) ≡ R → codes done ≡ R
list_done names low high list i done past left = rw (items-end list i past) at left

-- all items of a list
pub list_all : (names : List (List ℕ)) (low high : ℕ) (list : List ℕ) (i : ℕ) → i ≡ place_from (length list)
    → list_from names low high most [] (items_at list i) ≡ list_of names low high most list
unfolding list_of
list_all names low high list i e = rw e (go (ltb 0 (length list)) refl)
  where
    go : (b : Bool) → ltb 0 (length list) ≡ b
        → list_from names low high most [] (items_at list (cond b 0 (length list + 1))) ≡ list_from names low high most [] (items list)
    go true f = rw (items-start list (ltb-true 0 (length list) f))
    go false f =
        let past : items_at list (length list + 1) ≡ [] = items-end list (length list + 1) (omega arith) in
        rw (past, items-none list (ltb-false 0 (length list) f))

-- a line with another key, and one with the key that is due
module _ (d : Draft) (key low high line base : ℕ) (vs : List ℕ) (go : List ℕ → List ℕ → Reply (List ℕ)) (value rest : List ℕ) where
  pub line_other : (k : ℕ) → (k ≡ key → ⊥) → refused 2 line ≡ list_line d key low high (keyed (key_in k) value rest) line base vs go
  line_other k h = by (ltb k no_key)
    where
      by : (b : Bool) → refused 2 line ≡ list_line d key low high (keyed (cond b (some k) none) value rest) line base vs go
      by true = rw (ne_eqb k key h)
      by false = refl

  pub line-due : (k : ℕ) → k ≡ key → key < no_key
      → listed (list_of d.names low high most value) line base vs (λ ws. go ws rest)
      ≡ list_line d key low high (keyed (key_in k) value rest) line base vs go
  line-due k e few = rw (e, lt-ltb key no_key few, eq-eqb key key refl)

pub key_below : (line : ℕ) → key_at line < no_key
key_below line = go (is_state line)
  where
    go : (b : Bool) → cond b 7 8 < no_key
    go true = omega arith
    go false = omega arith

-- where the atoms of a line begin
pub base-bound : (count line : ℕ) (t : ℕ) → (line - 1) / 2 ≤ t → count ≤ 32 → (line - 1) / 2 * count ≤ t * 32
base-bound count line t h few =
    omega (arith, mul-le-mul_left ((line - 1) / 2) few)
