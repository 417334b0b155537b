-- The values of a history are those that its lists say: marking and filling, place by place.
-- Assumes nothing.
use mathlib.Core.Path.{◌≡◌, refl, sym, ap, subst, ◌∙◌}
use mathlib.Core.Bool.{Bool, true, false, cond, ◌&&◌, ◌||◌}
use mathlib.Core.List.{List, [], ◌∷◌, ◌++◌, map, append-nil, append_assoc}
use mathlib.Core.Option.{Option, none, some}
use Prim.Native.Nat.{ℕ, zero, suc, ◌+◌, ◌-◌, ◌*◌, ◌/◌, ◌%◌, ◌≤◌, ◌<◌}
use native.Mathlib.Nat.{suc-mul, zero-add}
use native.Mathlib.Omega.{arith}
use borrow.Author.Tests.{eqb-true, eqb-false, eq-eqb, ne_eqb, ltb-true, leb-true}
use lib.Dec.{eqb, ltb, leb}
use lib.ListN.{length, get_or, set, replicate, length-append, replicate-append-replicate}
use lib.Seq.{append_snoc, set_at, get_or_at}
use Rattle.basics.specs.Search.{Each}
use Rattle.basics.specs.Replies.{Reply, refused, answered}
use Rattle.basics.proofs.Tests.{and-iff, each_append}
use Rattle.action_language.specs.Atoms.{atom_count}
use Rattle.text_forms.specs.Bytes.{hyphen}
use Rattle.text_forms.specs.Lines.{first_line}
use Rattle.text_forms.specs.Lists as Lists-of
use Rattle.text_forms.specs.Lists.{Listed, codes, added, items, list_from, list_of}
use Rattle.text_forms.specs.Names.{declared_at, in_sort, literal}
use Rattle.description_lines.specs.LineSteps.{Draft}
use Rattle.description_lines.specs.Descriptions.{read, described}
use Rattle.history_values.specs.Values.{with_true, with_false, with_literals, or_false, filled}
use Rattle.history_values.proofs.Filling.{filled-middle}
use Rattle.history_reader.specs.Histories.{most, undone_false, states_from, atoms, recorded, by_names, read_history}
use Rattle.history_reader.proofs.Kept.{OfAnswer, end-keeps, list-keeps}
use Rattle.reader_bounds.specs.ByLists.{lists, fluent_value, action_value, values_by, values_of, HistoryLists, last}
use Rattle.reader_bounds.specs.ByLists.{step, ByLists, ReadByLists}
use Rattle.reader_bounds.proofs.Drafts.{chosen, names-declared}

-- a code of a name from low up to, not including, high
abbrev InSort : ℕ → ℕ → ℕ → Type 0
InSort low high c = (low ≤ c / 2) × (c / 2 < high)

-- ---- the codes of a list are of its sort

abbrev OfCode : (ℕ → Type 0) → Option ℕ → Type 0
OfCode P none = Unit
OfCode P (some c) = P c

sort-in : (low high sign : ℕ) → sign < 2 → (o : Option ℕ) → OfCode (InSort low high) (in_sort low high sign o)
sort-in low high sign small none = tt
sort-in low high sign small (some i) =
    chosen (OfCode (InSort low high)) (leb low i && ltb i high)
    (λ e.
    let both = (and-iff (leb low i) (ltb i high)).0 e in
    let below = leb-true low i both.0 in
    let above = ltb-true i high both.1 in
    (omega arith, omega arith)) (λ _. tt)

literal-in : (names : List (List ℕ)) (low high : ℕ) (bs : List ℕ) → OfCode (InSort low high) (literal names low high bs)
unfolding literal
literal-in names low high [] = tt
literal-in names low high (b ∷ bs) =
    chosen (OfCode (InSort low high)) (eqb b hyphen) (λ _. sort-in low high 1 (omega arith) (declared_at names bs))
    (λ _. sort-in low high 0 (omega arith) (declared_at names (b ∷ bs)))

abbrev OfCodes : (ℕ → Type 0) → Listed → Type 0
OfCodes P (Lists-of.refused k) = Unit
OfCodes P (codes cs) = Each P cs

list-in : (names : List (List ℕ)) (low high : ℕ) (xs : List (List ℕ)) (done : List ℕ) → Each (InSort low high) done
    → OfCodes (InSort low high) (list_from names low high most done xs)
list-in names low high [] done h = h
list-in names low high (x ∷ xs) done h =
    chosen (OfCodes (InSort low high)) (ltb (length done) most)
    (λ _. by (literal names low high x) (literal-in names low high x) (λ more g. list-in names low high xs more g))
    (λ _. tt)
  where
    by : (o : Option ℕ) → OfCode (InSort low high) o
        → ((more : List ℕ) → Each (InSort low high) more → OfCodes (InSort low high) (list_from names low high most more xs))
        → OfCodes (InSort low high) (added done o (λ more. list_from names low high most more xs))
    by none g next = tt
    by (some c) g next = next (done ++ (c ∷ [])) ((each_append (InSort low high) done (c ∷ [])).1 (h, (g, tt)))

codes-in : (names : List (List ℕ)) (low high : ℕ) (value cs : List ℕ) → list_of names low high most value ≡ codes cs
    → Each (InSort low high) cs
unfolding list_of
codes-in names low high value cs e = subst (OfCodes (InSort low high)) e (list-in names low high (items value) [] tt)

-- ---- one code more

-- a literal of another name
other_name : (c i : ℕ) → (c / 2 ≡ i → ⊥) → (eqb c (2 * i) ≡ false) × (eqb c (2 * i + 1) ≡ false)
other_name c i h = (
  ne_eqb c (2 * i) (λ e. h (omega arith)),
  ne_eqb c (2 * i + 1) (λ e. h (omega arith)),
)

-- a value with one literal more of its name
same-name : (c i : ℕ) → c / 2 ≡ i → (a b : Bool)
    → cond (eqb (c % 2) 0) (with_true (fluent_value a b)) (with_false (fluent_value a b))
    ≡ fluent_value (eqb c (2 * i) || a) (eqb c (2 * i + 1) || b)
same-name c i e a b = by (eqb (c % 2) 0) refl
  where
    true-too : (a b : Bool) → with_true (fluent_value a b) ≡ fluent_value true b
    true-too true true = refl
    true-too true false = refl
    true-too false true = refl
    true-too false false = refl

    false-too : (a b : Bool) → with_false (fluent_value a b) ≡ fluent_value a true
    false-too true true = refl
    false-too true false = refl
    false-too false true = refl
    false-too false false = refl

    by : (s : Bool) → eqb (c % 2) 0 ≡ s
        → cond s (with_true (fluent_value a b)) (with_false (fluent_value a b)) ≡ fluent_value (eqb c (2 * i) || a) (eqb c (2 * i + 1) || b)
    by true f =
        let even : c ≡ 2 * i = omega (arith, eqb-true (c % 2) 0 f) in
        rw (eq-eqb c (2 * i) even, ne_eqb c (2 * i + 1) (λ g. absurd (omega arith))) (true-too a b)
    by false f =
        let odd : c ≡ 2 * i + 1 = omega (arith, eqb-false (c % 2) 0 f) in
        rw (ne_eqb c (2 * i) (λ g. absurd (omega arith)), eq-eqb c (2 * i + 1) odd) (false-too a b)

-- values by two tests that agree on the literals of the names from i on
values-alike : (value : Bool → Bool → ℕ) (f g : ℕ → Bool) (i k : ℕ) → ((c : ℕ) → 2 * i ≤ c → f c ≡ g c)
    → values_by value f i k ≡ values_by value g i k
values-alike value f g i zero h = refl
values-alike value f g i (suc k) h =
    rw (h (2 * i) (omega arith), h (2 * i + 1) (omega arith), values-alike value f g (suc i) k (λ c b. h c (omega arith)))

-- one code marked in the values of the k names from i on, which stand behind p
module _ (base : ℕ) (has : ℕ → Bool) (c : ℕ) where
  -- the test with that code besides
  abbrev more : ℕ → Bool
  more x = eqb c x || has x

  -- the first of these names, and a later one
  mark-here : (i k : ℕ) (p zs : List ℕ) → length p ≡ base + i → c / 2 ≡ i
      → with_literals base (p ++ (values_by fluent_value has i (suc k) ++ zs)) (c ∷ []) ≡ p ++ (values_by fluent_value more i (suc k) ++ zs)
  mark-here i k p zs there e =
      let v = fluent_value (has (2 * i)) (has (2 * i + 1)) in
      let behind : List ℕ = values_by fluent_value has (suc i) k ++ zs in
      let place : base + c / 2 ≡ base + i = omega arith in
      rw place (at_place v behind)
      ∙ ap (λ (w : ℕ). p ++ w ∷ behind) (same-name c i e (has (2 * i)) (has (2 * i + 1)))
      ∙ ap (λ (ws : List ℕ). p ++ fluent_value (more (2 * i)) (more (2 * i + 1)) ∷ (ws ++ zs))
      (values-alike fluent_value has more (suc i) k (λ x above. rw (ne_eqb c x (λ q. absurd (omega arith)))))
    where
      at_place : (v : ℕ) (behind : List ℕ)
          → set (p ++ v ∷ behind) (base + i)
          (cond (eqb (c % 2) 0) (with_true (get_or (p ++ v ∷ behind) (base + i) 0)) (with_false (get_or (p ++ v ∷ behind) (base + i) 0)))
          ≡ p ++ cond (eqb (c % 2) 0) (with_true v) (with_false v) ∷ behind
      at_place v behind =
          rw (get_or_at p v behind 0 (base + i) there)
          (set_at p v behind (cond (eqb (c % 2) 0) (with_true v) (with_false v)) (base + i) there)

  mark-later : (i k : ℕ) (p zs : List ℕ) → (c / 2 ≡ i → ⊥) → let v = fluent_value (has (2 * i)) (has (2 * i + 1)) in
      with_literals base (p ++ (v ∷ []) ++ (values_by fluent_value has (suc i) k ++ zs)) (c ∷ [])
      ≡ p ++ (v ∷ []) ++ (values_by fluent_value more (suc i) k ++ zs)
      → with_literals base (p ++ (values_by fluent_value has i (suc k) ++ zs)) (c ∷ []) ≡ p ++ (values_by fluent_value more i (suc k) ++ zs)
  mark-later i k p zs differs next =
      let v = fluent_value (has (2 * i)) (has (2 * i + 1)) in
      let not-this = other_name c i differs in
      ap (λ vs. with_literals base vs (c ∷ [])) (sym (append_snoc p v (values_by fluent_value has (suc i) k ++ zs)))
      ∙ next
      ∙ append_snoc p v (values_by fluent_value more (suc i) k ++ zs)
      ∙ rw (not-this.0, not-this.1) refl

  mark-one : (i k : ℕ) (p zs : List ℕ) → length p ≡ base + i → InSort i (i + k) c
      → with_literals base (p ++ (values_by fluent_value has i k ++ zs)) (c ∷ []) ≡ p ++ (values_by fluent_value more i k ++ zs)
  mark-one i zero p zs there inside = absurd (omega (arith, inside.0, inside.1))
  mark-one i (suc k) p zs there inside =
      let v = fluent_value (has (2 * i)) (has (2 * i + 1)) in
      by (eqb (c / 2) i) refl
      (λ later. mark-one (suc i) k (p ++ (v ∷ [])) zs (omega (arith, length-append p (v ∷ []))) (later, omega (arith, inside.1)))
    where
      by : (b : Bool) → eqb (c / 2) i ≡ b → let v = fluent_value (has (2 * i)) (has (2 * i + 1)) in
          (suc i ≤ c / 2
          → with_literals base (p ++ (v ∷ []) ++ (values_by fluent_value has (suc i) k ++ zs)) (c ∷ [])
          ≡ p ++ (v ∷ []) ++ (values_by fluent_value more (suc i) k ++ zs))
          → with_literals base (p ++ (values_by fluent_value has i (suc k) ++ zs)) (c ∷ [])
          ≡ p ++ (values_by fluent_value more i (suc k) ++ zs)
      by true e next = mark-here i k p zs there (eqb-true (c / 2) i e)
      by false e next =
          let differs = eqb-false (c / 2) i e in
          mark-later i k p zs differs (next (omega (arith, inside.0, differs)))

or_turned : (a b d : Bool) → a || (b || d) ≡ (b || a) || d
or_turned true true d = refl
or_turned true false d = refl
or_turned false true d = refl
or_turned false false d = refl

mark-all : (base : ℕ) (has : ℕ → Bool) (i k : ℕ) (p zs cs : List ℕ) → length p ≡ base + i → Each (InSort i (i + k)) cs
    → with_literals base (p ++ (values_by fluent_value has i k ++ zs)) cs
    ≡ p ++ (values_by fluent_value (λ x. lists cs x || has x) i k ++ zs)
mark-all base has i k p zs [] there inside = refl
mark-all base has i k p zs (c ∷ cs) there inside =
    ap (λ vs. with_literals base vs cs) (mark-one base has c i k p zs there inside.0)
    ∙ mark-all base (λ x. eqb c x || has x) i k p zs cs there inside.1
    ∙ ap (λ (ws : List ℕ). p ++ (ws ++ zs)) (values-alike fluent_value _ _ i k (λ x _. or_turned (lists cs x) (eqb c x) (has x)))

-- ---- a line

values-none : (i k : ℕ) → values_by fluent_value (λ x. false) i k ≡ replicate k 0
values-none i zero = refl
values-none i (suc k) = ap (λ (vs : List ℕ). 0 ∷ vs) (values-none (suc i) k)

length-values : (value : Bool → Bool → ℕ) (has : ℕ → Bool) (i k : ℕ) → length (values_by value has i k) ≡ k
length-values value has i zero = refl
length-values value has i (suc k) = ap suc (length-values value has (suc i) k)

-- a line's list marked in places that are 0
mark-line : (base i k r : ℕ) (p cs : List ℕ) → length p ≡ base + i → Each (InSort i (i + k)) cs
    → with_literals base (p ++ replicate (k + r) 0) cs ≡ p ++ (values_by fluent_value (lists cs) i k ++ replicate r 0)
mark-line base i k r p cs there inside =
    ap (λ (vs : List ℕ). with_literals base (p ++ vs) cs)
    (sym (replicate-append-replicate k r 0) ∙ ap (λ (vs : List ℕ). vs ++ replicate r 0) (sym (values-none i k)))
    ∙ mark-all base (λ x. false) i k p (replicate r 0) cs there inside
    ∙ ap (λ (ws : List ℕ). p ++ (ws ++ replicate r 0)) (values-alike fluent_value _ _ i k (λ x _. or-none (lists cs x)))
  where
    or-none : (b : Bool) → b || false ≡ b
    or-none true = refl
    or-none false = refl

-- an act line's values filled
fill-values : (has : ℕ → Bool) (i k : ℕ) → map or_false (values_by fluent_value has i k) ≡ values_by action_value has i k
fill-values has i zero = refl
fill-values has i (suc k) =
    rw (fill-values has (suc i) k) (ap (λ (v : ℕ). v ∷ values_by action_value has (suc i) k) (one (has (2 * i)) (has (2 * i + 1))))
  where
    one : (a b : Bool) → or_false (fluent_value a b) ≡ action_value a b
    one true true = refl
    one true false = refl
    one false true = refl
    one false false = refl

fill-line : (at i k : ℕ) (has : ℕ → Bool) (p zs : List ℕ) → length p ≡ at
    → filled at k (p ++ (values_by fluent_value has i k ++ zs)) ≡ p ++ (values_by action_value has i k ++ zs)
fill-line at i k has p zs there =
    ap (λ (q : ℕ). filled at q (p ++ (values_by fluent_value has i k ++ zs))) (sym (length-values fluent_value has i k))
    ∙ filled-middle at p (values_by fluent_value has i k) zs there
    ∙ ap (λ (ws : List ℕ). p ++ (ws ++ zs)) (fill-values has i k)

-- ---- the lines of a history, where p is what was read before

-- what holds of an answer, and what follows from it
answer-map : (P Q : List ℕ → Type 0) → ((vs : List ℕ) → P vs → Q vs) → (r : Reply (List ℕ)) → OfAnswer P r → OfAnswer Q r
answer-map P Q f (refused number place) h = tt
answer-map P Q f (answered vs) h = f vs h

record From (d : Draft) (m k : ℕ) (p text values : List ℕ) : Type 0 where
  lines : List (List ℕ)
  has : HistoryLists d k text lines
  are : values ≡ p ++ values_of d.fluents m lines

module _ (d : Draft) (m : ℕ) (size : length d.names ≡ d.fluents + m) where
  -- the values behind a state line and an act line
  step-values : (t a : ℕ) (p cs cs' : List ℕ) → length p ≡ t * length d.names → Each (InSort 0 d.fluents) cs
      → Each (InSort d.fluents (length d.names)) cs'
      → let n = d.fluents in let base = t * length d.names in
      undone_false d t (with_literals base (with_literals base (p ++ replicate (n + (m + a)) 0) cs) cs')
      ≡ p ++ values_by fluent_value (lists cs) 0 n ++ values_by action_value (lists cs') n m ++ replicate a 0
  step-values t a p cs cs' there inside inside' =
      let n = d.fluents in
      let base = t * length d.names in
      let state = values_by fluent_value (lists cs) 0 n in
      let q : List ℕ = p ++ state in
      let behind : length q ≡ base + n = omega (arith, length-append p state, length-values fluent_value (lists cs) 0 n) in
      let width : length d.names - n ≡ m = omega arith in
      ap (λ vs. undone_false d t (with_literals base vs cs'))
      (mark-line base 0 n (m + a) p cs (omega arith) (rw (zero-add n) inside) ∙ sym (append_assoc p state (replicate (m + a) 0)))
      ∙ ap (undone_false d t) (mark-line base n m a q cs' behind (rw (← size) inside'))
      ∙ rw width (fill-line (base + n) n m (lists cs') q (replicate a 0) behind)
      ∙ sym (append_assoc q (values_by action_value (lists cs') n m) (replicate a 0))

  steps-say : (k t line : ℕ) (p text : List ℕ) → length p ≡ t * length d.names
      → OfAnswer (From d m k p text) (states_from k d t line (p ++ replicate (atom_count d.fluents m k) 0) text)
  steps-say zero t line p text there =
      let n = d.fluents in
      let base = t * length d.names in
      let alone : atom_count n m 0 ≡ n + 0 = omega arith in
      list-keeps (From d m 0 p text) d _ _ _ (first_line text) line _ _ _
      (λ l is due cs list.
      end-keeps (From d m 0 p text) (first_line l.rest) (suc line) _
      (record {
        lines = cs ∷ [];
        has = last text cs l.rest (record { line = l; is = is; due = due; list = list; behind = refl });
        are = ap (λ (q : ℕ). with_literals base (p ++ replicate q 0) cs) alone
            ∙ mark-line base 0 n 0 p cs (omega arith) (rw (zero-add n) (codes-in d.names 0 n l.value cs list))
            ∙ ap (λ (vs : List ℕ). p ++ vs) (append-nil (values_by fluent_value (lists cs) 0 n));
      }))
  steps-say (suc k) t line p text there =
      let n = d.fluents in
      let base = t * length d.names in
      let a = atom_count n m k in
      let whole : atom_count n m (suc k) ≡ n + (m + a) = omega (arith, suc-mul k (n + m)) in
      list-keeps (From d m (suc k) p text) d _ _ _ (first_line text) line _ _ _
      (λ l is due cs list.
      list-keeps (From d m (suc k) p text) d _ _ _ (first_line l.rest) (suc line) _ _ _
      (λ l' is' due' cs' list'.
      let state = values_by fluent_value (lists cs) 0 n in
      let act = values_by action_value (lists cs') n m in
      let p' : List ℕ = p ++ state ++ act in
      let there' : length p' ≡ suc t * length d.names =
      omega (
        arith,
        length-append (p ++ state) act,
        length-append p state,
        length-values fluent_value (lists cs) 0 n,
        length-values action_value (lists cs') n m,
        suc-mul t (length d.names),
      ) in
      let values = ap (λ (q : ℕ). undone_false d t (with_literals base (with_literals base (p ++ replicate q 0) cs) cs')) whole
      ∙ step-values t a p cs cs' there (codes-in d.names 0 n l.value cs list)
      (codes-in d.names n (length d.names) l'.value cs' list') in
      subst (λ vs. OfAnswer (From d m (suc k) p text) (states_from k d (suc t) (suc (suc line)) vs l'.rest)) (sym values)
      (answer-map (From d m k p' l'.rest) (From d m (suc k) p text)
      (λ vs f. record {
        lines = cs ∷ cs' ∷ f.lines;
        has = step k text cs l.rest cs' l'.rest f.lines (record { line = l; is = is; due = due; list = list; behind = refl })
            (record { line = l'; is = is'; due = due'; list = list'; behind = refl }) f.has;
        are = f.are ∙ append_assoc (p ++ state) act (values_of n m f.lines) ∙ append_assoc p state (act ++ values_of n m f.lines);
      })
      (states_from k d (suc t) (suc (suc line)) (p' ++ replicate a 0) l'.rest)
      (steps-say k (suc t) (suc (suc line)) p' l'.rest there'))))

-- ---- a history that is taken

module _ (description text : List ℕ) (room : ℕ) (d : Draft) (rest : List ℕ) (lines : ℕ)
    (is : described 64 description ≡ answered (read d rest lines)) where
  abbrev m : ℕ
  m = length d.names - d.fluents

  size : length d.names ≡ d.fluents + m
  size = omega (arith, names-declared description d rest lines is)

  by-room : (b : Bool) → eqb room (atoms d) ≡ b → OfAnswer (ByLists d text) (recorded d text room)
  by-room true e =
      rw e
      (chosen (OfAnswer (ByLists d text)) (ltb 65535 (length text)) (λ _. tt)
      (λ _. answer-map (From d m d.horizon [] text) (ByLists d text) (λ vs f. record { lines = f.lines; has = f.has; are = f.are })
      (states_from d.horizon d 0 1 (replicate (atoms d) 0) text) (steps-say d m size d.horizon 0 1 [] text (omega arith))))
  by-room false e = rw e tt

pub read-by-lists : ReadByLists
unfolding read_history
read-by-lists description text room values d rest lines is e =
    subst (OfAnswer (ByLists d text)) (sym (ap (λ o. by_names o text room) is) ∙ e)
    (by-room description text room d rest lines is (eqb room (atoms d)) refl)
