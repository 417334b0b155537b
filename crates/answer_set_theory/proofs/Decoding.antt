-- A rule table's words and its rules: decoding the words of rules, and what an accepted table has.
-- Assumes nothing.
use mathlib.Core.Path.{◌≡◌, refl, sym, ap, ◌∙◌}
use mathlib.Core.Logic.{◌≢◌, inr}
use mathlib.Core.Bool.{Bool, true, false, ◌&&◌}
use mathlib.Core.List.{List, [], ◌∷◌, ◌++◌, append_assoc}
use mathlib.Core.Option.{none}
use Prim.Native.Nat.{ℕ, zero, suc, ◌+◌, ◌*◌, ◌≤◌, ◌<◌}
use native.Mathlib.Omega.{arith}
use lib.Dec.{eqb, ltb}
use lib.ListN.{length, get_or, take, drop, length-append, length-drop, take-append-drop}
use lib.Seq.{drop-drop, take-append_seam, drop-append_seam, take_at, take-add, length-take-le}
use Rattle.basics.specs.Search.{Each}
use Rattle.logic_programs.specs.Rules.{Head, lit, falsum, Rule}
use Rattle.logic_programs.specs.Words.{head_word, rule_words, words, head_of, rule_size, rule_at, rules_in, rules_of, head_fits}
use Rattle.logic_programs.specs.Words.{rule_fits, bad_rule_in, bad_rule}
use Rattle.basics.proofs.Tests.{true_of_not, and-iff, or-iff, each_map, each_append}
use Rattle.rule_tables.proofs.Fitting.{after_rule, fewer, bad_rule_from, bad_rule_from-cons, bad_rule_from-nil}
use Rattle.rule_tables.proofs.Fitting.{bad_rule-from, rule_fits-iff}
use Rattle.rule_tables.proofs.Walking.{rules_of-nil, rules_of-cons}
use Rattle.answer_set_theory.proofs.Least.{HeadBelow, HeadsBelow}
use borrow.Author.Tests.{ltb-true, lt-ltb, eqb-true, ne_eqb}

-- The words of rules decode to the rules

-- no literal head is the code of false
abbrev pub HeadCoded : Head → Type 0
HeadCoded (lit c) = c ≢ 65535
HeadCoded falsum = Unit

abbrev pub HeadsCoded : List Rule → Type 0
HeadsCoded Π = Each (λ r. HeadCoded r.head) Π

head_of-word : (h : Head) → HeadCoded h → head_of (head_word h) ≡ h
head_of-word (lit c) h = rw (ne_eqb c 65535 h)
head_of-word falsum h = refl

-- one rule's words with more words behind: where its parts stand
module _ (r : Rule) (ws : List ℕ) where
  abbrev count : ℕ
  count = length r.negated

  abbrev whole : List ℕ
  whole = rule_words r ++ ws

  negated-at : take count (drop 3 whole) ≡ r.negated
  negated-at = rw append_assoc (take-append_seam r.negated (r.plain ++ ws))

  plain-on : drop (3 + count) whole ≡ r.plain ++ ws
  plain-on = sym (drop-drop count 3 whole) ∙ rw append_assoc (drop-append_seam r.negated (r.plain ++ ws))

  rest-on : after_rule whole ≡ ws
  rest-on = sym (drop-drop (length r.plain) (3 + count) whole) ∙ rw plain-on (drop-append_seam r.plain ws)

  plain_at : take (length r.plain) (drop (3 + count) whole) ≡ r.plain
  plain_at = rw plain-on (take-append_seam r.plain ws)

  pub rule_at-words : HeadCoded r.head → rule_at (rule_words r ++ ws) ≡ r
  rule_at-words h = λ i. record { head = head_of-word r.head h i; negated = negated-at i; plain = plain_at i }

  pub rules_of-words : HeadCoded r.head → rules_of (rule_words r ++ ws) ≡ r ∷ rules_of ws
  rules_of-words h = rules_of-cons _ _ ∙ rw (rule_at-words h, rest-on)

pub rules-words : (Π : List Rule) → HeadsCoded Π → rules_of (words Π) ≡ Π
rules-words [] h = rules_of-nil
rules-words (r ∷ rs) h = rules_of-words r (words rs) h.0 ∙ ap {B = List Rule} (λ l. r ∷ l) (rules-words rs h.1)

-- The words of rules are accepted

-- literal heads, negated and plain parts are below N
abbrev pub RuleBelow : ℕ → Rule → Type 0
RuleBelow N r = HeadBelow N r.head × Each (λ c. c < N) r.negated × Each (λ c. c < N) r.plain

abbrev pub CodesBelow : ℕ → List Rule → Type 0
CodesBelow N Π = Each (RuleBelow N) Π

pub codes-heads : (N : ℕ) (Π : List Rule) → CodesBelow N Π → HeadsBelow N Π
codes-heads N Π h = each_map (λ r b. b.0) Π h

pub codes-coded : (N : ℕ) (Π : List Rule) → CodesBelow N Π → N ≤ 65535 → HeadsCoded Π
codes-coded N Π h small = each_map (λ r b. coded r.head b.0) Π h
  where
    coded : (h : Head) → HeadBelow N h → HeadCoded h
    coded (lit c) b = omega arith
    coded falsum b = tt

word_fits : (n : ℕ) (h : Head) → HeadBelow (2 * n) h → head_fits n (head_word h) ≡ true
word_fits n (lit c) b = (or-iff (eqb c 65535) (ltb c (2 * n))).1 (inr (lt-ltb c (2 * n) b))
word_fits n falsum b = refl

pub rule_words-fit : (n : ℕ) (r : Rule) (ws : List ℕ) → RuleBelow (2 * n) r → rule_fits n (rule_words r ++ ws) ≡ true
rule_words-fit n r ws b =
    (rule_fits-iff n (rule_words r ++ ws)).1 (
      omega (arith, length-append parts ws, length-append r.negated r.plain),
      word_fits n r.head b.0,
      rw (take_at parts ws (length r.negated + length r.plain) (length-append r.negated r.plain))
          ((each_append (λ c. c < 2 * n) r.negated r.plain).1 (b.1, b.2)),
    )
  where
    parts : List ℕ
    parts = r.negated ++ r.plain

words-fit : (n k at : ℕ) (Π : List Rule) → CodesBelow (2 * n) Π → k + length Π ≤ 4096 → bad_rule_from n k at (words Π) ≡ none
words-fit n k at [] h few = bad_rule_from-nil n k at
words-fit n k at (r ∷ rs) h few =
    rw (bad_rule_from-cons, lt-ltb k 4096 (omega arith), rule_words-fit n r (words rs) h.0, rest-on r (words rs))
    (words-fit n (suc k) (at + rule_size (words (r ∷ rs))) rs h.1 (omega arith))

pub words-accepted : (n : ℕ) (Π : List Rule) → CodesBelow (2 * n) Π → length Π ≤ 4096 → bad_rule n (words Π) ≡ none
words-accepted n Π h few = bad_rule-from n (words Π) ∙ words-fit n 0 0 Π h (omega arith)

-- An accepted table

accepted-head : (n w : ℕ) → head_fits n w ≡ true → HeadBelow (2 * n) (head_of w)
accepted-head n w e = go (eqb w 65535) refl
  where
    go : (b : Bool) → eqb w 65535 ≡ b → HeadBelow (2 * n) (head_of w)
    go true t = rw t tt
    go false f = rw f (ltb-true w (2 * n) (cc))

pub accepted-rule : (n : ℕ) (ws : List ℕ) → rule_fits n ws ≡ true → RuleBelow (2 * n) (rule_at ws)
accepted-rule n ws e =
    let (_, head, parts) = (rule_fits-iff n ws).0 e in
    let r = rule_at ws in
    let parts' = rw (take-add (get_or ws 1 0) (get_or ws 2 0) (drop 3 ws), drop-drop) at parts in
    let (negated, plain) = (each_append (λ c. c < 2 * n) r.negated r.plain).0 parts' in
    (accepted-head n (get_or ws 0 0) head, negated, plain)

-- the front of an accepted table is the words of its first rule
pub word-head_of : (w : ℕ) → head_word (head_of w) ≡ w
word-head_of w = go (eqb w 65535) refl
  where
    go : (b : Bool) → eqb w 65535 ≡ b → head_word (head_of w) ≡ w
    go true t = rw t (sym (eqb-true w 65535 t))
    go false f = rw f

words-front : (ws : List ℕ) → rule_size ws ≤ length ws → rule_words (rule_at ws) ++ after_rule ws ≡ ws
words-front [] h = absurd (omega arith)
words-front (w ∷ []) h = absurd (omega arith)
words-front (w ∷ a ∷ []) h = absurd (omega arith)
words-front (w ∷ a ∷ b ∷ rest) h =
    let plain-on : drop (3 + a) (w ∷ a ∷ b ∷ rest) ≡ drop a rest = sym (drop-drop a 3 (w ∷ a ∷ b ∷ rest)) in
    let rest-on : drop (3 + a + b) (w ∷ a ∷ b ∷ rest) ≡ drop b (drop a rest) =
    sym (drop-drop b (3 + a) (w ∷ a ∷ b ∷ rest)) ∙ ap (drop b) plain-on in
    let joined : (take a rest ++ take b (drop a rest)) ++ drop b (drop a rest) ≡ rest =
    append_assoc (take a rest) (take b (drop a rest)) (drop b (drop a rest))
    ∙ rw (take-append-drop b (drop a rest)) (take-append-drop a rest) in
    rw (
      rest-on,
      plain-on,
      word-head_of w,
      joined,
      length-take-le a rest (omega arith),
      length-take-le b (drop a rest) (omega (arith, length-drop a rest)),
    )

-- nothing was refused from word `at` on, with k rules before
module _ (n : ℕ) where
  accepted-step : (f k at w : ℕ) (ws : List ℕ) → bad_rule_in (suc f) n k at (w ∷ ws) ≡ none
      → (k < 4096) × (rule_fits n (w ∷ ws) ≡ true) × (bad_rule_in f n (suc k) (at + rule_size (w ∷ ws)) (after_rule (w ∷ ws)) ≡ none)
  accepted-step f k at w ws e =
      let t : (ltb k 4096 && rule_fits n (w ∷ ws)) ≡ true = true_of_not _ (λ f. let z : ◌≡◌ {A = ℕ} 0 1 = cc in omega arith) in
      let (few, fits) = (and-iff (ltb k 4096) (rule_fits n (w ∷ ws))).0 t in
      (ltb-true k 4096 few, fits, rw t at e)

  below_in : (f k at : ℕ) (ws : List ℕ) → bad_rule_in f n k at ws ≡ none → CodesBelow (2 * n) (rules_in f ws)
  below_in zero k at ws e = tt
  below_in (suc f) k at [] e = tt
  below_in (suc f) k at (w ∷ ws) e =
      let (_, fits, rest) = accepted-step f k at w ws e in
      (accepted-rule n (w ∷ ws) fits, below_in f (suc k) (at + rule_size (w ∷ ws)) (after_rule (w ∷ ws)) rest)

  count-in : (f k at : ℕ) (ws : List ℕ) → bad_rule_in f n k at ws ≡ none → k ≤ 4096 → k + length (rules_in f ws) ≤ 4096
  count-in zero k at ws e few = omega arith
  count-in (suc f) k at [] e few = omega arith
  count-in (suc f) k at (w ∷ ws) e few =
      let (few', _, rest) = accepted-step f k at w ws e in
      omega (arith, count-in f (suc k) (at + rule_size (w ∷ ws)) (after_rule (w ∷ ws)) rest few')

  words-in : (f k at : ℕ) (ws : List ℕ) → length ws ≤ f → bad_rule_in f n k at ws ≡ none → words (rules_in f ws) ≡ ws
  words-in zero k at [] few e = refl
  words-in zero k at (w ∷ ws) few e = absurd (omega arith)
  words-in (suc f) k at [] few e = refl
  words-in (suc f) k at (w ∷ ws) few e =
      let (_, fits, rest) = accepted-step f k at w ws e in
      ap (λ (l : List ℕ). rule_words (rule_at (w ∷ ws)) ++ l)
      (words-in f (suc k) (at + rule_size (w ∷ ws)) (after_rule (w ∷ ws)) (fewer w ws f few) rest)
      ∙ words-front (w ∷ ws) ((rule_fits-iff n (w ∷ ws)).0 fits).0

  pub accepted-below : (ws : List ℕ) → bad_rule n ws ≡ none → CodesBelow (2 * n) (rules_of ws)
  unfolding bad_rule rules_of
  accepted-below ws e = below_in (length ws) 0 0 ws e

  pub accepted-count : (ws : List ℕ) → bad_rule n ws ≡ none → length (rules_of ws) ≤ 4096
  unfolding bad_rule rules_of
  accepted-count ws e = omega (arith, count-in (length ws) 0 0 ws e (omega arith))

  pub accepted-words : (ws : List ℕ) → bad_rule n ws ≡ none → words (rules_of ws) ≡ ws
  unfolding bad_rule rules_of
  accepted-words ws e = words-in (length ws) 0 0 ws (omega arith) e
