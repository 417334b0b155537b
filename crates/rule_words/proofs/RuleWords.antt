-- The words of a law's rule and of an atom's choice, told by their place.
-- Assumes nothing.
use mathlib.Core.Path.{◌≡◌, refl, sym, ap, ◌∙◌}
use mathlib.Core.Bool.{cond, ◌&&◌}
use mathlib.Core.List.{List, [], ◌∷◌, ◌++◌, map}
use Prim.Native.Nat.{ℕ, zero, suc, ◌+◌, ◌-◌, ◌*◌, ◌≤◌, ◌<◌}
use native.Mathlib.Numerals.{add-one}
use native.Mathlib.Omega.{arith}
use borrow.Author.Tests.{le-leb}
use lib.Dec.{leb}
use lib.ListN.{length, take, get_or, length-map, length-take, length-append, get_or-append, get_or-eq_default}
use lib.Seq.{get_or-take, get_or-append-add}
use Rattle.logic_programs.specs.Literals.{complement}
use Rattle.logic_programs.specs.Words.{head_word, rule_words}
use Rattle.action_language.specs.declared.Kind.{Kind}
use Rattle.action_language.specs.declared.Kind.TheVariants.{Static, Dynamic}
use Rattle.action_language.specs.declared.Law.{Law}
use Rattle.action_language.specs.Laws.{if_list}
use Rattle.translation_rules.specs.RuleForms.{at_time, head_at}
use Rattle.rule_words.specs.Internal.{by_kind, plain_list, rule_for}

map_at : (f : ℕ → ℕ) (xs : List ℕ) (i : ℕ) → i < length xs → get_or (map f xs) i 0 ≡ f (get_or xs i 0)
map_at f [] i h = absurd (omega arith)
map_at f (x ∷ xs) zero h = refl
map_at f (x ∷ xs) (suc i) h = map_at f xs i (omega arith)

-- the element of a list's front is the list's
front_at : (f : ℕ → ℕ) (count : ℕ) (xs : List ℕ) (i : ℕ) → i < length (take count xs)
    → get_or (map f (take count xs)) i 0 ≡ f (get_or xs i 0)
front_at f count xs i h =
    map_at f (take count xs) i h ∙ ap f (get_or-take count xs i 0 (omega (arith, length-take count xs)))

-- within the limits
pub rule-within : (N t : ℕ) {w W : ℕ} → N ≤ 32 → t ≤ 30 → w ≡ W → w ≡ cond (leb N 32 && leb t 30) W 0
rule-within N t h k e = rw (le-leb N 32 h, le-leb t 30 k) e

pub by-kind-bound : (s d b : ℕ) (k : Kind) → s ≤ b → d ≤ b → by_kind s d k ≤ b
by-kind-bound s d b Static p q = p
by-kind-bound s d b Dynamic p q = q

-- a law's rule for time t
module _ (N : ℕ) (l : Law) (t : ℕ) where
  -- the time of its head and its if-list
  abbrev new : ℕ
  new = by_kind t (t + 1) l.kind

  abbrev negated : List ℕ
  negated = map (λ c. complement (at_time N new c)) (if_list l)

  abbrev plain : List ℕ
  plain = map (at_time N t) (plain_list l)

  rule-words : rule_words (rule_for N l.kind l t)
      ≡ head_word (head_at N new l.head) ∷ length (if_list l) ∷ length (plain_list l) ∷ (negated ++ plain)
  rule-words = rw add-one (go l.kind)
    where
      go : (k : Kind) → rule_words (rule_for N k l t)
          ≡ head_word (head_at N (by_kind t (suc t) k) l.head) ∷ length (if_list l)
          ∷ length (take (by_kind 0 l.after_count k) l.after_codes)
          ∷ (map (λ c. complement (at_time N (by_kind t (suc t) k) c)) (if_list l)
          ++ map (at_time N t) (take (by_kind 0 l.after_count k) l.after_codes))
      go Static = rw (length-map (if_list l) (λ c. complement (at_time N t c)))
      go Dynamic =
          rw (
            length-map (if_list l) (λ c. complement (at_time N (suc t) c)),
            length-map (take l.after_count l.after_codes) (at_time N t),
          )

  pub rule-length : length (rule_words (rule_for N l.kind l t)) ≡ 3 + length (if_list l) + length (plain_list l)
  rule-length =
      omega (
        arith,
        ap length rule-words,
        length-append negated plain,
        length-map (if_list l) (λ c. complement (at_time N new c)),
        length-map (plain_list l) (at_time N t),
      )

  -- the word at place i
  word_at : (i : ℕ) → get_or (rule_words (rule_for N l.kind l t)) i 0
      ≡ get_or (head_word (head_at N new l.head) ∷ length (if_list l) ∷ length (plain_list l) ∷ (negated ++ plain)) i 0
  word_at i = ap (λ ws. get_or ws i 0) rule-words

  -- a part, behind the three first words
  part_at : (i : ℕ) → 3 ≤ i → get_or (rule_words (rule_for N l.kind l t)) i 0 ≡ get_or (negated ++ plain) (i - 3) 0
  part_at i h =
      let e : i ≡ suc (suc (suc (i - 3))) = omega arith in
      ap (λ k. get_or (rule_words (rule_for N l.kind l t)) k 0) e ∙ word_at (suc (suc (suc (i - 3))))

  -- behind the last part
  pub none-at : (i : ℕ) → 3 + length (if_list l) + length (plain_list l) ≤ i → 0 ≡ get_or (rule_words (rule_for N l.kind l t)) i 0
  none-at i h = sym (get_or-eq_default (rule_words (rule_for N l.kind l t)) 0 {n = i} (omega (arith, rule-length)))

  module _ {i w : ℕ} where
    pub negated-count-at : i ≡ 1 → w ≡ length (if_list l) → w ≡ get_or (rule_words (rule_for N l.kind l t)) i 0
    negated-count-at e h = rw e (h ∙ sym (word_at 1))

    pub plain-count-at : i ≡ 2 → w ≡ length (plain_list l) → w ≡ get_or (rule_words (rule_for N l.kind l t)) i 0
    plain-count-at e h = rw e (h ∙ sym (word_at 2))

    pub negated-at : 3 ≤ i → i - 3 < length (if_list l) → {m b : ℕ} → m ≡ new → b ≡ 2 * (m * N)
        → w ≡ complement (b + get_or l.if_codes (i - 3) 0) → w ≡ get_or (rule_words (rule_for N l.kind l t)) i 0
    negated-at h in_List m b e =
        let size = length-map (if_list l) (λ c. complement (at_time N new c)) in
        rw (b, m) at e
        ∙ sym (part_at i h ∙ get_or-append negated plain 0 (i - 3) (omega (arith, size))
        ∙ front_at (λ c. complement (at_time N new c)) l.if_count l.if_codes (i - 3) in_List)

    pub plain_at : 3 ≤ i → {n : ℕ} → n ≡ length (if_list l) → n ≤ i - 3 → i - 3 - n < length (plain_list l) → {b : ℕ} → b ≡ 2 * (t * N)
        → w ≡ b + get_or l.after_codes (i - 3 - n) 0 → w ≡ get_or (rule_words (rule_for N l.kind l t)) i 0
    plain_at h {n} is past in_List b e =
        let j = i - 3 - n in
        let place : length negated + j ≡ i - 3 = omega (arith, length-map (if_list l) (λ c. complement (at_time N new c))) in
        rw b at e
        ∙ sym (part_at i h ∙ rw place at (get_or-append-add negated plain j 0)
        ∙ front_at (at_time N t) (by_kind 0 l.after_count l.kind) l.after_codes j in_List)
