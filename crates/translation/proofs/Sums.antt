-- What the counting loop keeps: sums over the laws not yet passed, and what one law adds.
-- Assumes nothing.
use mathlib.Core.Path.{◌≡◌, refl}
use mathlib.Core.List.{List, [], ◌∷◌}
use Prim.Native.Nat.{ℕ, suc, ◌+◌, ◌*◌, ◌<◌, ◌≤◌}
use native.Mathlib.Nat.{add-zero}
use native.Mathlib.Numerals.{add-one}
use native.Mathlib.Omega.{arith}
use lib.ListN.{length, take, drop, get_or, drop_of_length-le}
use lib.Seq.{drop-cons}
use Rattle.action_language.specs.declared.Head.TheVariants.{Lit}
use Rattle.action_language.specs.declared.Kind.{Kind}
use Rattle.action_language.specs.declared.Kind.TheVariants.{Static, Dynamic}
use Rattle.action_language.specs.declared.Law.{Law}
use Rattle.action_language.specs.Laws.{if_list}
use Rattle.logic_programs.specs.Words.{words as words_of}
use Rattle.rule_words.specs.Internal.{by_kind, plain_list}
use Rattle.translation_rules.specs.Rules.{translation}
use Rattle.translation_rules.proofs.Counts.{sum_laws, static_of, dynamic_of, statics, dynamics, law_words_of, rule-count, word_count}

-- what is counted and what the laws not yet passed count make up what the count began with and what all of them count
abbrev pub Counted : (Kind → Law → ℕ) → List Law → ℕ → ℕ → ℕ → Type 0
Counted g ls i total total₀ = total + sum_laws g (drop i ls) ≡ total₀ + sum_laws g ls

-- the laws not yet passed are the next one and those behind it
pub next-law : (laws : List Law) (i : ℕ) (d : Law) → i < length laws → drop i laws ≡ get_or laws i d ∷ drop (i + 1) laws
next-law laws i d h = rw add-one (drop-cons laws i d h)

-- what a read past the end of a run of laws would give
abbrev pub past : Law
past = record { kind = Static; head = Lit 0; if_count = 0; if_codes = []; after_count = 0; after_codes = [] }

-- as many rules as a law has, each of one size
law-words : (T : ℕ) (l : Law) → by_kind (T + 1) T l.kind * (3 + length (if_list l) + length (plain_list l)) ≡ law_words_of T l.kind l
law-words T l = go l.kind
  where
    go : (k : Kind)
        → by_kind (T + 1) T k * (3 + length (if_list l) + length (take (by_kind 0 l.after_count k) l.after_codes)) ≡ law_words_of T k l
    go Static = rw (add-one T, add-zero (3 + length (if_list l)))
    go Dynamic = refl

-- the number of rules of one law, and of all
abbrev pub rule_times : ℕ → Kind → Law → ℕ
rule_times T k l = by_kind (T + 1) T k

pub rules-sum : (T : ℕ) (ls : List Law) → sum_laws (rule_times T) ls ≡ statics ls * suc T + dynamics ls * T
rules-sum T [] = omega arith
rules-sum T (l ∷ ls) = omega (arith, rules-sum T ls, one l.kind)
  where
    one : (k : Kind) → by_kind (T + 1) T k ≡ static_of k * suc T + dynamic_of k * T
    one Static = omega arith
    one Dynamic = omega arith

-- what the counting loop keeps
pub record Counting (T : ℕ) (laws : List Law) (rules₀ words₀ rules words i : ℕ) : Type 0 where
  pub upto : i ≤ length laws
  pub few-rules : rules ≤ rules₀ + 31 * i
  pub few_words : words ≤ words₀ + 465 * i
  pub all-rules : Counted (rule_times T) laws i rules rules₀
  pub all_words : Counted (law_words_of T) laws i words words₀

-- all laws are counted
pub counting-last : (n m : ℕ) {T : ℕ} {laws : List Law} {rules words i : ℕ}
    → Counting T laws (2 * (n + T * m)) (8 * (n + T * m)) rules words i → length laws ≤ i
    → (rules ≡ length (translation n m T laws)) × (words ≡ length (words_of (translation n m T laws)))
counting-last n m {T} {laws} {rules} {words} {i} inv h =
    let done : drop i laws ≡ [] = drop_of_length-le laws h in
    let r = rw done at inv.all-rules in
    let w = rw done at inv.all_words in
    (omega (arith, r, rule-count n m T laws, rules-sum T laws), omega (arith, w, word_count n m T laws))
