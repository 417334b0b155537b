-- How many rules and words the translation has, for an open horizon T.
-- Assumes nothing.
use mathlib.Core.Path.{◌≡◌, refl, sym, ◌∙◌}
use mathlib.Core.List.{List, [], ◌∷◌, ◌++◌, map, append_assoc}
use Prim.Native.Nat.{ℕ, zero, suc, ◌+◌, ◌*◌}
use native.Mathlib.Nat.{zero-mul, one-mul, suc-mul, add-mul, add-zero, zero-add}
use native.Mathlib.Omega.{arith}
use lib.ListN.{length, length-append, length-map}
use Rattle.logic_programs.specs.Literals.{complement}
use Rattle.logic_programs.specs.Rules.{Rule}
use Rattle.logic_programs.specs.Words.{rule_words, words}
use Rattle.basics.specs.Search.{range}
use Rattle.basics.proofs.Tests.{length-range}
use Rattle.action_language.specs.declared.Kind.{Kind}
use Rattle.action_language.specs.declared.Kind.TheVariants.{Static, Dynamic}
use Rattle.action_language.specs.declared.Law.{Law}
use Rattle.action_language.specs.Laws.{if_list, after_list}
use Rattle.translation_rules.specs.RuleForms.{at_time, static_rule, dynamic_rule, choices}
use Rattle.translation_rules.specs.Rules.{static_rules, dynamic_rules, per_law, action_atoms, choice_atoms, translation}

-- Words of rules

pub words_append : (rs rs' : List Rule) → words (rs ++ rs') ≡ words rs ++ words rs'
words_append [] rs' = refl
words_append (r ∷ rs) rs' = rw (words_append rs rs') (sym (append_assoc (rule_words r) (words rs) (words rs')))

pub length-words-append : (rs rs' : List Rule) → length (words (rs ++ rs')) ≡ length (words rs) + length (words rs')
length-words-append rs rs' = rw (words_append rs rs') (length-append (words rs) (words rs'))

-- the words of one rule
pub length-rule_words : (r : Rule) → length (rule_words r) ≡ 3 + length r.negated + length r.plain
length-rule_words r = omega (arith, length-append r.negated r.plain)

-- rules of one size
length-words-map : (f : ℕ → Rule) (w : ℕ) → ((t : ℕ) → length (rule_words (f t)) ≡ w) → (ts : List ℕ)
    → length (words (map f ts)) ≡ length ts * w
length-words-map f w each [] = sym (zero-mul w)
length-words-map f w each (t ∷ ts) =
    length-append (rule_words (f t)) (words (map f ts)) ∙ rw (each t, length-words-map f w each ts, suc-mul) (omega arith)

-- Sums over laws

abbrev pub sum_laws : (Kind → Law → ℕ) → List Law → ℕ
sum_laws g [] = 0
sum_laws g (l ∷ ls) = g l.kind l + sum_laws g ls

sum-add : (g h : Kind → Law → ℕ) (ls : List Law) → sum_laws (λ k l. g k l + h k l) ls ≡ sum_laws g ls + sum_laws h ls
sum-add g h [] = refl
sum-add g h (l ∷ ls) = rw (sum-add g h ls) (omega arith)

sum-mul : (g : Kind → Law → ℕ) (x : ℕ) (ls : List Law) → sum_laws (λ k l. g k l * x) ls ≡ sum_laws g ls * x
sum-mul g x [] = sym (zero-mul x)
sum-mul g x (l ∷ ls) = rw (sum-mul g x ls) (sym (add-mul (g l.kind l) (sum_laws g ls) x))

sum-ext : (g h : Kind → Law → ℕ) → ((k : Kind) (l : Law) → g k l ≡ h k l) → (ls : List Law) → sum_laws g ls ≡ sum_laws h ls
sum-ext g h same [] = refl
sum-ext g h same (l ∷ ls) = rw (same l.kind l, sum-ext g h same ls)

-- a measure of lists of rules that adds up, as their length and the number of their words
module _ (μ : List Rule → ℕ) (none : μ [] ≡ 0) (adds : (rs rs' : List Rule) → μ (rs ++ rs') ≡ μ rs + μ rs') where
  sum-per_law : (f : Kind → Law → List Rule) (ls : List Law) → μ (per_law f ls) ≡ sum_laws (λ k l. μ (f k l)) ls
  sum-per_law f [] = none
  sum-per_law f (l ∷ ls) = adds (f l.kind l) (per_law f ls) ∙ rw (sum-per_law f ls)

  measured : (n m T : ℕ) (ls : List Law) → μ (translation n m T ls)
      ≡ sum_laws (λ k l. μ (static_rules (n + m) T k l)) ls + sum_laws (λ k l. μ (dynamic_rules (n + m) T k l)) ls
      + μ (choices (choice_atoms n m T))
  unfolding translation
  measured n m T ls =
      adds (static ++ dynamic) (choices (choice_atoms n m T))
      ∙ rw (adds static dynamic, sum-per_law (static_rules (n + m) T) ls, sum-per_law (dynamic_rules (n + m) T) ls)
    where
      static : List Rule
      static = per_law (static_rules (n + m) T) ls

      dynamic : List Rule
      dynamic = per_law (dynamic_rules (n + m) T) ls

-- Choices

length-action_atoms : (n m t k : ℕ) → length (action_atoms n m t k) ≡ k * m
length-action_atoms n m t zero = sym (zero-mul m)
length-action_atoms n m t (suc k) =
    length-append (range (t * (n + m) + n + 0) m) (action_atoms n m (suc t) k)
    ∙ rw (length-range (t * (n + m) + n + 0) m, length-action_atoms n m (suc t) k, suc-mul) (omega arith)

pub length-choice_atoms : (n m T : ℕ) → length (choice_atoms n m T) ≡ n + T * m
length-choice_atoms n m T =
    length-append (range (0 * (n + m) + 0) n) (action_atoms n m 0 T)
    ∙ rw (length-range (0 * (n + m) + 0) n, length-action_atoms n m 0 T)

length-choices : (Bs : List ℕ) → length (choices Bs) ≡ 2 * length Bs
length-choices [] = refl
length-choices (B ∷ Bs) = omega (arith, length-choices Bs)

pub length-words-choices : (Bs : List ℕ) → length (words (choices Bs)) ≡ 8 * length Bs
length-words-choices [] = refl
length-words-choices (B ∷ Bs) = omega (arith, length-words-choices Bs)

-- Rules

abbrev pub static_of : Kind → ℕ
static_of Static = 1
static_of Dynamic = 0

abbrev pub dynamic_of : Kind → ℕ
dynamic_of Static = 0
dynamic_of Dynamic = 1

-- the number of static laws, and of dynamic laws
abbrev pub statics : List Law → ℕ
statics ls = sum_laws (λ k l. static_of k) ls

abbrev pub dynamics : List Law → ℕ
dynamics ls = sum_laws (λ k l. dynamic_of k) ls

module _ (N T : ℕ) where
  length-static_rules : (k : Kind) (l : Law) → length (static_rules N T k l) ≡ static_of k * suc T
  length-static_rules Static l = length-map (range 0 (suc T)) (static_rule N l) ∙ length-range 0 (suc T) ∙ sym (one-mul (suc T))
  length-static_rules Dynamic l = sym (zero-mul (suc T))

  length-dynamic_rules : (k : Kind) (l : Law) → length (dynamic_rules N T k l) ≡ dynamic_of k * T
  length-dynamic_rules Static l = sym (zero-mul T)
  length-dynamic_rules Dynamic l = length-map (range 0 T) (dynamic_rule N l) ∙ length-range 0 T ∙ sym (one-mul T)

pub rule-count : (n m T : ℕ) (ls : List Law) → length (translation n m T ls) ≡ statics ls * suc T + dynamics ls * T + 2 * (n + T * m)
rule-count n m T ls =
    measured length refl length-append n m T ls
    ∙ rw (
      sum-ext _ _ (length-static_rules (n + m) T) ls,
      sum-ext _ _ (length-dynamic_rules (n + m) T) ls,
      sum-mul (λ k l. static_of k) (suc T) ls,
      sum-mul (λ k l. dynamic_of k) T ls,
      length-choices (choice_atoms n m T),
      length-choice_atoms n m T,
    )

-- Words

-- the words of one law's rules
abbrev pub law_words_of : ℕ → Kind → Law → ℕ
law_words_of T Static l = suc T * (3 + length (if_list l))
law_words_of T Dynamic l = T * (3 + length (if_list l) + length (after_list l))

abbrev pub law_words : ℕ → List Law → ℕ
law_words T ls = sum_laws (law_words_of T) ls

module _ (N T : ℕ) where
  pub static-size : (l : Law) (t : ℕ) → length (rule_words (static_rule N l t)) ≡ 3 + length (if_list l)
  static-size l t =
      length-rule_words (static_rule N l t)
      ∙ rw (length-map (if_list l) (λ c. complement (at_time N t c))) (add-zero (3 + length (if_list l)))

  pub dynamic-size : (l : Law) (t : ℕ) → length (rule_words (dynamic_rule N l t)) ≡ 3 + length (if_list l) + length (after_list l)
  dynamic-size l t =
      length-rule_words (dynamic_rule N l t)
      ∙ rw (length-map (if_list l) (λ c. complement (at_time N (suc t) c)), length-map (after_list l) (at_time N t))

  law-words : (k : Kind) (l : Law) → length (words (static_rules N T k l)) + length (words (dynamic_rules N T k l)) ≡ law_words_of T k l
  law-words Static l =
      add-zero _ ∙ length-words-map (static_rule N l) _ (static-size l) (range 0 (suc T)) ∙ rw (length-range 0 (suc T))
  law-words Dynamic l =
      zero-add _ ∙ length-words-map (dynamic_rule N l) _ (dynamic-size l) (range 0 T) ∙ rw (length-range 0 T)

pub word_count : (n m T : ℕ) (ls : List Law) → length (words (translation n m T ls)) ≡ law_words T ls + 8 * (n + T * m)
word_count n m T ls =
    measured (λ rs. length (words rs)) refl length-words-append n m T ls
    ∙ rw (
      ← sum-add (λ k l. length (words (static_rules (n + m) T k l))) (λ k l. length (words (dynamic_rules (n + m) T k l))) ls,
      sum-ext _ _ (law-words (n + m) T) ls,
      length-words-choices (choice_atoms n m T),
      length-choice_atoms n m T,
    )
