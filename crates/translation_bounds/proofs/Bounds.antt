-- The translation of an accepted description is within the engine's limits: its rules, its words, and its codes.
-- Assumes nothing.
use mathlib.Core.Path.{◌≡◌, refl}
use mathlib.Core.Bool.{true}
use mathlib.Core.List.{List, [], ◌∷◌}
use Prim.Native.Nat.{ℕ, suc, ◌+◌, ◌*◌, ◌≤◌, ◌<◌}
use native.Mathlib.Nat.{mul-le-mul, mul-le-mul_left, mul-le-mul_right, suc-mul}
use native.Mathlib.Omega.{arith}
use lib.ListN.{length, length-take}
use Rattle.logic_programs.specs.Literals.{complement}
use Rattle.basics.specs.Search.{Each}
use Rattle.logic_programs.specs.Words.{words}
use Rattle.basics.proofs.Tests.{each_map}
use Rattle.basics.proofs.Lists.{each-mapped}
use Rattle.logic_programs.proofs.Complements.{complement-below}
use Rattle.answer_set_theory.proofs.Least.{HeadBelow}
use Rattle.answer_set_theory.proofs.Decoding.{RuleBelow, CodesBelow}
use Rattle.action_language.specs.declared.Head as described
use Rattle.action_language.specs.declared.Head.TheVariants.{Lit, False}
use Rattle.action_language.specs.declared.Kind.{Kind}
use Rattle.action_language.specs.declared.Kind.TheVariants.{Static, Dynamic}
use Rattle.action_language.specs.declared.Law.{Law}
use Rattle.action_language.specs.Laws.{if_list, after_list}
use Rattle.action_language.specs.Atoms.{action_atom, atom_count}
use Rattle.action_language.specs.Acceptance.{law_fits}
use Rattle.action_language.proofs.Fits as fits
use Rattle.action_language.proofs.Laws.{AllFit, fits-if, fits_after}
use Rattle.translation_rules.specs.RuleForms.{at_time, head_at, complements_at, literals_at}
use Rattle.translation_rules.specs.Rules.{translation}
use Rattle.translation_bounds.proofs.RuleByRule.{AtStart, AtChoice, step_rule, each-rule}
use Rattle.translation_rules.proofs.Counts.{sum_laws, static_of, dynamic_of, statics, dynamics, law_words_of, rule-count, word_count}

-- Counts

-- each law is static or dynamic
statics-dynamics : (ls : List Law) → statics ls + dynamics ls ≡ length ls
statics-dynamics [] = refl
statics-dynamics (l ∷ ls) = omega (arith, one l.kind, statics-dynamics ls)
  where
    one : (k : Kind) → static_of k + dynamic_of k ≡ 1
    one Static = refl
    one Dynamic = refl

-- a sum over laws that fit, each of which gives at most b
sum_bound : (n m b : ℕ) (g : Kind → Law → ℕ) → ((l : Law) → law_fits n m l ≡ true → g l.kind l ≤ b)
    → (ls : List Law) → AllFit n m ls → sum_laws g ls ≤ length ls * b
sum_bound n m b g each [] h = omega arith
sum_bound n m b g each (l ∷ ls) h = rw suc-mul (omega (arith, each l h.0, sum_bound n m b g each ls h.1))

law-bound : (n m T : ℕ) → T ≤ 30 → (l : Law) → law_fits n m l ≡ true → law_words_of T l.kind l ≤ 450
law-bound n m T small l fits = by_kind l.kind refl
  where
    ifs : length (if_list l) ≤ 6
    ifs = omega (arith, length-take l.if_count l.if_codes, (fits-if n m l fits).0)

    by_kind : (k : Kind) → l.kind ≡ k → law_words_of T k l ≤ 450
    by_kind Static e =
        omega (arith, mul-le-mul {n₁ = suc T} {m₁ = 3 + length (if_list l)} {n₂ = 31} {m₂ = 9} (omega arith) (omega (arith, ifs)))
    by_kind Dynamic e =
        let afters : length (after_list l) ≤ 6 =
        omega (arith, length-take l.after_count l.after_codes, (fits_after n m l fits e).0) in
        omega (
          arith,
          mul-le-mul {n₁ = T} {m₁ = 3 + length (if_list l) + length (after_list l)} {n₂ = 30} {m₂ = 15} small (omega (arith, ifs)),
        )

module _ (n m T : ℕ) (ls : List Law) (fluents : n ≤ 24) (actions : m ≤ 8) (horizon : T ≤ 30) (laws : length ls ≤ 64) where
  choice-atoms : T * m ≤ 240
  choice-atoms = mul-le-mul {n₁ = T} {m₁ = m} {n₂ = 30} {m₂ = 8} horizon actions

  pub at-most-4096 : length (translation n m T ls) ≤ 4096
  at-most-4096 =
      rw (rule-count n m T ls)
      (omega (
        arith,
        choice-atoms,
        statics-dynamics ls,
        mul-le-mul_left {m = suc T} {n = 31} (statics ls) (omega arith),
        mul-le-mul_left {m = T} {n = 31} (dynamics ls) (omega arith),
      ))

  pub at-most-30912 : AllFit n m ls → length (words (translation n m T ls)) ≤ 30912
  at-most-30912 fits =
      rw (word_count n m T ls) (omega (arith, choice-atoms, sum_bound n m 450 (law_words_of T) (law-bound n m T horizon) ls fits))

-- Codes

module _ (n m T : ℕ) where
  abbrev N : ℕ
  N = n + m

  -- every code is below it
  abbrev limit : ℕ
  limit = 2 * atom_count n m T

  -- a fluent's code at a time up to T, and any code before T
  fluent-code : (t c : ℕ) → t ≤ T → c < 2 * n → at_time N t c < limit
  fluent-code t c time code = omega (arith, mul-le-mul_right {m = t} {n = T} N time)

  any_code : (t c : ℕ) → t < T → c < 2 * N → at_time N t c < limit
  any_code t c time code = omega (arith, mul-le-mul_right {m = suc t} {n = T} N time, suc-mul t N)

  head_at_lem : (t : ℕ) → t ≤ T → (h : described.Head) → fits.HeadBelow (2 * n) h → HeadBelow limit (head_at N t h)
  head_at_lem t time (Lit c) code = fluent-code t c time code
  head_at_lem t time False code = tt

  complements-at : (t : ℕ) → t ≤ T → (cs : List ℕ) → fits.CodesBelow (2 * n) cs → Each (λ c. c < limit) (complements_at N t cs)
  complements-at t time cs codes =
      (each-mapped (λ c. c < limit) (λ c. complement (at_time N t c)) cs).1
      (each_map (λ c b. complement-below (atom_count n m T) (at_time N t c) (fluent-code t c time b)) cs codes)

  literals-at : (t : ℕ) → t < T → (cs : List ℕ) → fits.CodesBelow (2 * N) cs → Each (λ c. c < limit) (literals_at N t cs)
  literals-at t time cs codes = (each-mapped (λ c. c < limit) (at_time N t) cs).1 (each_map (λ c b. any_code t c time b) cs codes)

  -- the rule of a law that resolves at time 0, and the one that resolves at t + 1
  start-below : (l : Law) → fits.Fits n m l → (k : Kind) → AtStart (RuleBelow limit) N k l
  start-below l f Static = (head_at_lem 0 (omega arith) l.head f.head, complements-at 0 (omega arith) (if_list l) f.if-list, tt)
  start-below l f Dynamic = tt

  step-below : (t : ℕ) → t < T → (l : Law) → fits.Fits n m l → (k : Kind) → fits.AfterBelow (2 * N) k l
      → RuleBelow limit (step_rule N t k l)
  step-below t time l f Static after =
      (head_at_lem (suc t) time l.head f.head, complements-at (suc t) time (if_list l) f.if-list, tt)
  step-below t time l f Dynamic after = (
    head_at_lem (suc t) time l.head f.head,
    complements-at (suc t) time (if_list l) f.if-list,
    literals-at t time (after_list l) after,
  )

  -- the two rules that leave an atom open
  choice-below : (B : ℕ) → B < atom_count n m T → AtChoice (RuleBelow limit) B
  choice-below B b = ((omega arith, (omega arith, tt), tt), (omega arith, (omega arith, tt), tt))

  pub codes-below : (ls : List Law) → AllFit n m ls → CodesBelow (2 * atom_count n m T) (translation n m T ls)
  codes-below ls all =
      (each-rule (RuleBelow limit) n m T ls).1 (
        each_map (λ l e. start-below l (fits.law-fits n m l e) l.kind) ls all,
        λ t time. each_map (λ l e. step-below t time l (fits.law-fits n m l e) l.kind (fits.law-fits n m l e).after_list) ls all,
        λ f b. choice-below f (omega arith),
        λ t time k b. choice-below (action_atom n m t k) (omega (arith, mul-le-mul_right {m = suc t} {n = T} N time, suc-mul t N)),
      )
