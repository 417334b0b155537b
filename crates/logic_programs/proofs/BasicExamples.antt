-- The worked examples of the definitions hold.
-- Assumes nothing.
use mathlib.Core.Path.{◌≡◌, refl}
use mathlib.Core.Logic.{⊎_elim, inl, inr}
use mathlib.Core.Bool.{true, false}
use mathlib.Core.List.{List, [], ◌∷◌, map}
use Prim.Native.Nat.{ℕ, ◌+◌, ◌*◌, ◌%◌}
use native.Mathlib.Omega.{arith}
use lib.Dec.{eqb}
use borrow.Author.Tests.{eqb-true}
use Rattle.basics.specs.Search.{Each, chosen, range}
use Rattle.basics.proofs.Tests.{not-both, or-iff}
use Rattle.basics.proofs.Pairs.{◌&◌}
use Rattle.logic_programs.specs.Literals.{Lits, complement, set_of, holds_true, holds_false, OneValue}
use Rattle.logic_programs.specs.Rules.{Rule}
use Rattle.logic_programs.specs.AnswerSets.{reduct, Closed, Subset, ProperSubset, Consistent, AnswerSet, literal_headed, IsLeastClosed}
use Rattle.logic_programs.specs.Words.{words, rules_of}
use Rattle.logic_programs.specs.BasicExamples.{codes, p, ¬p, q, r, four, four_reduct, recipe_rules, recipe_words}
use Rattle.logic_programs.specs.BasicExamples.{IsAnswerSet, answer_sets, Reason, inconsistent, unclosed, smaller}
use Rattle.logic_programs.specs.BasicExamples.{Shown, IsOther, other_sets, DefinitionsHold}

-- what the definitions compute

drops : reduct four (codes (p ∷ q ∷ [])) ≡ four_reduct
drops = refl

written : words recipe_rules ≡ recipe_words
written = refl

decoded : rules_of recipe_words ≡ recipe_rules
unfolding rules_of
decoded = refl

held : chosen (set_of (0 ∷ 1 ∷ 2 ∷ 3 ∷ [])) (range 0 8) ≡ 2 ∷ 5 ∷ 6 ∷ 7 ∷ []
unfolding set_of holds_true holds_false
held = refl

complements : map complement (p ∷ ¬p ∷ r ∷ 5 ∷ []) ≡ ¬p ∷ p ∷ 5 ∷ r ∷ []
unfolding complement
complements = refl

not-one : (v : ℕ) → (v ≡ 1 → ⊥) → (v ≡ 2 → ⊥) → OneValue v → ⊥
not-one v h g o = ⊎_elim h g o

-- what holds of each listed literal holds of each in the set
codes-each : (P : ℕ → Type 0) (cs : List ℕ) → Each P cs → (c : ℕ) → codes cs c ≡ true → P c
codes-each P [] h c e = absurd (not-both e refl)
codes-each P (d ∷ ds) h c e =
    ⊎_elim (λ (i : eqb c d ≡ true). rw (eqb-true c d i) h.0) (λ i. codes-each P ds h.1 c i) ((or-iff (eqb c d) (codes ds c)).0 e)

-- all codes even, or all odd
one-sided : (k : ℕ) (cs : List ℕ) → Each (λ c. c % 2 ≡ k) cs → Consistent (codes cs)
one-sided k cs h a t f = omega (arith, codes-each (λ c. c % 2 ≡ k) cs h (2 * a) t, codes-each (λ c. c % 2 ≡ k) cs h (2 * a + 1) f)

within : (cs : List ℕ) (Y : Lits) → Each (λ c. Y c ≡ true) cs → Subset (codes cs) Y
within cs Y h c e = codes-each (λ d. Y d ≡ true) cs h c e

-- each reason rules a set out
ruled_out : (why : Reason) (Π : List Rule) (X : Lits) → Shown why Π X → Shown why Π X × (AnswerSet Π X → ⊥)
ruled_out inconsistent Π X s = (s, λ h. s h.consistent)
ruled_out unclosed Π X s = (s, λ h. s h.closed)
ruled_out (smaller cs) Π X s = (s, λ h. h.minimal (codes cs) s.0 s.1)

-- the listed literals are in X, and X has one more
lacks : (cs : List ℕ) (X : Lits) (c : ℕ) → Each (λ d. X d ≡ true) cs → X c ≡ true → codes cs c ≡ false → ProperSubset (codes cs) X
lacks cs X c h x y = (within cs X h, (c, x, y))

other-sets : Each IsOther other_sets
other-sets =
    ruled_out (smaller []) _ _ (lacks [] _ p tt refl refl, tt)
    & ruled_out (smaller []) _ _ (lacks [] _ p tt refl refl, (λ w. w.0, tt))
    & ruled_out (smaller (p ∷ [])) _ _ (lacks (p ∷ []) _ q (refl, tt) refl refl, (λ w. refl, (λ w. w.0, tt)))
    & ruled_out unclosed _ _ (λ h. not-both (h.1.0 (refl, tt)) refl)
    & ruled_out unclosed _ _ (λ h. h.1.0 (refl, tt))
    & ruled_out unclosed _ _ (λ h. not-both (h.0 tt) refl)
    & ruled_out (smaller []) _ _ (lacks [] _ p tt refl refl, tt)
    & ruled_out inconsistent _ _ (λ h. h 0 refl refl)
    & tt

-- a set with every listed literal is no proper subset
not-smaller : (cs : List ℕ) (Y : Lits) → ProperSubset Y (codes cs) → Each (λ c. Y c ≡ true) cs → ⊥
not-smaller cs Y (sub, (c, x, y)) h = not-both (within cs Y h c x) y

-- closed and minimal are left to show
answer-set : (k : ℕ) (cs : List ℕ) (Π : List Rule) → Each (λ c. c % 2 ≡ k) cs → Closed (reduct Π (codes cs)) (codes cs)
    → ((Y : Lits) → Closed (reduct Π (codes cs)) Y → Each (λ c. Y c ≡ true) cs) → AnswerSet Π (codes cs)
answer-set k cs Π side closed all = record {
  consistent = one-sided k cs side;
  closed = closed;
  minimal = λ Y sub h. not-smaller cs Y sub (all Y h);
}

listed-sets : Each IsAnswerSet answer_sets
listed-sets =
    answer-set 0 [] _ tt tt (λ Y h. tt)
    & answer-set 0 [] _ tt (λ w. w.0, tt) (λ Y h. tt)
    & answer-set 0 [] _ tt (λ w. not-both w.0 refl, tt) (λ Y h. tt)
    & answer-set 0 (p ∷ q ∷ []) _ (refl & refl & tt) ((λ w. refl) & (λ w. refl) & tt) (λ Y h. h.0 tt & h.1.0 (h.0 tt, tt) & tt)
    & answer-set 0 (p ∷ []) _ (refl, tt) (λ w. refl, tt) (λ Y h. (h.0 tt, tt))
    & answer-set 0 (p ∷ []) _ (refl, tt) (λ w. refl, tt) (λ Y h. (h.0 tt, tt))
    & answer-set 1 (¬p ∷ []) _ (refl, tt) (λ w. refl, tt) (λ Y h. (h.0 tt, tt))
    & tt

-- the set with p and q alone
least : IsLeastClosed (literal_headed four_reduct) (codes (p ∷ q ∷ []))
least = record {
  closed = (λ w. refl, (λ w. refl, tt));
  least = λ Y h. within (p ∷ q ∷ []) Y (h.0 tt, (h.1.0 (h.0 tt, tt), tt));
}

pub definitions-hold : DefinitionsHold
definitions-hold = record {
  answer-sets = listed-sets;
  other-sets = other-sets;
  reduct-drops = drops;
  least = least;
  not-closed = λ h. not-both (h.closed.1.0 (refl, tt)) refl;
  not_least = λ h. not-both (h.least (codes (p ∷ q ∷ [])) least.closed r refl) refl;
  written = written;
  decoded = decoded;
  held = held;
  one_value = (inl refl, (inr refl, tt));
  not-one-value = (not-one 0 (λ e. omega arith) (λ e. omega arith), (not-one 3 (λ e. omega arith) (λ e. omega arith), tt));
  none-or-both = refl;
  faults = refl;
  said = refl;
  complements = complements;
}
