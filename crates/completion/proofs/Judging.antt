-- What is found, from what the searches found, in the order in which the code makes them.
-- Assumes nothing.
use mathlib.Core.Path.{◌≡◌, refl, sym, ◌∙◌, ap}
use mathlib.Core.Bool.{Bool, true, false, cond, not}
use mathlib.Core.List.{List, [], ◌∷◌}
use mathlib.Core.Option.{Option, none, some}
use Prim.Native.Nat.{ℕ, suc, ◌*◌, ◌≤◌, ◌<◌}
use native.Mathlib.Omega.{arith}
use borrow.Author.Tests.{ne_eqb}
use lib.ListN.{length}
use Rattle.basics.specs.Search.{Each, first, range}
use Rattle.basics.proofs.Tests.{range-lowest}
use Rattle.basics.proofs.Lists.{each-range}
use Rattle.logic_programs.specs.Literals.{Lits, set_of}
use Rattle.logic_programs.specs.ValueFaults.{ValueFault, value_fault, or_fault}
use Rattle.logic_programs.specs.Rules.{lit, falsum, Rule}
use Rattle.logic_programs.specs.Words.{head_of, rules_of}
use Rattle.completion_theory.specs.Findings.{FormulaFinding, missing, clash, fails, holds}
use Rattle.completion_theory.specs.Findings.{some_body, differ, literal_fails, judged_by_formulas, formula_finding}
use Rattle.completion_theory.specs.LevelLists.{wrong_count, stands_above, bad_levels}
use Rattle.completion.specs.Internal.{held_at, failing_false}

-- a search by another test that says the same of each element
first-same : {A : Type 0} (p q : A → Bool) (k : ℕ) (xs : List A) → Each (λ x. p x ≡ q x) xs → first p k xs ≡ first q k xs
first-same p q k [] h = refl
first-same p q k (x ∷ xs) h = rw (h.0, first-same p q (suc k) xs h.1)

-- the code of a literal of 1,024 atoms is no mark of false, and its own head word
literal-mark : (Π : List Rule) (X : Lits) (c : ℕ) → c < 2048 → held_at Π X c ≡ some_body Π X (lit c)
literal-mark Π X c b = rw (ne_eqb c 2048 (omega arith))

literal-word : (c : ℕ) → c < 2048 → head_of c ≡ lit c
literal-word c b = rw (ne_eqb c 65535 (omega arith))

module _ (vs ws : List ℕ) where
  -- what the formulas say
  abbrev judged : FormulaFinding
  judged = judged_by_formulas (length vs) (rules_of ws) (set_of vs)

  -- what is said of the values' fault, or else what the formulas say
  pub says-fault : {fault : ValueFault} → fault ≡ value_fault vs → or_fault fault missing clash judged ≡ formula_finding vs ws
  unfolding formula_finding
  says-fault e = ap (λ f. or_fault f missing clash judged) e

  -- L is the set of the heads that have a body that holds, as marks
  module _ (few : length vs ≤ 1024) (L : Lits) (is : L ≡ held_at (rules_of ws) (set_of vs)) where
    abbrev fail : ℕ → Bool
    fail c = differ (set_of vs c) (L c)

    same : first fail 0 (range 0 (2 * length vs)) ≡ first (literal_fails (rules_of ws) (set_of vs)) 0 (range 0 (2 * length vs))
    same =
        first-same fail (literal_fails (rules_of ws) (set_of vs)) 0 (range 0 (2 * length vs))
        ((each-range (λ c. fail c ≡ literal_fails (rules_of ws) (set_of vs) c) 0 (2 * length vs) (λ i. i) (λ i. omega arith)).1
        (λ c b. ap (differ (set_of vs c)) (rw is (literal-mark (rules_of ws) (set_of vs) c (omega arith)))))

    pub says-fails : {c : ℕ} → first fail 0 (range 0 (2 * length vs)) ≡ some c → fails (head_of c) ≡ judged
    unfolding judged_by_formulas
    says-fails {c} e =
        let low = ((range-lowest fail (2 * length vs) (λ i. fail i ≡ true) (λ i b. (λ t. t, λ t. t)) c).0 e).0 in
        rw (← same, e) (ap fails (literal-word c (omega arith)))

    module _ (None-found : first fail 0 (range 0 (2 * length vs)) ≡ none) where
      none-fails : first (literal_fails (rules_of ws) (set_of vs)) 0 (range 0 (2 * length vs)) ≡ none
      none-fails = sym same ∙ None-found

      pub says-false : {w : ℕ} → failing_false L ≡ some w → fails (head_of w) ≡ judged
      unfolding judged_by_formulas
      says-false {w} e = rw none-fails (go (some_body (rules_of ws) (set_of vs) falsum) (rw is at e))
        where
          go : (b : Bool) → cond b (some 65535) none ≡ some w → fails (head_of w) ≡ cond b (fails falsum) holds
          go true q = let same : w ≡ 65535 = cc in rw same refl
          go false q = absurd (let z : ◌≡◌ {A = ℕ} 0 1 = cc in omega arith)

      pub says_holds : failing_false L ≡ none → holds ≡ judged
      unfolding judged_by_formulas
      says_holds e = rw none-fails (go (some_body (rules_of ws) (set_of vs) falsum) (rw is at e))
        where
          go : (b : Bool) → cond {A = Option ℕ} b (some 65535) none ≡ none → holds ≡ cond b (fails falsum) holds
          go true q = absurd (let z : ◌≡◌ {A = ℕ} 0 1 = cc in omega arith)
          go false q = refl

-- refusal 13: the count, then the rules
module _ (n : ℕ) (ws levels : List ℕ) where
  pub says-count : {k : ℕ} → wrong_count n levels ≡ some k → some k ≡ bad_levels n ws levels
  unfolding bad_levels
  says-count e = rw e

  pub says-rules : {found : Option ℕ} → wrong_count n levels ≡ none → found ≡ first (λ r. not (stands_above levels r)) 0 (rules_of ws)
      → found ≡ bad_levels n ws levels
  unfolding bad_levels
  says-rules e is = rw e is

-- where the count is right
