-- What is found, read by the formulas of literal completion: each formula's test, and the first that fails.
-- Assumes nothing.
use mathlib.Core.Path.{◌≡◌, refl, sym, ap}
use mathlib.Core.Logic.Iff
use mathlib.Core.Logic.{◌↔◌, ◌⊎◌, inl, inr, ⊎_elim}
use mathlib.Core.Bool.{Bool, true, false, cond}
use mathlib.Core.List.Memᴰ
use mathlib.Core.List.{List, [], ◌∷◌}
use mathlib.Core.Option.{Option, none, some}
use Prim.Native.Nat.{ℕ, ◌*◌, ◌<◌}
use native.Mathlib.Omega.{arith}
use borrow.Author.Tests.{eqb-true, eq-eqb}
use lib.ListN.{length}
use Rattle.basics.specs.Search.{Each, all, first, range}
use Rattle.basics.specs.Replies.{Reply, answered, or_else}
use Rattle.basics.proofs.Tests.{not-both, false_of_not, true_of_not, and-iff, iff-and₃, and-or-iff, all-each, range-lowest}
use Rattle.basics.proofs.Lists.{none-iff, each-range}
use Rattle.logic_programs.specs.Literals.{Lits, complement, set_of, OneValue, bad_value}
use Rattle.logic_programs.specs.ValueFaults as values
use Rattle.logic_programs.specs.ValueFaults.{ValueFault, value_fault, or_fault}
use Rattle.logic_programs.specs.Rules.{Head, lit, falsum, Rule}
use Rattle.logic_programs.specs.Words.{rules_of}
use Rattle.logic_programs.proofs.Values.{missing-iff, clash-iff, neither-iff, one-value-iff}
use Rattle.tight_programs.specs.LiteralCompletion.{BodyHolds, SomeBody, Formula}
use Rattle.completion_theory.specs.Findings.{FormulaFinding, missing, clash, fails, holds, body_holds, same_head}
use Rattle.completion_theory.specs.Findings.{some_body, differ, literal_fails, judged_by_formulas, formula_finding}
use Rattle.completion_theory.specs.Meaning.{ByFormulas}

-- The formulas' tests

body-iff : (X : Lits) (r : Rule) → body_holds X r ≡ true ↔ BodyHolds X r
body-iff X r = Iff.trans (and-iff (all (λ c. X (complement c)) r.negated) (all X r.plain)) (
  λ h. ((all-each X r.plain).0 h.1, (all-each (λ c. X (complement c)) r.negated).0 h.0),
  λ h. ((all-each (λ c. X (complement c)) r.negated).1 h.1, (all-each X r.plain).1 h.0),
)

head-iff : (G H : Head) → same_head G H ≡ true ↔ G ≡ H
head-iff (lit c) (lit d) = (λ e. ap lit (eqb-true c d e), λ e. let same : c ≡ d = cc in eq-eqb c d same)
head-iff (lit c) falsum = (λ e. absurd (not-both e refl), λ e. let z : ◌≡◌ {A = ℕ} 0 1 = cc in absurd (omega arith))
head-iff falsum (lit d) = (λ e. absurd (not-both e refl), λ e. let z : ◌≡◌ {A = ℕ} 0 1 = cc in absurd (omega arith))
head-iff falsum falsum = (λ e. refl, λ e. refl)

some-iff : (Π : List Rule) (X : Lits) (H : Head) → some_body Π X H ≡ true ↔ SomeBody Π X H
some-iff [] X H = (λ e. absurd (not-both e refl), λ (r, m, h, body). absurd (Memᴰ.not-nil m))
some-iff (r ∷ rs) X H = Iff.trans (and-or-iff (same_head r.head H) (body_holds X r) (some_body rs X H)) (
  λ h. ⊎_elim (λ i. (r, Memᴰ.head refl, (head-iff r.head H).0 i.0, (body-iff X r).0 i.1)) (λ e. later ((some-iff rs X H).0 e)) h,
  λ s. earlier (some-iff rs X H).1 s,
)
  where
    later : SomeBody rs X H → SomeBody (r ∷ rs) X H
    later (q, m, h, body) = (q, Memᴰ.tail m, h, body)

    earlier : (SomeBody rs X H → some_body rs X H ≡ true) → SomeBody (r ∷ rs) X H
        → ((same_head r.head H ≡ true) × (body_holds X r ≡ true)) ⊎ (some_body rs X H ≡ true)
    earlier rest (q, m, h, body) =
        ⊎_elim (λ (e : q ≡ r). inl ((head-iff r.head H).1 (rw e at h), (body-iff X r).1 (rw e at body))) (λ l. inr (rest (q, l, h, body)))
        (Memᴰ.cases_cons m)

differ-iff : (a b : Bool) → differ a b ≡ false ↔ (a ≡ true ↔ b ≡ true)
differ-iff true true = (λ e. (λ t. t, λ t. t), λ h. refl)
differ-iff true false = (λ e. absurd (not-both refl e), λ h. sym (h.0 refl))
differ-iff false true = (λ e. absurd (not-both refl e), λ h. sym (h.1 refl))
differ-iff false false = (λ e. (λ t. t, λ t. t), λ h. refl)

module _ (Π : List Rule) (X : Lits) where
  literal-iff : (c : ℕ) → literal_fails Π X c ≡ false ↔ Formula Π X (lit c)
  literal-iff c =
      let some = some-iff Π X (lit c) in
      Iff.trans (differ-iff (X c) (some_body Π X (lit c))) (
        λ h. (λ x. some.0 (h.0 x), λ s. h.1 (some.1 s)),
        λ h. (λ x. some.1 (h.0 x), λ s. h.1 (some.0 s)),
      )

  fails-iff : (c : ℕ) → literal_fails Π X c ≡ true ↔ (Formula Π X (lit c) → ⊥)
  fails-iff c = (λ t f. not-both t ((literal-iff c).1 f), λ h. true_of_not (literal_fails Π X c) (λ f. h ((literal-iff c).0 f)))

  false-iff : some_body Π X falsum ≡ false ↔ Formula Π X falsum
  false-iff = (
    λ f. (λ x. absurd x, λ s. not-both ((some-iff Π X falsum).1 s) f),
    λ h. false_of_not (some_body Π X falsum) (λ t. h.1 ((some-iff Π X falsum).0 t)),
  )

  false-fails-iff : some_body Π X falsum ≡ true ↔ (Formula Π X falsum → ⊥)
  false-fails-iff = (λ t f. not-both t (false-iff.1 f), λ h. true_of_not (some_body Π X falsum) (λ f. h (false-iff.0 f)))

  none-fails-iff : (n : ℕ) → first (literal_fails Π X) 0 (range 0 n) ≡ none ↔ ((c : ℕ) → c < n → Formula Π X (lit c))
  none-fails-iff n =
      Iff.trans (none-iff (literal_fails Π X) 0 (range 0 n))
      (Iff.trans (each-range (λ c. literal_fails Π X c ≡ false) 0 n (λ i. i) (λ i. omega arith))
      (λ h c b. (literal-iff c).0 (h c b), λ h c b. (literal-iff c).1 (h c b)))

-- What is found, from the fault of the values and the two searches

abbrev of : ValueFault → Option ℕ → Bool → FormulaFinding
of f c d = or_fault f missing clash (or_else c (λ k. fails (lit k)) (cond d (fails falsum) holds))

of-missing : (f : ValueFault) (c : Option ℕ) (d : Bool) (k : ℕ) → of f c d ≡ missing k ↔ f ≡ values.missing k
of-missing (values.missing i) c d k = (λ e. cc, λ e. cc)
of-missing (values.clash i) c d k = (λ e. cc, λ e. cc)
of-missing values.neither (some i) d k = (λ e. cc, λ e. cc)
of-missing values.neither none true k = (λ e. cc, λ e. cc)
of-missing values.neither none false k = (λ e. cc, λ e. cc)

of-clash : (f : ValueFault) (c : Option ℕ) (d : Bool) (k : ℕ) → of f c d ≡ clash k ↔ f ≡ values.clash k
of-clash (values.missing i) c d k = (λ e. cc, λ e. cc)
of-clash (values.clash i) c d k = (λ e. cc, λ e. cc)
of-clash values.neither (some i) d k = (λ e. cc, λ e. cc)
of-clash values.neither none true k = (λ e. cc, λ e. cc)
of-clash values.neither none false k = (λ e. cc, λ e. cc)

of-fails : (f : ValueFault) (c : Option ℕ) (d : Bool) (k : ℕ) → of f c d ≡ fails (lit k) ↔ ((f ≡ values.neither) × (c ≡ some k))
of-fails (values.missing i) c d k = (λ e. (cc, cc), λ h. cc)
of-fails (values.clash i) c d k = (λ e. (cc, cc), λ h. cc)
of-fails values.neither (some i) d k = (λ e. (cc, cc), λ h. cc)
of-fails values.neither none true k = (λ e. (cc, cc), λ h. cc)
of-fails values.neither none false k = (λ e. (cc, cc), λ h. cc)

of-false : (f : ValueFault) (c : Option ℕ) (d : Bool) → of f c d ≡ fails falsum ↔ ((f ≡ values.neither) × (c ≡ none) × (d ≡ true))
of-false (values.missing i) c d = (λ e. (cc, cc, cc), λ h. cc)
of-false (values.clash i) c d = (λ e. (cc, cc, cc), λ h. cc)
of-false values.neither (some i) d = (λ e. (cc, cc, cc), λ h. cc)
of-false values.neither none true = (λ e. (cc, cc, cc), λ h. cc)
of-false values.neither none false = (λ e. (cc, cc, cc), λ h. cc)

of-holds : (f : ValueFault) (c : Option ℕ) (d : Bool) → of f c d ≡ holds ↔ ((f ≡ values.neither) × (c ≡ none) × (d ≡ false))
of-holds (values.missing i) c d = (λ e. (cc, cc, cc), λ h. cc)
of-holds (values.clash i) c d = (λ e. (cc, cc, cc), λ h. cc)
of-holds values.neither (some i) d = (λ e. (cc, cc, cc), λ h. cc)
of-holds values.neither none true = (λ e. (cc, cc, cc), λ h. cc)
of-holds values.neither none false = (λ e. (cc, cc, cc), λ h. cc)

module _ (vs ws : List ℕ) (few : bad_value vs ≡ none) (reply : Reply FormulaFinding) (is : reply ≡ answered (formula_finding vs ws)) where
  abbrev Π : List Rule
  Π = rules_of ws

  abbrev X : Lits
  X = set_of vs

  abbrev f : ValueFault
  f = value_fault vs

  abbrev c : Option ℕ
  c = first (literal_fails Π X) 0 (range 0 (2 * length vs))

  abbrev d : Bool
  d = some_body Π X falsum

  found : (g : FormulaFinding) → reply ≡ answered g ↔ of f c d ≡ g
  unfolding formula_finding judged_by_formulas
  found g = let same : reply ≡ answered (of f c d) = is in (λ e. cc, λ e. cc)

  one_value : f ≡ values.neither ↔ Each OneValue vs
  one_value = Iff.trans (neither-iff vs) (one-value-iff vs few)

  pub by-formulas : ByFormulas vs Π reply
  by-formulas = record {
    missing-exactly = λ k. Iff.trans (found (missing k)) (Iff.trans (of-missing f c d k) (missing-iff vs k));
    clash-exactly = λ k. Iff.trans (found (clash k)) (Iff.trans (of-clash f c d k) (clash-iff vs k));
    fails-exactly = λ k. Iff.trans (found (fails (lit k))) (Iff.trans (of-fails f c d k)
        (Iff.and one_value (range-lowest (literal_fails Π X) (2 * length vs) (λ i. Formula Π X (lit i) → ⊥) (λ i low. fails-iff Π X i) k)));
    false-exactly = Iff.trans (found (fails falsum)) (Iff.trans (of-false f c d)
        (iff-and₃ one_value (none-fails-iff Π X (2 * length vs)) (false-fails-iff Π X)));
    holds-exactly = Iff.trans (found holds) (Iff.trans (of-holds f c d)
        (Iff.trans (iff-and₃ one_value (none-fails-iff Π X (2 * length vs)) (false-iff Π X))
        (λ h. (h.0, record { of-literals = h.1; of-falsum = h.2 }), λ h. (h.0, h.1.of-literals, h.1.of-falsum))));
  }
