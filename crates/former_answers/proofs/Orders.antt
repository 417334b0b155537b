-- The former order and the present one, by what is said of an atom with none, of one with both, and where there are none of these.
-- Assumes nothing.
use mathlib.Core.Path.{◌≡◌, refl, sym, ap, ◌∙◌}
use mathlib.Core.Logic.{◌↔◌, ◌⊎◌, inl, inr, ⊎_elim}
use mathlib.Core.Bool.{true, false}
use mathlib.Core.List.{List}
use mathlib.Core.Option.{Option, none, some}
use Prim.Native.Nat.{ℕ, ◌<◌}
use native.Mathlib.Omega.{arith}
use borrow.Author.Tests.{eqb-true, eq-eqb, ltb-true, ltb-false}
use lib.Dec.{eqb, ltb}
use lib.ListN.{length, get_or}
use Rattle.basics.specs.Search.{first, Lowest, Nowhere}
use Rattle.basics.specs.Replies.{Reply, refused, answered, or_else, or_refuse}
use Rattle.basics.proofs.Tests.{true-or-false, first-lowest, first-nowhere}
use Rattle.logic_programs.specs.Literals.{none_or_both}
use Rattle.logic_programs.specs.ValueFaults.{value_fault, or_fault}
use Rattle.logic_programs.proofs.Values.{lowest-none-or-both, nowhere-none-or-both}
use Rattle.logic_programs.specs.Literals.{NoValue, BothValues}
use Rattle.former_answers.specs.Changes.{BothBelowNone, Answers, Changed}

-- the lowest atom with a value
module _ (vs : List ℕ) (v : ℕ) where
  value_there : (i : ℕ) → i < length vs → eqb v (get_or vs i 0) ≡ true ↔ get_or vs i 0 ≡ v
  value_there i b = (λ e. sym (eqb-true v (get_or vs i 0) e), λ e. eq-eqb v (get_or vs i 0) (sym e))

  pub lowest-value : (a : ℕ) → first (eqb v) 0 vs ≡ some a ↔ Lowest (λ i. get_or vs i 0 ≡ v) (length vs) a
  lowest-value = first-lowest (eqb v) 0 vs (length vs) refl (λ i. get_or vs i 0 ≡ v) value_there

  pub nowhere-value : first (eqb v) 0 vs ≡ none ↔ Nowhere (λ i. get_or vs i 0 ≡ v) (length vs)
  nowhere-value = first-nowhere (eqb v) 0 vs (length vs) refl (λ i. get_or vs i 0 ≡ v) value_there

-- the former order goes on with rest where no atom is missing, the present one with next where no atom has either fault
module _ {A : Type 0} (missing both : ℕ → A) (apart : (a b : ℕ) → missing a ≡ both b → ⊥) (vs : List ℕ) (rest next : A)
    (rest_both : (b : ℕ) → Lowest (BothValues vs) (length vs) b → rest ≡ both b)
    (rest-next : Nowhere (BothValues vs) (length vs) → rest ≡ next) where
  abbrev former : A
  former = or_else (first (eqb 0) 0 vs) missing rest

  abbrev present : A
  present = or_fault (value_fault vs) missing both next

  former-missing : (a : ℕ) → Lowest (NoValue vs) (length vs) a → former ≡ missing a
  former-missing a low = rw ((lowest-value vs 0 a).1 low) refl

  present-missing : (k : ℕ) → first none_or_both 0 vs ≡ some k → get_or vs k 0 ≡ 0 → present ≡ missing k
  present-missing k e zero = rw (e, zero) refl

  present-both : (k : ℕ) → first none_or_both 0 vs ≡ some k → get_or vs k 0 ≡ 3 → present ≡ both k
  present-both k e three = rw (e, three) refl

  -- either an atom with both lies below the first with none, or the two orders say the same
  either : BothBelowNone vs ⊎ (former ≡ present)
  either = go (first none_or_both 0 vs) refl (first (eqb 0) 0 vs) refl
    where
      at_first : (k : ℕ) → first none_or_both 0 vs ≡ some k → (o : Option ℕ) → first (eqb 0) 0 vs ≡ o → get_or vs k 0 ≡ 3
          → BothBelowNone vs ⊎ (former ≡ present)
      at_first k e (some a) q three =
          let low = (lowest-none-or-both vs k).0 e in
          let zero = (lowest-value vs 0 a).0 q in
          inl (a, zero, (k, below low zero three, three))
        where
          below : Lowest (λ i. (get_or vs i 0 ≡ 0) ⊎ (get_or vs i 0 ≡ 3)) (length vs) k → Lowest (NoValue vs) (length vs) a
              → get_or vs k 0 ≡ 3 → k < a
          below low zero three = ⊎_elim (λ t. ltb-true k a t) (λ f. absurd (other f)) (true-or-false (ltb k a))
            where
              other : ltb k a ≡ false → ⊥
              other f =
                  ⊎_elim (λ t. low.2 a (ltb-true a k t) (inl zero.1))
                  (λ g. same (omega (arith, ltb-false k a f, ltb-false a k g))) (true-or-false (ltb a k))
                where
                  same : k ≡ a → ⊥
                  same e = let v : ◌≡◌ {A = ℕ} 3 0 = sym three ∙ ap (λ (i : ℕ). get_or vs i 0) e ∙ zero.1 in omega arith
      at_first k e none q three =
          let low = (lowest-none-or-both vs k).0 e in
          let first-both : Lowest (BothValues vs) (length vs) k = (low.0, three, λ j b t. low.2 j b (inr t)) in
          inr (rw q (rest_both k first-both) ∙ sym (present-both k e three))

      go : (o : Option ℕ) → first none_or_both 0 vs ≡ o → (p : Option ℕ) → first (eqb 0) 0 vs ≡ p → BothBelowNone vs ⊎ (former ≡ present)
      go none e p q =
          let nowhere = (nowhere-none-or-both vs).0 e in
          let no_none : first (eqb 0) 0 vs ≡ none = (nowhere-value vs 0).1 (λ i b z. nowhere i b (inl z)) in
          inr (rw (no_none, e) (rest-next (λ i b t. nowhere i b (inr t))))
      go (some k) e p q = ⊎_elim (λ zero. inr (same zero)) (λ three. at_first k e p q three) ((lowest-none-or-both vs k).0 e).1
        where
          same : get_or vs k 0 ≡ 0 → former ≡ present
          same zero =
              let low = (lowest-none-or-both vs k).0 e in
              former-missing k (low.0, zero, λ j b z. low.2 j b (inl z)) ∙ sym (present-missing k e zero)

  -- an atom with both values below the first with none
  module _ (a : ℕ) (None-first : Lowest (NoValue vs) (length vs) a) where
    pub became : (b : ℕ) → Lowest (BothValues vs) (length vs) b → b < a → (former ≡ missing a) × (present ≡ both b)
    became b both_first below = (former-missing a None-first, present-both b ((lowest-none-or-both vs b).1 lowest) both_first.1)
      where
        lowest : Lowest (λ i. (get_or vs i 0 ≡ 0) ⊎ (get_or vs i 0 ≡ 3)) (length vs) b
        lowest = (
          both_first.0,
          inr both_first.1,
          λ j low h. ⊎_elim (λ zero. None-first.2 j (omega arith) zero) (λ three. both_first.2 j low three) h,
        )

    differs : (b : ℕ) → b < a → BothValues vs b → former ≡ present → ⊥
    differs b below three e = go (first none_or_both 0 vs) refl
      where
        at_most : (k : ℕ) → Lowest (λ i. (get_or vs i 0 ≡ 0) ⊎ (get_or vs i 0 ≡ 3)) (length vs) k → k < a
        at_most k low =
            ⊎_elim (λ t. absurd (low.2 b (ltb-true b k t) (inr three))) (λ f. omega (arith, ltb-false b k f, below))
            (true-or-false (ltb b k))

        go : (o : Option ℕ) → first none_or_both 0 vs ≡ o → ⊥
        go none q = (nowhere-none-or-both vs).0 q b (omega (arith, None-first.0, below)) (inr three)
        go (some k) q =
            let low = (lowest-none-or-both vs k).0 q in
            ⊎_elim (λ zero. None-first.2 k (at_most k low) zero)
            (λ more. apart a k (sym (former-missing a None-first) ∙ e ∙ present-both k q more)) low.1

  pub orders-differ : (former ≡ present → ⊥) ↔ BothBelowNone vs
  orders-differ = (
    λ differ. ⊎_elim (λ h. h) (λ same. absurd (differ same)) either,
    λ (a, None-first, (b, below, three)). differs a None-first b below three,
  )

  -- of replies that are answers
  pub answers-changed : {f p : Reply A} → f ≡ answered former → p ≡ answered present → Changed missing both vs f p
  answers-changed {f} {p} is are = record {
    refused-same = λ number place. (λ e. cc, λ e. cc);
    differ-exactly = (
      λ differ. ((present, are), orders-differ.0 (λ e. differ (is ∙ ap {B = Reply A} answered e ∙ sym are))),
      λ h e. orders-differ.1 h.1 (let same : answered former ≡ answered present = sym is ∙ e ∙ are in cc),
    );
    became = λ _ a b None-first both_first below. let h = became a None-first b both_first below in
        (is ∙ ap {B = Reply A} answered h.0, are ∙ ap {B = Reply A} answered h.1);
  }

-- behind a test that refuses both or neither
module _ {A : Type 0} (missing both : ℕ → A) (vs : List ℕ) where
  pub refused-changed : {f p : Reply A} {number place : ℕ} → f ≡ refused number place → p ≡ refused number place
      → Changed missing both vs f p
  refused-changed {f} {p} is are = record {
    refused-same = λ k q. (λ e. cc, λ e. cc);
    differ-exactly = (λ differ. absurd (differ (is ∙ sym are)), λ h. absurd (no_answer h.0));
    became = λ h. absurd (no_answer h);
  }
    where
      no_answer : Answers p → ⊥
      no_answer (said, e) = let z : ◌≡◌ {A = ℕ} 0 1 = cc in omega arith

  pub tested-changed : (o : Option ℕ) (number : ℕ) {f p : Reply A} → (o ≡ none → Changed missing both vs f p)
      → Changed missing both vs (or_refuse o number f) (or_refuse o number p)
  tested-changed (some place) number next = refused-changed refl refl
  tested-changed none number next = next refl
