-- Atoms that have no value or both, and those that have one; and the lowest fault of values.
-- Assumes nothing.
use mathlib.Core.Path.{◌≡◌, refl, ap}
use mathlib.Core.Logic.Iff
use mathlib.Core.Logic.{◌↔◌, ◌⊎◌, inl, inr, ⊎_elim}
use mathlib.Core.Bool.{Bool, true, false, cond}
use mathlib.Core.List.{List}
use mathlib.Core.Option.{Option, none, some}
use Prim.Native.Nat.{ℕ}
use native.Mathlib.Omega.{arith}
use borrow.Author.Tests.{eqb-true, eqb-false, eq-eqb, ne_eqb, ltb-false}
use lib.Dec.{eqb, ltb}
use lib.ListN.{length, get_or}
use Rattle.basics.specs.Search.{Each, first, Lowest, Nowhere}
use Rattle.basics.specs.Replies.{or_else}
use Rattle.basics.proofs.Tests.{true-or-false, not-both, or-iff, each_map, each-map₂, first-lowest, first-nowhere}
use Rattle.basics.proofs.Lists.{none-iff}
use Rattle.logic_programs.specs.Literals.{OneValue, none_or_both, NoValue, BothValues, NoneOrBoth, bad_value}
use Rattle.logic_programs.specs.ValueFaults.{ValueFault, missing, clash, neither, value_fault}

pub none-or-both-iff : (v : ℕ) → none_or_both v ≡ true ↔ ((v ≡ 0) ⊎ (v ≡ 3))
none-or-both-iff v = Iff.trans (or-iff (eqb v 0) (eqb v 3)) (
  λ h. ⊎_elim (λ e. inl (eqb-true v 0 e)) (λ e. inr (eqb-true v 3 e)) h,
  λ h. ⊎_elim (λ e. inl (eq-eqb v 0 e)) (λ e. inr (eq-eqb v 3 e)) h,
)

-- one value is neither
pub one-value-neither : (v : ℕ) → OneValue v → none_or_both v ≡ false
one-value-neither v o = ⊎_elim (λ (e : v ≡ 1). rw e refl) (λ (e : v ≡ 2). rw e refl) o

-- a byte up to 3 that is neither is one value
neither-one-value : (v : ℕ) → ltb 3 v ≡ false → none_or_both v ≡ false → OneValue v
neither-one-value v few h = ⊎_elim (λ t. inl (eqb-true v 1 t)) (λ f. inr (two f)) (true-or-false (eqb v 1))
  where
    two : eqb v 1 ≡ false → v ≡ 2
    two f =
        let zero : v ≡ 0 → ⊥ = λ e. not-both ((none-or-both-iff v).1 (inl e)) h in
        let three : v ≡ 3 → ⊥ = λ e. not-both ((none-or-both-iff v).1 (inr e)) h in
        omega (arith, ltb-false 3 v few, zero, three, eqb-false v 1 f)

-- The fault from a search, and from the test of what it found

abbrev fault_from : Option ℕ → (ℕ → Bool) → ValueFault
fault_from o lacks = or_else o (λ i. cond (lacks i) (missing i) (clash i)) neither

from-missing : (o : Option ℕ) (lacks : ℕ → Bool) (k : ℕ) → fault_from o lacks ≡ missing k ↔ ((o ≡ some k) × (lacks k ≡ true))
from-missing (some i) lacks k = go (lacks i) refl
  where
    go : (b : Bool) → lacks i ≡ b → cond b (missing i) (clash i) ≡ missing k ↔ ((some i ≡ some k) × (lacks k ≡ true))
    go true t = (λ e. let same : i ≡ k = cc in (ap some same, rw same at t), λ h. cc)
    go false f = (λ e. (cc, cc), λ h. let same : i ≡ k = cc in absurd (not-both h.1 (rw same at f)))
from-missing none lacks k = (λ e. (cc, cc), λ h. cc)

from-clash : (o : Option ℕ) (lacks : ℕ → Bool) (k : ℕ) → fault_from o lacks ≡ clash k ↔ ((o ≡ some k) × (lacks k ≡ false))
from-clash (some i) lacks k = go (lacks i) refl
  where
    go : (b : Bool) → lacks i ≡ b → cond b (missing i) (clash i) ≡ clash k ↔ ((some i ≡ some k) × (lacks k ≡ false))
    go true t = (λ e. (cc, cc), λ h. let same : i ≡ k = cc in absurd (not-both (rw same at t) h.1))
    go false f = (λ e. let same : i ≡ k = cc in (ap some same, rw same at f), λ h. cc)
from-clash none lacks k = (λ e. (cc, cc), λ h. cc)

from-neither : (o : Option ℕ) (lacks : ℕ → Bool) → fault_from o lacks ≡ neither ↔ o ≡ none
from-neither (some i) lacks = go (lacks i)
  where
    go : (b : Bool) → cond b (missing i) (clash i) ≡ neither ↔ some i ≡ none
    go true = (λ e. cc, λ e. cc)
    go false = (λ e. cc, λ e. cc)
from-neither none lacks = (λ e. refl, λ e. refl)

module _ (vs : List ℕ) where
  -- the lowest atom of value 0 or 3
  pub lowest-none-or-both : (a : ℕ) → first none_or_both 0 vs ≡ some a
      ↔ Lowest (λ i. (get_or vs i 0 ≡ 0) ⊎ (get_or vs i 0 ≡ 3)) (length vs) a
  lowest-none-or-both =
      first-lowest none_or_both 0 vs (length vs) refl (λ i. (get_or vs i 0 ≡ 0) ⊎ (get_or vs i 0 ≡ 3))
      (λ i b. none-or-both-iff (get_or vs i 0))

  pub nowhere-none-or-both : first none_or_both 0 vs ≡ none ↔ Nowhere (λ i. (get_or vs i 0 ≡ 0) ⊎ (get_or vs i 0 ≡ 3)) (length vs)
  nowhere-none-or-both =
      first-nowhere none_or_both 0 vs (length vs) refl (λ i. (get_or vs i 0 ≡ 0) ⊎ (get_or vs i 0 ≡ 3))
      (λ i b. none-or-both-iff (get_or vs i 0))

  pub all-one-value : Each OneValue vs → first none_or_both 0 vs ≡ none
  all-one-value one = (none-iff none_or_both 0 vs).1 (each_map one-value-neither vs one)

  pub one-value-iff : bad_value vs ≡ none → first none_or_both 0 vs ≡ none ↔ Each OneValue vs
  one-value-iff few = (
    λ h. each-map₂ neither-one-value vs ((none-iff (ltb 3) 0 vs).0 few) ((none-iff none_or_both 0 vs).0 h),
    all-one-value,
  )

  -- the fault of an atom with both values
  pub says-clash : {a : ℕ} → first none_or_both 0 vs ≡ some a → (get_or vs a 0 ≡ 0 → ⊥) → clash a ≡ value_fault vs
  says-clash {a} e other = rw (e, ne_eqb (get_or vs a 0) 0 other)

  -- and what it means: the lowest atom that has no value or both, and which; or each atom has one value
  abbrev lacks : ℕ → Bool
  lacks i = eqb (get_or vs i 0) 0

  pub missing-iff : (a : ℕ) → value_fault vs ≡ missing a ↔ (Lowest (NoneOrBoth vs) (length vs) a × NoValue vs a)
  missing-iff a =
      Iff.trans (from-missing (first none_or_both 0 vs) lacks a)
      (Iff.and (lowest-none-or-both a) (eqb-true (get_or vs a 0) 0, eq-eqb (get_or vs a 0) 0))

  pub clash-iff : (a : ℕ) → value_fault vs ≡ clash a ↔ (Lowest (NoneOrBoth vs) (length vs) a × BothValues vs a)
  clash-iff a = Iff.trans (from-clash (first none_or_both 0 vs) lacks a) (
    λ h. let low = (lowest-none-or-both a).0 h.0 in (low, ⊎_elim (λ z. absurd (eqb-false (get_or vs a 0) 0 h.1 z)) (λ t. t) low.1),
    λ h. ((lowest-none-or-both a).1 h.0, rw h.1 refl),
  )

  pub neither-iff : value_fault vs ≡ neither ↔ first none_or_both 0 vs ≡ none
  neither-iff = from-neither (first none_or_both 0 vs) lacks
