-- The completion formulas and the history check name the same atoms without a value and with both. And what a history check that
-- refuses nothing promises of it.
-- Assumes nothing.
use mathlib.Core.Path.{◌≡◌, refl, sym, ◌∙◌}
use mathlib.Core.Logic.Iff
use mathlib.Core.Logic.{◌↔◌, ◌⊎◌, inl, inr}
use mathlib.Core.Bool.{true}
use mathlib.Core.List.{List}
use mathlib.Core.Option.{none}
use Prim.Native.Nat.{ℕ, ◌≤◌}
use native.Mathlib.Omega.{arith}
use borrow.Author.Tests.{eqb-true, eq-eqb, le-ltb}
use lib.Dec.{eqb, ltb}
use lib.ListN.{length, get_or}
use Rattle.basics.specs.Search.{Lowest}
use Rattle.std.specs.Prelude.{Result}
use Rattle.basics.specs.declared.Refusal.{Refusal}
use Rattle.basics.specs.Replies.{Reply, refused, answered}
use Rattle.basics.proofs.Tests.{or-iff, each_map}
use Rattle.basics.proofs.Lists.{none-iff}
use Rattle.logic_programs.specs.Literals.{set_of, holds_true, holds_false, bad_value}
use Rattle.logic_programs.specs.ValueFaults as faults
use Rattle.logic_programs.specs.ValueFaults.{ValueFault, value_fault, or_fault}
use Rattle.logic_programs.proofs.Values.{nowhere-none-or-both, missing-iff, clash-iff, neither-iff}
use Rattle.rule_tables.specs.Acceptance.{Accepted}
use Rattle.answer_set_theory.specs.Verdicts.{Verdict, clash}
use Rattle.answer_set_theory.specs.Answers as engine
use Rattle.answer_set_theory.specs.Demand2.{Clashing, Demand2}
use Rattle.answer_set_theory.proofs.Theorems.{demand-2}
use Rattle.logic_programs.specs.Literals.{NoValue, BothValues, NoneOrBoth}
use Rattle.completion_theory.proofs.Tightness.{even-in, odd-in}
use Rattle.completion_theory.proofs.Theorems.{says}
use Rattle.action_language.specs.declared.Law.{Law}
use Rattle.action_language.specs.declared.Description.{Description}
use Rattle.action_language.specs.Atoms.{atom_count}
use Rattle.translation_rules.specs.Translated.{written, rules_for, table_for, outcome}
use Rattle.translation_rules.proofs.Outcomes.{accepted-written}
use Rattle.translation_bounds.proofs.Tables.{few-atoms, engine-accepts}
use Rattle.history_check.specs.declared.Finding.{Finding}
use Rattle.history_check.specs.Checks as history
use Rattle.correctness.specs.MissingAndClash.{ByValues, MissingAndClash}
use Rattle.correctness.specs.Promises.{NothingRefused, SaysByValues}

-- a value that makes its atom true and false is 3
both_values : (v : ℕ) → ((holds_true v ≡ true) × (holds_false v ≡ true)) ↔ v ≡ 3
unfolding holds_true holds_false
both_values v = (λ h. both ((or-iff (eqb v 1) (eqb v 3)).0 h.0) ((or-iff (eqb v 2) (eqb v 3)).0 h.1), λ e. rw e (refl, refl))
  where
    both : (eqb v 1 ≡ true) ⊎ (eqb v 3 ≡ true) → (eqb v 2 ≡ true) ⊎ (eqb v 3 ≡ true) → v ≡ 3
    both (inr e) f = eqb-true v 3 e
    both (inl e) (inr f) = eqb-true v 3 f
    both (inl e) (inl f) = absurd (omega (arith, eqb-true v 1 e, eqb-true v 2 f))

clashing-iff : (vs : List ℕ) (a : ℕ) → Clashing (set_of vs) a ↔ BothValues vs a
clashing-iff vs a =
    Iff.trans
    (λ h. (sym (even-in vs a) ∙ h.0, sym (odd-in vs a) ∙ h.1), λ h. (even-in vs a ∙ h.0, odd-in vs a ∙ h.1))
    (both_values (get_or vs a 0))

lowest-iff : (P Q : ℕ → Type 0) → ((i : ℕ) → P i ↔ Q i) → (n k : ℕ) → Lowest P n k ↔ Lowest Q n k
lowest-iff P Q iff n k = (
  λ h. (h.0, (iff k).0 h.1, λ j b q. h.2 j b ((iff j).1 q)),
  λ h. (h.0, (iff k).1 h.1, λ j b p. h.2 j b ((iff j).0 p)),
)

-- the engine says clash of the lowest atom of value 3
pub engine-clash : (vs ws : List ℕ) → Accepted vs ws → (a : ℕ) → engine.answer vs ws ≡ answered (clash a)
    ↔ Lowest (BothValues vs) (length vs) a
unfolding Demand2
engine-clash vs ws accepted a =
    Iff.trans ((demand-2 vs ws accepted).clash-exactly a)
    (lowest-iff (Clashing (set_of vs)) (BothValues vs) (clashing-iff vs) (length vs) a)

-- what the history check says, from the fault of its values and the engine's answer
module _ (vs ws : List ℕ) (accepted : Accepted vs ws) where
  abbrev said : ValueFault → Reply history.Finding
  said fault =
      or_fault fault (λ a. answered (history.missing a)) (λ a. answered (history.judged (clash a)))
      (history.of_engine (engine.answer vs ws))

  missing-said : (a : ℕ) → history.finding vs ws ≡ answered (history.missing a) ↔ (Lowest (NoneOrBoth vs) (length vs) a × NoValue vs a)
  missing-said a = (λ e. go (value_fault vs) refl e, λ h. rw ((missing-iff vs a).1 h) refl)
    where
      engine-not : (r : Reply Verdict) → history.of_engine r ≡ answered (history.missing a) → ⊥
      engine-not (refused k p) e = let z : ◌≡◌ {A = ℕ} 0 1 = cc in omega arith
      engine-not (answered v) e = let z : ◌≡◌ {A = ℕ} 0 1 = cc in omega arith

      go : (fault : ValueFault) → value_fault vs ≡ fault → said fault ≡ answered (history.missing a)
          → Lowest (NoneOrBoth vs) (length vs) a × NoValue vs a
      go (faults.missing i) q e = let same : i ≡ a = cc in rw (← same) ((missing-iff vs i).0 q)
      go (faults.clash i) q e = let z : ◌≡◌ {A = ℕ} 0 1 = cc in absurd (omega arith)
      go faults.neither q e = absurd (engine-not (engine.answer vs ws) e)

  clash-said : (a : ℕ) → history.finding vs ws ≡ answered (history.judged (clash a))
      ↔ (Lowest (NoneOrBoth vs) (length vs) a × BothValues vs a)
  clash-said a = (λ e. go (value_fault vs) refl e, λ h. rw ((clash-iff vs a).1 h) refl)
    where
      by-engine : (r : Reply Verdict) → history.of_engine r ≡ answered (history.judged (clash a)) → r ≡ answered (clash a)
      by-engine (refused k p) e = cc
      by-engine (answered v) e = cc

      go : (fault : ValueFault) → value_fault vs ≡ fault → said fault ≡ answered (history.judged (clash a))
          → Lowest (NoneOrBoth vs) (length vs) a × BothValues vs a
      go (faults.missing i) q e = let z : ◌≡◌ {A = ℕ} 0 1 = cc in absurd (omega arith)
      go (faults.clash i) q e = let same : i ≡ a = cc in rw (← same) ((clash-iff vs i).0 q)
      go faults.neither q e =
          let low = (engine-clash vs ws accepted a).0 (by-engine (engine.answer vs ws) e) in
          absurd ((nowhere-none-or-both vs).0 ((neither-iff vs).0 q) a low.0 (inr low.1))

pub missing-and-clash : MissingAndClash
missing-and-clash vs ws accepted = record {
  by_values = record { missing-exactly = missing-said vs ws accepted; clash-exactly = clash-said vs ws accepted };
  missing-same = λ a. Iff.trans ((says vs ws accepted).missing-exactly a) (Iff.symm (missing-said vs ws accepted a));
  clash-same = λ a. Iff.trans ((says vs ws accepted).clash-exactly a) (Iff.symm (clash-said vs ws accepted a));
}

-- What a history check promises of its own answer

module _ (d : Description) (ls : List Law) (lent : ℕ) (vs : List ℕ) (room : ℕ) (taken : NothingRefused d ls lent vs room) where
  is-written : outcome d ls lent room
      ≡ answered (written (atom_count d.fluents d.actions d.horizon) (length (rules_for d ls)) (length (table_for d ls)))
  is-written = accepted-written d ls lent room taken.records taken.horizon taken.enough

  bytes : bad_value vs ≡ none
  bytes = (none-iff (ltb 3) 0 vs).1 (each_map (λ v b. le-ltb 3 v b) vs taken.bytes)

  pub few : length vs ≤ 1024
  few = omega (arith, taken.size, few-atoms d ls lent room is-written)

  is_found : history.checked d ls lent vs room ≡ history.finding vs (table_for d ls)
  unfolding history.checked
  is_found = rw (is-written, eq-eqb (length vs) _ taken.size, bytes)

  pub by_values : ByValues vs (history.checked d ls lent vs room)
  by_values =
      rw is_found
      (missing-and-clash vs (table_for d ls) (engine-accepts d ls lent room is-written vs taken.size bytes)).by_values

pub says-by-values : (d : Description) (ls : List Law) (lent : ℕ) (vs : List ℕ) (room : ℕ) (r : Result Finding Refusal)
    → history.reply_of r ≡ history.checked d ls lent vs room → SaysByValues d ls lent vs room r
unfolding SaysByValues
says-by-values d ls lent vs room r e taken = rw e (by_values d ls lent vs room taken)
