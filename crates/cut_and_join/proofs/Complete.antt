-- Which histories are complete: those that the history check or the causal reading passes; the halves of a complete one, and two that
-- are joined. The description with another horizon stays accepted.
-- Assumes nothing.
use mathlib.Core.Path.{◌≡◌, refl, sym, ◌∙◌}
use mathlib.Core.List.{List}
use mathlib.Core.Option.{none}
use Prim.Native.Nat.{ℕ, ◌+◌, ◌-◌, ◌≤◌, ◌<◌}
use native.Mathlib.Omega.{arith}
use lib.ListN.{length}
use Rattle.basics.specs.Search.{Each, first}
use Rattle.basics.specs.Replies.{Reply, refused, answered}
use Rattle.basics.proofs.Replies.{or_refuse-answered}
use Rattle.logic_programs.specs.Literals.{OneValue, none_or_both, bad_value}
use Rattle.logic_programs.specs.ValueFaults as faults
use Rattle.logic_programs.specs.ValueFaults.{ValueFault, value_fault, or_fault}
use Rattle.logic_programs.proofs.Values.{one-value-iff, neither-iff}
use Rattle.answer_set_theory.specs.Verdicts.{clash, passes}
use Rattle.answer_set_theory.specs.Answers as engine
use Rattle.action_language.specs.declared.Law.{Law}
use Rattle.action_language.specs.declared.Description.{Description}
use Rattle.action_language.specs.Laws.{with_horizon}
use Rattle.action_language.specs.Atoms.{atom_count, wrong_length}
use Rattle.action_language.specs.Acceptance.{bad_record, bad_horizon}
use Rattle.action_language.proofs.Laws.{accepted-horizon, horizon-taken, right-length}
use Rattle.translation_rules.specs.Translated.{Written, written, table_for, outcome, after_translation}
use Rattle.translation_rules.proofs.Outcomes.{written-accepted}
use Rattle.history_check.specs.Checks as history
use Rattle.causal_reading.specs.Verdicts.{path}
use Rattle.causal_reading.specs.Readings as causal
use Rattle.correctness.specs.Demand3.{Complete}
use Rattle.correctness.proofs.Demand3.{one-value-each}
use Rattle.cut_and_join.specs.Halves.{first_steps, later_steps, joined}
use Rattle.cut_and_join.proofs.Lists.{first-size, first-each, later-size, later-each, joined-size, joined-each}

-- The record with another horizon

module _ (d : Description) (ls : List Law) (lent : ℕ) where
  -- refusal 8 doesn't look at the horizon
  pub records-stay : (T : ℕ) → bad_record (with_horizon d T) ls lent ≡ bad_record d ls lent
  unfolding bad_record
  records-stay T = refl

  -- a description that is accepted stays so with any horizon from 1 to 30
  pub stays-accepted : (T : ℕ) → bad_record d ls lent ≡ none → 1 ≤ T → T ≤ 30
      → (bad_record (with_horizon d T) ls lent ≡ none) × (bad_horizon T ≡ none)
  stays-accepted T taken one few = (records-stay T ∙ taken, horizon-taken T one few)

  complete-with : (T : ℕ) (vs : List ℕ) → bad_record d ls lent ≡ none → 1 ≤ T → T ≤ 30
      → length vs ≡ atom_count d.fluents d.actions T → Each OneValue vs
      → Complete (with_horizon d T) ls lent vs
  complete-with T vs taken one few size each =
      let (records, horizon) = stays-accepted T taken one few in
      record { records = records; horizon = horizon; size = size; one_value = each }

  -- Halves and joins

  module _ (vs : List ℕ) (k : ℕ) (whole : Complete d ls lent vs) (one : 1 ≤ k) (inside : k < d.horizon) where
    in_two : length vs ≡ atom_count d.fluents d.actions (k + (d.horizon - k))
    in_two = let e : d.horizon ≡ k + (d.horizon - k) = omega arith in rw (← e) whole.size

    few : d.horizon ≤ 30
    few = (accepted-horizon d.horizon whole.horizon).1

    pub first-complete : Complete (with_horizon d k) ls lent (first_steps d.fluents d.actions k vs)
    first-complete =
        complete-with k (first_steps d.fluents d.actions k vs) whole.records one (omega (arith, few))
        (first-size d.fluents d.actions vs k (d.horizon - k) in_two)
        (first-each d.fluents d.actions OneValue vs k whole.one_value)

    pub later-complete : Complete (with_horizon d (d.horizon - k)) ls lent (later_steps d.fluents d.actions k vs)
    later-complete =
        complete-with (d.horizon - k) (later_steps d.fluents d.actions k vs) whole.records (omega arith) (omega (arith, few))
        (later-size d.fluents d.actions vs k (d.horizon - k) in_two)
        (later-each d.fluents d.actions OneValue vs k whole.one_value)

  pub joined-complete : (vs ws : List ℕ) (j k : ℕ) → Complete (with_horizon d j) ls lent vs
      → Complete (with_horizon d k) ls lent ws → j + k ≤ 30
      → Complete (with_horizon d (j + k)) ls lent (joined d.fluents vs ws)
  joined-complete vs ws j k first second few =
      complete-with (j + k) (joined d.fluents vs ws) (sym (records-stay j) ∙ first.records)
      (omega (arith, accepted-horizon j first.horizon)) few
      (joined-size d.fluents d.actions vs ws j k first.size second.size)
      (joined-each d.fluents d.actions OneValue vs ws first.one_value second.one_value)

-- What passes is complete

module _ (d : Description) (ls : List Law) (lent : ℕ) (vs : List ℕ) where
  -- a fault of an atom is no pass
  no-fault : (ws : List ℕ) → history.finding vs ws ≡ answered (history.judged passes) → first none_or_both 0 vs ≡ none
  no-fault ws e = (neither-iff vs).0 (go (value_fault vs) e)
    where
      go : (fault : ValueFault)
          → or_fault fault (λ a. answered (history.missing a)) (λ a. answered (history.judged (clash a)))
          (history.of_engine (engine.answer vs ws))
          ≡ answered (history.judged passes)
          → fault ≡ faults.neither
      go (faults.missing a) e = let z : ◌≡◌ {A = ℕ} 0 1 = cc in absurd (omega arith)
      go (faults.clash a) e = let z : ◌≡◌ {A = ℕ} 0 1 = cc in absurd (omega arith)
      go faults.neither e = refl

  pub history-complete : (room : ℕ) → history.checked d ls lent vs room ≡ answered (history.judged passes)
      → Complete d ls lent vs × (length (table_for d ls) ≤ room)
  unfolding history.checked
  history-complete room = go (outcome d ls lent room) refl
    where
      go : (o : Reply Written) → outcome d ls lent room ≡ o
          → after_translation o vs (history.finding vs (table_for d ls)) ≡ answered (history.judged passes)
          → Complete d ls lent vs × (length (table_for d ls) ≤ room)
      go (refused number place) is e = let z : ◌≡◌ {A = ℕ} 0 1 = cc in absurd (omega arith)
      go (answered (written a r w)) is e =
          let (right, later) = or_refuse-answered (wrong_length a (length vs)) 10 _ e in
          let (small, last) = or_refuse-answered (bad_value vs) 11 _ later in
          let accepted = written-accepted d ls lent room is in (
            record {
              records = accepted.taken;
              horizon = accepted.horizon;
              size = right-length a (length vs) right ∙ accepted.atoms;
              one_value = (one-value-iff vs small).0 (no-fault (table_for d ls) last);
            },
            accepted.room-enough,
          )

  pub causes-complete : causal.reading d ls lent vs ≡ answered path → Complete d ls lent vs
  unfolding causal.reading
  causes-complete e =
      let (taken, e₁) = or_refuse-answered (bad_record d ls lent) 8 _ e in
      let (horizon, e₂) = or_refuse-answered (bad_horizon d.horizon) 3 _ e₁ in
      let (right, e₃) = or_refuse-answered (wrong_length _ (length vs)) 10 _ e₂ in
      let (one, _) = or_refuse-answered (first causal.not_one_value 0 vs) 11 _ e₃ in
      record {
        records = taken;
        horizon = horizon;
        size = right-length _ (length vs) right;
        one_value = (one-value-each vs).0 one;
      }
