-- The answer, from what the tests say.
-- Assumes nothing.
use mathlib.Core.Path.{◌≡◌}
use mathlib.Core.List.{List}
use mathlib.Core.Option.{none, some}
use Prim.Native.Nat.{ℕ, ◌≤◌}
use lib.ListN.{length}
use Rattle.basics.specs.Replies.{Reply, refused, answered, or_refuse}
use Rattle.logic_programs.specs.Words.{bad_rule}
use Rattle.rule_tables.specs.Acceptance.{tested, Accepted}
use Rattle.rule_tables.specs.Internal.{Sound}
use Rattle.rule_tables.proofs.Testing.{few-values, still-refused, accepts, comes-next}
use Rattle.rule_tables.proofs.Walking.{accepted-sound}
use Rattle.completion_theory.specs.Findings.{FormulaFinding, formula_finding}
use Rattle.completion_theory.specs.LevelLists.{bad_levels}
use Rattle.completion_theory.specs.Answers.{answer, answer_by_levels}

module _ (vs ws : List ℕ) where
  pub says-refused : {number place : ℕ} → refused number place ≡ tested vs ws → refused number place ≡ answer vs ws
  unfolding answer
  says-refused e = still-refused vs ws (answered (formula_finding vs ws)) e

  pub says-found : Accepted vs ws → answered (formula_finding vs ws) ≡ answer vs ws
  unfolding answer
  says-found accepted = comes-next vs ws (answered (formula_finding vs ws)) accepted

  module _ (levels : List ℕ) where
    abbrev levelled : Reply FormulaFinding
    levelled = or_refuse (bad_levels (length vs) ws levels) 13 (answered (formula_finding vs ws))

    pub says-tested : {number place : ℕ} → refused number place ≡ tested vs ws → refused number place ≡ answer_by_levels vs ws levels
    unfolding answer_by_levels
    says-tested e = still-refused vs ws levelled e

    pub says-13 : Accepted vs ws → {k : ℕ} → bad_levels (length vs) ws levels ≡ some k → refused 13 k ≡ answer_by_levels vs ws levels
    unfolding answer_by_levels
    says-13 accepted e = rw (← comes-next vs ws levelled accepted, e)

    pub says-levelled : Accepted vs ws → bad_levels (length vs) ws levels ≡ none
        → answered (formula_finding vs ws) ≡ answer_by_levels vs ws levels
    unfolding answer_by_levels
    says-levelled accepted e = rw (← comes-next vs ws levelled accepted, e)

  -- what the functions behind the tests need
  pub judge-ready : answered tt ≡ tested vs ws → (length vs ≤ 1024) × (bad_rule (length vs) ws ≡ none)
  judge-ready e = let accepted = accepts vs ws e in (few-values vs accepted.0, accepted.2)

  pub levels-ready : answered tt ≡ tested vs ws → (length vs ≤ 1024) × Sound ws
  levels-ready e =
      let ready = judge-ready e in
      (ready.0, accepted-sound (length vs) ws ready.0 ready.1)
