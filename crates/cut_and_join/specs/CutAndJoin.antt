-- Cutting and joining (02, §6), for every description with its horizon left open: a passed history of T steps, cut after k steps with k
-- from 1 to T - 1, gives two passed histories; and two passed ones, the last state of the first equal to the first state of the
-- second and at most 30 steps together, join into a passed one.
-- Assumes nothing.
use Rattle.std.specs.Prelude.{◌≡◌, List, ℕ, ◌+◌, ◌-◌, ◌≤◌, ◌<◌, length}
use Rattle.basics.specs.Replies.{answered}
use Rattle.answer_set_theory.specs.Verdicts.{passes}
use Rattle.action_language.specs.declared.Law.{Law}
use Rattle.action_language.specs.declared.Description.{Description}
use Rattle.action_language.specs.Laws.{with_horizon}
use Rattle.action_language.specs.Atoms.{atom_count}
use Rattle.translation_rules.specs.Translated.{table_for}
use Rattle.history_check.specs.Checks as history
use Rattle.causal_reading.specs.Verdicts.{path}
use Rattle.causal_reading.specs.Readings as causal
use Rattle.correctness.specs.Demand3.{Complete}
use Rattle.cut_and_join.specs.Halves.{first_steps, later_steps, last_state, first_state, joined}
use Rattle.cut_and_join.specs.Passing.{Criterion, by_path, by_answer_set, by_engine, by_formulas, by_history, by_causes, Passed}

-- what is said of each reading, of a description and laws of which some number is lent
pub record ForReading (Passes : Criterion) (d : Description) (ls : List Law) (lent : ℕ) : Type 0 where
  -- a passed history, cut after k steps, gives two
  pub cut : (vs : List ℕ) (k : ℕ) → Passed Passes d ls lent vs → 1 ≤ k → k < d.horizon
      → Passed Passes (with_horizon d k) ls lent (first_steps d.fluents d.actions k vs)
      × Passed Passes (with_horizon d (d.horizon - k)) ls lent (later_steps d.fluents d.actions k vs)
  -- two passed ones that meet in one state join into one
  pub join : (vs ws : List ℕ) (j k : ℕ) → Passed Passes (with_horizon d j) ls lent vs → Passed Passes (with_horizon d k) ls lent ws
      → last_state d.fluents vs ≡ first_state d.fluents ws → j + k ≤ 30
      → Passed Passes (with_horizon d (j + k)) ls lent (joined d.fluents vs ws)
  -- one table that is long enough tells of all
  pub told : (vs table : List ℕ) → Complete d ls lent vs → length (table_for d ls) ≤ length table → Passes d ls lent vs table
      → Passed Passes d ls lent vs

-- cutting and joining undo each other, on values over n fluents and m actions
pub record EachUndoesTheOther (n m : ℕ) : Type 0 where
  -- the halves of a cut join, and give the values back
  pub halves-meet : (vs : List ℕ) (T k : ℕ) → length vs ≡ atom_count n m T → k ≤ T
      → last_state n (first_steps n m k vs) ≡ first_state n (later_steps n m k vs)
  pub joined-again : (vs : List ℕ) (k : ℕ) → joined n (first_steps n m k vs) (later_steps n m k vs) ≡ vs
  -- a join, cut where it was joined, gives its halves
  pub cut_again : (vs ws : List ℕ) (j k : ℕ) → length vs ≡ atom_count n m j → length ws ≡ atom_count n m k
      → last_state n vs ≡ first_state n ws
      → (first_steps n m j (joined n vs ws) ≡ vs) × (later_steps n m j (joined n vs ws) ≡ ws)

-- of the path and of each of demand 3's readings
pub record CutAndJoin (d : Description) (ls : List Law) (lent : ℕ) : Type 0 where
  pub by-path : ForReading by_path d ls lent
  pub by-answer-set : ForReading by_answer_set d ls lent
  pub by-engine : ForReading by_engine d ls lent
  pub by-formulas : ForReading by_formulas d ls lent
  pub by-history : ForReading by_history d ls lent
  pub by-causes : ForReading by_causes d ls lent
  pub undo : EachUndoesTheOther d.fluents d.actions
  -- whoever is told so by the history check, or by the causal reading, need ask nothing else
  pub history-told : (vs : List ℕ) (room : ℕ) → history.checked d ls lent vs room ≡ answered (history.judged passes)
      → Passed by_history d ls lent vs
  pub causes-told : (vs : List ℕ) → causal.reading d ls lent vs ≡ answered path → Passed by_causes d ls lent vs
  -- a table that is long enough for the whole is so for each half
  pub room-enough : (k : ℕ) → k ≤ d.horizon → length (table_for (with_horizon d k) ls) ≤ length (table_for d ls)

-- for all descriptions, law runs and numbers lent
abbrev pub CuttingAndJoining : Type 0
CuttingAndJoining = (d : Description) (ls : List Law) (lent : ℕ) → CutAndJoin d ls lent
