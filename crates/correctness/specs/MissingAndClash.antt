-- Values 0 and 3 are answered alike by the history check and by the completion formulas (02, §4 and §5): on the same words each says
-- missing, or clash, of the lowest atom that has no value or both.
-- Assumes nothing.
use Rattle.std.specs.Prelude.{◌≡◌, ◌↔◌, List, ℕ, length}
use Rattle.basics.specs.Search.{Lowest}
use Rattle.basics.specs.Replies.{Reply, answered}
use Rattle.answer_set_theory.specs.Verdicts.{clash}
use Rattle.rule_tables.specs.Acceptance.{Accepted}
use Rattle.completion_theory.specs.Findings as formulas
use Rattle.completion_theory.specs.Answers as completion
use Rattle.logic_programs.specs.Literals.{NoValue, BothValues, NoneOrBoth}
use Rattle.history_check.specs.Checks as history

-- what a history check's reply says of the values alone: missing or clash exactly at the lowest atom that has no value or both
pub record ByValues (vs : List ℕ) (reply : Reply history.Finding) : Type 0 where
  pub missing-exactly : (a : ℕ) → reply ≡ answered (history.missing a) ↔ (Lowest (NoneOrBoth vs) (length vs) a × NoValue vs a)
  pub clash-exactly : (a : ℕ) → reply ≡ answered (history.judged (clash a)) ↔ (Lowest (NoneOrBoth vs) (length vs) a × BothValues vs a)

pub record SameFirst (vs ws : List ℕ) : Type 0 where
  -- what the history check says
  pub by_values : ByValues vs (history.finding vs ws)
  -- the completion formulas say the same
  pub missing-same : (a : ℕ) → completion.answer vs ws ≡ answered (formulas.missing a)
      ↔ history.finding vs ws ≡ answered (history.missing a)
  pub clash-same : (a : ℕ) → completion.answer vs ws ≡ answered (formulas.clash a)
      ↔ history.finding vs ws ≡ answered (history.judged (clash a))

abbrev pub MissingAndClash : Type 0
MissingAndClash = (vs ws : List ℕ) → Accepted vs ws → SameFirst vs ws
