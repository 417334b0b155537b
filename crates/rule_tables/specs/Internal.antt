-- Internal: what functions that go through a table rule by rule need of it. No public promise rests on it; a reader may pass it
-- over.
-- Assumes nothing.
use Rattle.std.specs.Prelude.{◌≡◌, List, ℕ, ◌≤◌, length}
use Rattle.std.proofs.Math.Option.{none}
use Rattle.logic_programs.specs.Words.{bad_rule_in}

-- words of whole rules, with codes for at most 1,024 atoms
pub record Sound (ws : List ℕ) : Type 0 where
  pub atoms : ℕ
  pub few : atoms ≤ 1024
  pub before : ℕ
  pub at : ℕ
  pub fits : bad_rule_in (length ws) atoms before at ws ≡ none
