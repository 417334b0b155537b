-- Internal: what a writer stores. No public promise rests on it; a reader may pass it over.
-- Assumes nothing.
use Rattle.std.specs.Prelude.{◌≡◌, List, ℕ, ◌+◌, length}
use Rattle.std.proofs.lemmas.List.Edits.{sets}
use Rattle.translation.specs.declared.writers.Writer.{Writer}

-- words are stored from its place on, and it stands behind them
pub record Wrote (ws : List ℕ) (old new : Writer) : Type 0 where
  pub same_table : new.table.ghost_name ≡ old.table.ghost_name
  pub behind : new.at ≡ old.at + length ws
  pub stored : new.table.now ≡ sets old.table.now old.at ws
