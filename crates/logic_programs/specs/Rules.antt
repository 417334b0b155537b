-- Rules and programs (000, section 3): Head ← L1, .., Lm, not Lm+1, .., not Ln.
-- Assumes nothing.
use Rattle.std.specs.Prelude.{List, ℕ}

-- a literal, or the symbol ⊥ of a constraint
pub data Head : Type 0 where
  lit : ℕ → Head
  falsum : Head

-- plain parts are L1 to Lm, negated parts Lm+1 to Ln
pub record Rule : Type 0 where
  pub head : Head
  pub negated : List ℕ
  pub plain : List ℕ
