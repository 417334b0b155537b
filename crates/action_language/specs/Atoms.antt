-- Atom numbers (01, "Atoms and values"), over n fluents and m actions.
-- Assumes nothing.
use Rattle.std.specs.Prelude.{cond, ◌&&◌, ℕ, ◌+◌, ◌*◌, eqb, leb}
use Rattle.std.proofs.Math.Option.{Option, none, some}

-- fluent f at time t, for t from 0 to T
abbrev pub fluent_atom : ℕ → ℕ → ℕ → ℕ → ℕ
fluent_atom n m t f = t * (n + m) + f

-- action k at time t, for t below T
abbrev pub action_atom : ℕ → ℕ → ℕ → ℕ → ℕ
action_atom n m t k = t * (n + m) + n + k

-- how many atoms there are for horizon T
abbrev pub atom_count : ℕ → ℕ → ℕ → ℕ
atom_count n m T = T * (n + m) + n

-- how many there are within the limits, and 0 past one of them
unfoldable pub atoms_within : ℕ → ℕ → ℕ → ℕ
atoms_within n m T = cond (leb n 24 && leb m 8 && leb T 30) (atom_count n m T) 0

-- refusal 10 of a history: not as many values as atoms, place their number
abbrev pub wrong_length : ℕ → ℕ → Option ℕ
wrong_length atoms count = cond (eqb count atoms) none (some count)
