-- A history cut after k steps, and two histories joined (02, §6), as values over n fluents and m actions. The state where a history is
-- cut belongs to both halves.
-- Assumes nothing.
use Rattle.std.specs.Prelude.{List, ◌++◌, ℕ, ◌+◌, ◌-◌, ◌*◌, length, take, drop}

-- the first k steps: up to the state at time k
abbrev pub first_steps : ℕ → ℕ → ℕ → List ℕ → List ℕ
first_steps n m k vs = take (k * (n + m) + n) vs

-- the steps behind them: from the state at time k on
abbrev pub later_steps : ℕ → ℕ → ℕ → List ℕ → List ℕ
later_steps n m k vs = drop (k * (n + m)) vs

-- the last state and the first
abbrev pub last_state : ℕ → List ℕ → List ℕ
last_state n vs = drop (length vs - n) vs

abbrev pub first_state : ℕ → List ℕ → List ℕ
first_state n vs = take n vs

-- the first history, then the second without its first state
abbrev pub joined : ℕ → List ℕ → List ℕ → List ℕ
joined n vs ws = vs ++ drop n ws
