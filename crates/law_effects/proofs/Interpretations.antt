-- A state, to which no actions belong, as an interpretation of all atoms.
-- Assumes nothing.
use mathlib.Core.Path.{◌≡◌, fun_ext}
use native.Mathlib.Nat.{sub-zero}
use native.Mathlib.Omega.{arith}
use borrow.Author.Tests.{le-ltb}
use Rattle.transitions.specs.Meaning.{Interpretation, together}

-- a state alone, with no actions beside it
pub alone : (s : Interpretation) → together 0 s s ≡ s
alone s = fun_ext (λ i. rw (le-ltb i 0 (omega arith), sub-zero i))
