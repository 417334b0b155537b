-- Literal codes and the interpretations that satisfy them.
-- Assumes nothing.
use mathlib.Core.Path.{◌≡◌}
use mathlib.Core.Bool.{not}
use Prim.Native.Nat.{ℕ, ◌+◌, ◌*◌, ◌/◌, ◌%◌}
use native.Mathlib.Omega.{arith}
use Rattle.transitions.specs.Meaning.{Interpretation, satisfies}

pub satisfies-even : (I : Interpretation) (f : ℕ) → satisfies I (2 * f) ≡ I f
satisfies-even I f =
    let even : (2 * f) % 2 ≡ 0 = omega arith in
    let half : (2 * f) / 2 ≡ f = omega arith in
    rw (even, half)

pub satisfies-odd : (I : Interpretation) (f : ℕ) → satisfies I (2 * f + 1) ≡ not (I f)
satisfies-odd I f =
    let odd : (2 * f + 1) % 2 ≡ 1 = omega arith in
    let half : (2 * f + 1) / 2 ≡ f = omega arith in
    rw (odd, half)
