-- Complementary literals.
-- Assumes nothing.
use mathlib.Core.Path.{◌≡◌}
use Prim.Native.Nat.{ℕ, ◌+◌, ◌*◌, ◌-◌, ◌%◌, ◌<◌}
use native.Mathlib.Omega.{arith}
use Rattle.basics.proofs.Parity.{by-parity}
use Rattle.logic_programs.specs.Literals.{complement}

pub complement-even : (a : ℕ) → complement (2 * a) ≡ 2 * a + 1
unfolding complement
complement-even a = let even : (2 * a) % 2 ≡ 0 = omega arith in rw even

pub complement-odd : (a : ℕ) → complement (2 * a + 1) ≡ 2 * a
unfolding complement
complement-odd a =
    let odd : (2 * a + 1) % 2 ≡ 1 = omega arith in
    let before : 2 * a + 1 - 1 ≡ 2 * a = omega arith in
    rw (odd, before)

pub complement-below : (n c : ℕ) → c < 2 * n → complement c < 2 * n
complement-below n =
    by-parity (λ c. c < 2 * n → complement c < 2 * n) (λ a h. rw complement-even (omega arith)) (λ a h. rw complement-odd (omega arith))
