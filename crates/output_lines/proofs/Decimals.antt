-- The fewest decimal digits of a machine number are those of its decimal.
-- Assumes nothing.
use mathlib.Core.Path.{◌≡◌, refl, ap, subst}
use mathlib.Core.Bool.{Bool, true, false}
use Prim.Native.Nat.{ℕ, zero, suc, ◌*◌, ◌-◌, ◌/◌, ◌^◌, ◌≤◌, ◌<◌}
use native.Mathlib.Nat.{pow-suc, div-lt_iff_lt-mul, le-div_iff_mul-le}
use native.Mathlib.Omega.{arith}
use native.Mathlib.Numerals.{sub-one}
use borrow.Author.Tests.{lt-ltb, le-ltb, ltb-true, ltb-false}
use lib.Dec.{ltb, lit<}
use lib.Pow.{pow-add}
use Rattle.io.specs.Digits.{last_digits, IsDigitCount}
use Rattle.printed_lines.specs.Writing.{places_in, decimal}

pub pow-ten : (k : ℕ) → 1 ≤ 10 ^ k
pow-ten zero = omega arith
pow-ten (suc k) = omega (arith, pow-suc 10 k, pow-ten k)

-- a number of k + 1 digits, where the fuel is at least k
pub places-fewest : (fuel k n : ℕ) → k ≤ fuel → n < 10 ^ suc k → (1 ≤ k → 10 ^ k ≤ n) → places_in fuel n ≡ suc k
places-fewest zero zero n h small large = refl
places-fewest zero (suc k) n h small large = absurd (omega arith)
places-fewest (suc fuel) zero n h small large = rw (lt-ltb n 10 small)
places-fewest (suc fuel) (suc k) n h small large =
    let many : 10 ^ k * 10 ≤ n = rw (pow-suc 10 k) at (large (omega arith)) in
    rw (le-ltb n 10 (omega (arith, pow-ten k)))
    (ap suc
    (places-fewest fuel k (n / 10) (omega arith)
    ((div-lt_iff_lt-mul (lit< tt)).1 (rw (pow-suc 10 (suc k)) at small)) (λ _. (le-div_iff_mul-le (lit< tt)).1 many)))

-- a machine number has at most 20 digits
pub few-digits : (n k : ℕ) → n < 2 ^ 64 → IsDigitCount 10 1 n k → k ≤ 20
few-digits n k h f = either (ltb 20 k) refl
  where
    either : (b : Bool) → ltb 20 k ≡ b → k ≤ 20
    either false e = ltb-false 20 k e
    either true e =
        let many = ltb-true 20 k e in
        let large : 10 ^ 20 * 10 ^ (k - 21) ≤ n =
        rw (← pow-add 10 20 (k - 21)) (subst (λ m. 10 ^ m ≤ n) (omega arith) (f.2 (omega arith))) in
        absurd (omega (arith, pow-ten (k - 21)))

pub fewest-decimal : (n k : ℕ) → n < 2 ^ 64 → IsDigitCount 10 1 n k → last_digits 10 k n ≡ decimal n
unfolding decimal
fewest-decimal n zero h f = absurd (omega (arith, f.0))
fewest-decimal n (suc j) h f =
    rw (places-fewest 19 j n (omega (arith, few-digits n (suc j) h f)) f.1 (λ more. rw (sub-one (suc j)) at (f.2 (omega arith)))) refl
