-- A number is twice another, or one more: the two literals of an atom.
-- Assumes nothing.
use mathlib.Core.Path.{◌≡◌}
use mathlib.Core.Logic.{◌⊎◌, inl, inr, ⊎_elim}
use Prim.Native.Nat.{ℕ, ◌+◌, ◌*◌, ◌/◌, ◌%◌}
use native.Mathlib.Omega.{arith}
use borrow.Author.Tests.{eqb-true, eqb-false}
use lib.Dec.{eqb}
use Rattle.basics.proofs.Tests.{true-or-false}

pub even-or-odd : (c : ℕ) → (c ≡ 2 * (c / 2)) ⊎ (c ≡ 2 * (c / 2) + 1)
even-or-odd c =
    ⊎_elim (λ t. inl (omega (arith, eqb-true (c % 2) 0 t))) (λ f. inr (omega (arith, eqb-false (c % 2) 0 f)))
    (true-or-false (eqb (c % 2) 0))

pub by-parity : (P : ℕ → Type 0) → ((a : ℕ) → P (2 * a)) → ((a : ℕ) → P (2 * a + 1)) → (c : ℕ) → P c
by-parity P even odd c =
    ⊎_elim (λ (e : c ≡ 2 * (c / 2)). rw e (even (c / 2))) (λ (e : c ≡ 2 * (c / 2) + 1). rw e (odd (c / 2))) (even-or-odd c)
