-- The first state read from all the values; the verdict on a step whose states and actions are given otherwise.
-- Assumes nothing.
use mathlib.Core.Path.{◌≡◌, sym, ◌∙◌, ap, fun_ext}
use mathlib.Core.List.{List}
use Prim.Native.Nat.{ℕ, ◌+◌, suc, ◌*◌, ◌≤◌, ◌<◌}
use native.Mathlib.Nat.{zero-mul, zero-add, suc-mul, mul-le-mul_right}
use lib.Dec.{eqb}
use lib.ListN.{get_or}
use Rattle.basics.specs.Search.{first}
use Rattle.action_language.specs.declared.Law.{Law}
use Rattle.transitions.specs.Meaning.{Interpretation, state_at}
use Rattle.law_effects.specs.Applying.{read, applies_at_start, contradicts}
use Rattle.causal_reading.specs.Verdicts.{path, step_verdict}
use native.Mathlib.Omega.{arith}
use Rattle.action_language.specs.Atoms.{atom_count}

start-state : (n m : ℕ) (vs : List ℕ) → read vs ≡ state_at n m vs 0
start-state n m vs = fun_ext (λ i. ap (λ k. eqb (get_or vs k 0) 1) (sym (ap (λ z. z + i) (zero-mul (n + m)) ∙ zero-add i)))

-- the lowest law that the first state breaks
pub first_at_start : (n m : ℕ) (vs : List ℕ) (ls : List Law) → let s = state_at n m vs 0 in
    first (contradicts (applies_at_start (read vs)) (read vs)) 0 ls ≡ first (contradicts (applies_at_start s) s) 0 ls
first_at_start n m vs ls = rw (start-state n m vs)

pub same-verdict : (ls : List Law) {n N : ℕ} {s S a A s' S' : Interpretation} {t u : ℕ} → n ≡ N → s ≡ S → a ≡ A → s' ≡ S' → t ≡ u
    → step_verdict n ls s a s' t path ≡ step_verdict N ls S A S' u path
same-verdict ls fluents old done new time = rw (fluents, old, done, new, time)

-- the three parts of a step lie within the values
pub step-within : (n m t T : ℕ) → t < T → t * (n + m) + n + m ≤ atom_count n m T
step-within n m t T h = omega (arith, suc-mul t (n + m), mul-le-mul_right {m = suc t} {n = T} (n + m) h)
