-- The causal verdict as it is computed (01, "The causal reading"), state by state. The old state and the new one are two
-- arguments throughout. A theorem joins it with Path.
-- Assumes nothing.
use Rattle.std.specs.Prelude.{not, List, ℕ, zero, suc}
use Rattle.basics.specs.Search.{first, range}
use Rattle.basics.specs.Replies.{or_else}
use Rattle.action_language.specs.declared.Law.{Law}
use Rattle.transitions.specs.Meaning.{Interpretation, state_at, action_at}
use Rattle.law_effects.specs.Applying.{applies_at_start, applies_in_step, literal_in, some_cause, contradicts}

pub data Causal : Type 0 where
  contradicted : ℕ → ℕ → Causal
  uncaused : ℕ → ℕ → Causal
  path : Causal

-- the verdict on one step, at resulting time t', and what comes next where it is explained
abbrev pub step_verdict : ℕ → List Law → Interpretation → Interpretation → Interpretation → ℕ → Causal → Causal
step_verdict n ls s a s' t' next =
    or_else (first (contradicts (applies_in_step n s a s') s') 0 ls) (contradicted t')
    (or_else (first (λ f. not (some_cause (applies_in_step n s a s') (literal_in s' f) ls)) 0 (range 0 n)) (uncaused t') next)

-- k steps from time t on
abbrev pub steps_from : ℕ → ℕ → List Law → List ℕ → ℕ → ℕ → Causal
steps_from n m ls vs t zero = path
steps_from n m ls vs t (suc k) =
    let next = steps_from n m ls vs (suc t) k in
    step_verdict n ls (state_at n m vs t) (action_at n m vs t) (state_at n m vs (suc t)) (suc t) next

unfoldable pub causal_verdict : ℕ → ℕ → ℕ → List Law → List ℕ → Causal
causal_verdict n m T ls vs =
    or_else (first (contradicts (applies_at_start (state_at n m vs 0)) (state_at n m vs 0)) 0 ls) (contradicted 0)
    (steps_from n m ls vs 0 T)
