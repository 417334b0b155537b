-- The verdict on steps, taken apart into the fault of each and what comes next.
-- Assumes nothing.
use mathlib.Core.Path.{◌≡◌, refl, sym, ◌∙◌, ap}
use mathlib.Core.List.{List}
use mathlib.Core.Option.{Option, none, some}
use Prim.Native.Nat.{ℕ, suc, ◌+◌, ◌-◌, ◌<◌, ◌≤◌}
use native.Mathlib.Numerals.{add-one}
use native.Mathlib.Omega.{arith}
use Rattle.basics.specs.Search.{first, range}
use Rattle.basics.specs.Replies.{or_else}
use Rattle.action_language.specs.declared.Law.{Law}
use Rattle.transitions.specs.Meaning.{Interpretation, state_at, action_at}
use Rattle.causal_reading.specs.Verdicts.{Causal, contradicted, uncaused, path, step_verdict, steps_from}
use Rattle.causal_reading.specs.declared.Reading.{Reading}
use Rattle.causal_reading.specs.declared.Reading.TheVariants.{Contradicted, Uncaused, Path}
use Rattle.causal_reading.specs.Readings.{verdict_of}

-- a verdict's fault, else what the next one says
abbrev first_fault : Causal → Causal → Causal
first_fault (contradicted time law) next = contradicted time law
first_fault (uncaused time fluent) next = uncaused time fluent
first_fault path next = next

-- a verdict that is a fault
pub kept : (r : Reading) → (r ≡ Path → ⊥) → (x y : Causal) → verdict_of r ≡ x → verdict_of r ≡ first_fault x y
kept (Contradicted time law) h x y e = rw (← e)
kept (Uncaused time fluent) h x y e = rw (← e)
kept Path h x y e = absurd (h refl)

-- a step is explained, or its fault comes before all later ones
pub then-step : (n : ℕ) (ls : List Law) (s a s' : Interpretation) (time : ℕ) (next : Causal)
    → first_fault (step_verdict n ls s a s' time path) next ≡ step_verdict n ls s a s' time next
then-step n ls s a s' time next = go (first _ 0 ls) (first _ 0 (range 0 n))
  where
    go : (law fluent : Option ℕ)
        → first_fault (or_else law (contradicted time) (or_else fluent (uncaused time) path)) next
        ≡ or_else law (contradicted time) (or_else fluent (uncaused time) next)
    go (some law) fluent = refl
    go none (some fluent) = refl
    go none none = refl

-- a loop over the steps: R is what the whole loop is to find
module _ (n m : ℕ) (ls : List Law) (vs : List ℕ) (t T : ℕ) where
  -- the step from time t
  abbrev here : Causal
  here = step_verdict n ls (state_at n m vs t) (action_at n m vs t) (state_at n m vs (suc t)) (suc t) path

  -- the steps from time t on are this one and those behind it
  steps-cons : t < T → steps_from n m ls vs t (T - t) ≡ first_fault here (steps_from n m ls vs (suc t) (T - suc t))
  steps-cons h =
      let left : T - t ≡ suc (T - suc t) = omega arith in
      rw left
      (sym (then-step n ls (state_at n m vs t) (action_at n m vs t) (state_at n m vs (suc t)) (suc t)
      (steps_from n m ls vs (suc t) (T - suc t))))

  module _ {R : Causal} where
    pub steps-stop : (r : Reading) → t < T → steps_from n m ls vs t (T - t) ≡ R → (r ≡ Path → ⊥)
        → verdict_of r ≡ here → verdict_of r ≡ R
    steps-stop r h inv fault e = kept r fault here _ e ∙ sym (steps-cons h) ∙ inv

    pub steps-go : (r : Reading) → t < T → steps_from n m ls vs t (T - t) ≡ R → r ≡ Path → verdict_of r ≡ here
        → steps_from n m ls vs (t + 1) (T - (t + 1)) ≡ R
    steps-go r h inv told e =
        let rest = steps_from n m ls vs (suc t) (T - suc t) in
        rw (add-one t) (ap (λ x. first_fault x rest) (sym (ap verdict_of told) ∙ e) ∙ sym (steps-cons h) ∙ inv)

-- where no step is left
module _ (n m : ℕ) (ls : List Law) (vs : List ℕ) (t T : ℕ) where
  module _ {R : Causal} where
    pub steps-done : T ≤ t → steps_from n m ls vs t (T - t) ≡ R → path ≡ R
    steps-done h inv = let none_left : T - t ≡ 0 = omega arith in rw none_left at inv
