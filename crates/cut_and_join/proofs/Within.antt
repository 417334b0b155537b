-- A history that lies within another from some time on: the same states and actions, so a part of a path is a path, and what is made
-- of two paths is one.
-- Assumes nothing.
use mathlib.Core.Path.{◌≡◌, ap, ◌∙◌}
use mathlib.Core.Logic.{◌↔◌, ⊎_elim}
use mathlib.Core.Bool.{true, false}
use mathlib.Core.List.{List}
use Prim.Native.Nat.{ℕ, suc, ◌+◌, ◌-◌, ◌*◌, ◌≤◌, ◌<◌}
use native.Mathlib.Omega.{arith}
use native.Mathlib.Nat.{mul-le-mul_right, add-mul, zero-add}
use lib.Dec.{eqb, ltb}
use lib.ListN.{get_or}
use borrow.Author.Tests.{ltb-true, ltb-false}
use Rattle.basics.proofs.Tests.{true-or-false}
use Rattle.action_language.specs.declared.Law.{Law}
use Rattle.action_language.specs.Atoms.{atom_count}
use Rattle.transitions.specs.Meaning.{Same, Explained, State, state_at, action_at, Path}
use Rattle.action_language.proofs.Laws.{AllFit}
use Rattle.correctness.proofs.Reading.{path-states}
use Rattle.cut_and_join.proofs.Agreeing.{agree-state, agree-explained}

-- ws is what vs holds for T steps from time k on
abbrev pub Within : ℕ → ℕ → ℕ → ℕ → List ℕ → List ℕ → Type 0
Within n m k T vs ws = (i : ℕ) → i < atom_count n m T → get_or vs (k * (n + m) + i) 0 ≡ get_or ws i 0

abbrev StepAt : ℕ → ℕ → List Law → List ℕ → ℕ → Type 0
StepAt n m ls vs t = Explained n ls (state_at n m vs t) (action_at n m vs t) (state_at n m vs (suc t))

module _ (n m k T : ℕ) (vs ws : List ℕ) (within : Within n m k T vs ws) where
  -- the atom of a time, counted from time k
  later : (t i : ℕ) → (k + t) * (n + m) + i ≡ k * (n + m) + (t * (n + m) + i)
  later t i = rw (add-mul k t (n + m)) (omega arith)

  states : (t : ℕ) → t ≤ T → Same n (state_at n m vs (k + t)) (state_at n m ws t)
  states t b f low =
      ap (λ (v : ℕ). eqb v 1)
      (ap (λ (i : ℕ). get_or vs i 0) (later t f) ∙ within (t * (n + m) + f) (omega (arith, mul-le-mul_right (n + m) b)))

  acts : (t : ℕ) → t < T → Same m (action_at n m vs (k + t)) (action_at n m ws t)
  acts t b f low =
      ap (λ (v : ℕ). eqb v 1)
      (ap (λ (i : ℕ). get_or vs i 0) place ∙ within (t * (n + m) + n + f) (omega (arith, mul-le-mul_right (n + m) b)))
    where
      place : (k + t) * (n + m) + n + f ≡ k * (n + m) + (t * (n + m) + n + f)
      place = omega (arith, later t (n + f))

  results : (t : ℕ) → t < T → Same n (state_at n m vs (suc (k + t))) (state_at n m ws (suc t))
  results t b = let e : suc (k + t) ≡ k + suc t = omega arith in rw e (states (suc t) b)

  module _ (ls : List Law) (fit : AllFit n m ls) where
    start-iff : State ls (state_at n m vs (k + 0)) ↔ State ls (state_at n m ws 0)
    start-iff = agree-state n m (state_at n m vs (k + 0)) (state_at n m ws 0) (states 0 (omega arith)) ls fit

    -- a step of the part is one of the whole
    step-iff : (t : ℕ) → t < T → StepAt n m ls vs (k + t) ↔ StepAt n m ls ws t
    step-iff t low =
        agree-explained n m (state_at n m vs (k + t)) (state_at n m ws t) (action_at n m vs (k + t)) (action_at n m ws t)
        (state_at n m vs (suc (k + t))) (state_at n m ws (suc t)) (states t (omega arith)) (acts t low) (results t low) ls fit

    -- a part of a path is a path: its first state satisfies the static laws, as every state of a path does
    pub path-part : (U : ℕ) → k + T ≤ U → Path n m U ls vs → Path n m T ls ws
    path-part U b h = record {
      start = start-iff.0 (path-states n m U ls vs h (k + 0) (omega arith));
      steps = λ t low. (step-iff t low).0 (h.steps (k + t) (omega arith));
    }

-- a history whose first j steps are one path and whose k steps behind them are another is a path
pub path-whole : (n m j k : ℕ) (us vs ws : List ℕ) → Within n m 0 j us vs → Within n m j k us ws → (ls : List Law) → AllFit n m ls
    → Path n m j ls vs → Path n m k ls ws → Path n m (j + k) ls us
path-whole n m j k us vs ws front back ls fit first second = record {
  start = (start-iff n m 0 j us vs front ls fit).1 first.start;
  steps =
      λ t b. ⊎_elim (λ (e : ltb t j ≡ true). before t (ltb-true t j e))
      (λ (e : ltb t j ≡ false). behind t b (ltb-false t j e)) (true-or-false (ltb t j));
}
  where
    before : (t : ℕ) → t < j → StepAt n m ls us t
    before t b = rw (zero-add t) at ((step-iff n m 0 j us vs front ls fit t b).1 (first.steps t b))

    behind : (t : ℕ) → t < j + k → j ≤ t → StepAt n m ls us t
    behind t b low =
        let e : j + (t - j) ≡ t = omega arith in
        rw e at ((step-iff n m j k us ws back ls fit (t - j) (omega arith)).1 (second.steps (t - j) (omega arith)))
