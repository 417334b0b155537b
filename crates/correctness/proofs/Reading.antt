-- The causal verdict is path exactly for the paths of causally explained transitions.
-- Assumes nothing.
use mathlib.Core.Path.{◌≡◌, refl}
use mathlib.Core.Logic.Iff
use mathlib.Core.Logic.{◌↔◌, ⊎_elim}
use mathlib.Core.Bool.{Bool, true, false, not, ◌&&◌, ◌||◌}
use mathlib.Core.List.{List}
use mathlib.Core.Option.{Option, none, some}
use Prim.Native.Nat.{ℕ, zero, suc, ◌+◌, ◌≤◌, ◌<◌}
use native.Mathlib.Omega.{arith}
use lib.Dec.{ltb}
use borrow.Author.Tests.{ltb-true, ltb-false}
use Rattle.basics.specs.Search.{first, range}
use Rattle.basics.proofs.Tests.{true-or-false, not-both, true_of_not, not_iff, each_map, range-nowhere}
use Rattle.basics.proofs.Lists.{each-iff, none-iff}
use Rattle.action_language.specs.declared.Kind.{Kind}
use Rattle.action_language.specs.declared.Kind.TheVariants.{Static, Dynamic}
use Rattle.action_language.specs.declared.Law.{Law}
use Rattle.action_language.specs.Laws.{is_static, if_list, after_list}
use Rattle.transitions.specs.Meaning.{Interpretation, holds, satisfies_head, together, Explained, SatisfiesStatic}
use Rattle.transitions.specs.Meaning.{State, state_at, action_at, Path}
use Rattle.basics.specs.Replies.{or_else}
use Rattle.law_effects.specs.Applying.{applies_at_start, applies_in_step, literal_in, some_cause, contradicts}
use Rattle.causal_reading.specs.Verdicts.{Causal, contradicted, uncaused, path, step_verdict, steps_from, causal_verdict}
use Rattle.causal_steps.proofs.CausedHeads.{Heads, caused-iff}
use Rattle.correctness.proofs.Explained.{explained-iff}

-- What a reading finds, law by law

-- whenever a law applies, its head holds in s
abbrev pub Obeyed : Interpretation → (Law → Bool) → List Law → Type 0
Obeyed s applies ls = Heads (λ h. satisfies_head s h ≡ true) applies ls

-- some law that applies has the literal of each fluent in s as its head
abbrev pub Supplied : ℕ → Interpretation → (Law → Bool) → List Law → Type 0
Supplied n s applies ls = (f : ℕ) → f < n → some_cause applies (literal_in s f) ls ≡ true

state-iff : (s : Interpretation) (ls : List Law) → State ls s ↔ Obeyed s (applies_at_start s) ls
state-iff s ls = each-iff (λ l. law l.kind l) ls
  where
    law : (k : Kind) (l : Law) → SatisfiesStatic s k l ↔ ((is_static k && holds s (if_list l)) ≡ true → satisfies_head s l.head ≡ true)
    law Static l = (λ h. h, λ h. h)
    law Dynamic l = (λ h e. absurd (not-both e refl), λ h. tt)

module _ (n : ℕ) (s a s' : Interpretation) where
  -- a static law that applies in the resulting state applies in the step
  applies-later : (l : Law) → applies_at_start s' l ≡ true → applies_in_step n s a s' l ≡ true
  applies-later l = go (is_static l.kind) (holds s' (if_list l)) (holds (together n s a) (after_list l))
    where
      go : (static if' after : Bool) → (static && if') ≡ true → (if' && (static || after)) ≡ true
      go true true after e = refl
      go true false after e = e
      go false if' after e = absurd (not-both e refl)

  -- so the resulting state satisfies the static laws: these are caused
  result-state : (ls : List Law) → Obeyed s' (applies_in_step n s a s') ls → State ls s'
  result-state ls h = (state-iff s' ls).1 (each_map (λ l obeyed e. obeyed (applies-later l e)) ls h)

  step-iff : (ls : List Law) → Explained n ls s a s'
      ↔ (Obeyed s' (applies_in_step n s a s') ls × Supplied n s' (applies_in_step n s a s') ls)
  step-iff ls =
      Iff.trans (explained-iff n s a s' ls)
      (Iff.and (caused-iff n s a s' (λ h. satisfies_head s' h ≡ true) ls) (λ h. h, λ h. h))

-- Paths, law by law

-- which laws apply in the step from time t
abbrev pub in_step : ℕ → ℕ → List ℕ → ℕ → Law → Bool
in_step n m vs t = applies_in_step n (state_at n m vs t) (action_at n m vs t) (state_at n m vs (suc t))

-- the step from time t obeys its laws and has the literal of each fluent supplied
abbrev pub StepByLaw : ℕ → ℕ → List Law → List ℕ → ℕ → Type 0
StepByLaw n m ls vs t = Obeyed (state_at n m vs (suc t)) (in_step n m vs t) ls × Supplied n (state_at n m vs (suc t)) (in_step n m vs t) ls

module _ (n m T : ℕ) (ls : List Law) (vs : List ℕ) where
  abbrev s : ℕ → Interpretation
  s t = state_at n m vs t

  -- the static laws hold at the start, and each step does as above
  abbrev pub PathByLaw : Type 0
  PathByLaw = Obeyed (state_at n m vs 0) (applies_at_start (state_at n m vs 0)) ls × ((t : ℕ) → t < T → StepByLaw n m ls vs t)

  explained-at : (t : ℕ) → Explained n ls (s t) (action_at n m vs t) (s (suc t)) ↔ StepByLaw n m ls vs t
  explained-at t = step-iff n (s t) (action_at n m vs t) (s (suc t)) ls

  pub path-iff : Path n m T ls vs ↔ PathByLaw
  path-iff = (
    λ h. ((state-iff (s 0) ls).0 h.start, λ t b. (explained-at t).0 (h.steps t b)),
    λ h. record { start = (state-iff (s 0) ls).1 h.0; steps = λ t b. (explained-at t).1 (h.1 t b) },
  )

  -- every state of a path satisfies the static laws (000, section 2): after the first, they are caused in the step that leads to it
  pub path-states : Path n m T ls vs → (t : ℕ) → t ≤ T → State ls (state_at n m vs t)
  path-states h t = elim t as (λ t. t ≤ T → State ls (state_at n m vs t)) [
    | zero ↦ λ b. h.start
    | suc t ↦ λ b. result-state n (s t) (action_at n m vs t) (s (suc t)) ls ((explained-at t).0 (h.steps t (omega arith))).0
  ]

-- The verdict

pub or_else-path : (o : Option ℕ) (fault : ℕ → Causal) (next : Causal) → ((k : ℕ) → fault k ≡ path → ⊥)
    → or_else o fault next ≡ path ↔ ((o ≡ none) × (next ≡ path))
or_else-path (some k) fault next bad = (λ e. absurd (bad k e), λ h. let z : ◌≡◌ {A = ℕ} 0 1 = cc in absurd (omega arith))
or_else-path none fault next bad = (λ e. (refl, e), λ h. h.1)

pub contradicted-no-path : (t k : ℕ) → contradicted t k ≡ path → ⊥
contradicted-no-path t k e = let z : ◌≡◌ {A = ℕ} 0 1 = cc in omega arith

pub uncaused-no-path : (t k : ℕ) → uncaused t k ≡ path → ⊥
uncaused-no-path t k e = let z : ◌≡◌ {A = ℕ} 0 1 = cc in omega arith

obeyed-iff : (s : Interpretation) (applies : Law → Bool) (ls : List Law) → first (contradicts applies s) 0 ls ≡ none ↔ Obeyed s applies ls
obeyed-iff s applies ls =
    Iff.trans (none-iff (contradicts applies s) 0 ls) (each-iff (λ l. implied (applies l) (satisfies_head s l.head)) ls)
  where
    implied : (a b : Bool) → (a && not b) ≡ false ↔ (a ≡ true → b ≡ true)
    implied true true = (λ e t. refl, λ h. refl)
    implied true false = (λ e t. absurd (not-both refl e), λ h. absurd (not-both (h refl) refl))
    implied false b = (λ e t. absurd (not-both t refl), λ h. refl)

supplied-iff : (n : ℕ) (s : Interpretation) (applies : Law → Bool) (ls : List Law)
    → first (λ f. not (some_cause applies (literal_in s f) ls)) 0 (range 0 n) ≡ none ↔ Supplied n s applies ls
supplied-iff n s applies ls =
    Iff.trans (range-nowhere (λ f. not (caused f)) n (λ f. caused f ≡ false) (λ f b. not_iff (caused f)))
    (λ h f b. true_of_not _ (h f b), λ h f b e. not-both (h f b) e)
  where
    caused : ℕ → Bool
    caused f = some_cause applies (literal_in s f) ls

step_verdict-iff : (n : ℕ) (ls : List Law) (s a s' : Interpretation) (t : ℕ) (next : Causal)
    → step_verdict n ls s a s' t next ≡ path
    ↔ ((Obeyed s' (applies_in_step n s a s') ls × Supplied n s' (applies_in_step n s a s') ls) × (next ≡ path))
step_verdict-iff n ls s a s' t next =
    Iff.trans (or_else-path contradictions (contradicted t) (or_else gaps (uncaused t) next) (contradicted-no-path t)) (
      λ h. let (nowhere, later) = gaps-iff.0 h.1 in ((obeyed.0 h.0, supplied.0 nowhere), later),
      λ h. (obeyed.1 h.0.0, gaps-iff.1 (supplied.1 h.0.1, h.1)),
    )
  where
    applies : Law → Bool
    applies = applies_in_step n s a s'

    contradictions : Option ℕ
    contradictions = first (contradicts applies s') 0 ls

    gaps : Option ℕ
    gaps = first (λ f. not (some_cause applies (literal_in s' f) ls)) 0 (range 0 n)

    gaps-iff : or_else gaps (uncaused t) next ≡ path ↔ ((gaps ≡ none) × (next ≡ path))
    gaps-iff = or_else-path gaps (uncaused t) next (uncaused-no-path t)

    obeyed : contradictions ≡ none ↔ Obeyed s' applies ls
    obeyed = obeyed-iff s' applies ls

    supplied : gaps ≡ none ↔ Supplied n s' applies ls
    supplied = supplied-iff n s' applies ls

steps_from-iff : (n m : ℕ) (ls : List Law) (vs : List ℕ) (t k : ℕ)
    → steps_from n m ls vs t k ≡ path ↔ ((i : ℕ) → t ≤ i → i < t + k → StepByLaw n m ls vs i)
steps_from-iff n m ls vs t zero = (λ e i low high. absurd (omega arith), λ h. refl)
steps_from-iff n m ls vs t (suc k) =
    Iff.trans
    (step_verdict-iff n ls (state_at n m vs t) (action_at n m vs t) (state_at n m vs (suc t)) (suc t) (steps_from n m ls vs (suc t) k)) (
      λ h i low high. ⊎_elim (λ l. (steps_from-iff n m ls vs (suc t) k).0 h.1 i (ltb-true t i l) (omega arith))
          (λ f. let same : i ≡ t = omega (arith, ltb-false t i f) in rw same h.0) (true-or-false (ltb t i)),
      λ h. (h t (omega arith) (omega arith), (steps_from-iff n m ls vs (suc t) k).1 (λ i low high. h i (omega arith) (omega arith))),
    )

pub causal-iff : (n m T : ℕ) (ls : List Law) (vs : List ℕ) → causal_verdict n m T ls vs ≡ path ↔ Path n m T ls vs
unfolding causal_verdict
causal-iff n m T ls vs =
    Iff.trans (or_else-path start (contradicted 0) (steps_from n m ls vs 0 T) (contradicted-no-path 0))
    (Iff.trans (Iff.and (obeyed-iff (state_at n m vs 0) (applies_at_start (state_at n m vs 0)) ls) steps) (Iff.symm (path-iff n m T ls vs)))
  where
    start : Option ℕ
    start = first (contradicts (applies_at_start (state_at n m vs 0)) (state_at n m vs 0)) 0 ls

    steps : steps_from n m ls vs 0 T ≡ path ↔ ((t : ℕ) → t < T → StepByLaw n m ls vs t)
    steps = (
      λ e t b. (steps_from-iff n m ls vs 0 T).0 e t (omega arith) (omega arith),
      λ h. (steps_from-iff n m ls vs 0 T).1 (λ t low high. h t (omega arith)),
    )
