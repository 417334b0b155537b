-- The meaning of C (000, section 2, and 01, "The causal reading"): interpretations, states, what is caused in a step, causally
-- explained steps, and paths.
-- Assumes nothing.
use Rattle.std.specs.Prelude.{◌≡◌, Bool, true, false, not, cond, ◌&&◌, List, [], ◌∷◌, ℕ, suc, ◌-◌, ◌/◌, ◌%◌, ◌<◌, eqb, ltb, get_or}
use Rattle.basics.specs.Search.{all, Each}
use Rattle.action_language.specs.declared.Head.{Head}
use Rattle.action_language.specs.declared.Head.TheVariants.{Lit, False}
use Rattle.action_language.specs.declared.Kind.{Kind}
use Rattle.action_language.specs.declared.Kind.TheVariants.{Static, Dynamic}
use Rattle.action_language.specs.declared.Law.{Law}
use Rattle.action_language.specs.Laws.{if_list, after_list}
use Rattle.action_language.specs.Atoms.{fluent_atom, action_atom}

-- true or false for each fluent, or for each action
abbrev pub Interpretation : Type 0
Interpretation = ℕ → Bool

-- the literal of code c: 2f is fluent f, 2f + 1 its negation
abbrev pub satisfies : Interpretation → ℕ → Bool
satisfies I c = cond (eqb (c % 2) 0) (I (c / 2)) (not (I (c / 2)))

-- a list holds if all its literals are true there, an empty one always
abbrev pub holds : Interpretation → List ℕ → Bool
holds I cs = all (satisfies I) cs

-- no interpretation satisfies the head false
abbrev pub satisfies_head : Interpretation → Head → Bool
satisfies_head I (Lit c) = satisfies I c
satisfies_head I False = false

-- a state s and an action a together: fluents 0 to n - 1, then the actions
abbrev pub together : ℕ → Interpretation → Interpretation → Interpretation
together n s a i = cond (ltb i n) (s i) (a (i - n))

-- whether a law makes its head caused in the transition from s by a to s'
abbrev pub causing : ℕ → Interpretation → Interpretation → Interpretation → Kind → Law → Bool
causing n s a s' Static l = holds s' (if_list l)
causing n s a s' Dynamic l = holds s' (if_list l) && holds (together n s a) (after_list l)

-- the heads caused in the transition
abbrev pub caused : ℕ → Interpretation → Interpretation → Interpretation → List Law → List Head
caused n s a s' [] = []
caused n s a s' (l ∷ ls) =
    cond (causing n s a s' l.kind l) (l.head ∷ caused n s a s' ls) (caused n s a s' ls)

abbrev pub SatisfiesAll : Interpretation → List Head → Type 0
SatisfiesAll I hs = Each (λ h. satisfies_head I h ≡ true) hs

-- the same interpretation of the n fluents
abbrev pub Same : ℕ → Interpretation → Interpretation → Type 0
Same n I J = (f : ℕ) → f < n → I f ≡ J f

-- causally explained: the resulting state is the only interpretation of the n fluents that satisfies all that is caused
pub record Explained (n : ℕ) (ls : List Law) (s a s' : Interpretation) : Type 0 where
  pub satisfied : SatisfiesAll s' (caused n s a s' ls)
  pub only : (I : Interpretation) → SatisfiesAll I (caused n s a s' ls) → Same n I s'

-- a static law is satisfied where its head is or its if-list does not hold
abbrev pub SatisfiesStatic : Interpretation → Kind → Law → Type 0
SatisfiesStatic s Static l = holds s (if_list l) ≡ true → satisfies_head s l.head ≡ true
SatisfiesStatic s Dynamic l = Unit

-- a state satisfies each static law
abbrev pub State : List Law → Interpretation → Type 0
State ls s = Each (λ l. SatisfiesStatic s l.kind l) ls

-- the state and the action read from a set's value bytes at time t
abbrev pub state_at : ℕ → ℕ → List ℕ → ℕ → Interpretation
state_at n m vs t f = eqb (get_or vs (fluent_atom n m t f) 0) 1

abbrev pub action_at : ℕ → ℕ → List ℕ → ℕ → Interpretation
action_at n m vs t k = eqb (get_or vs (action_atom n m t k) 0) 1

-- a path of T steps starts in a state that satisfies every static law, and each of its steps is explained
pub record Path (n m T : ℕ) (ls : List Law) (vs : List ℕ) : Type 0 where
  pub start : State ls (state_at n m vs 0)
  pub steps : (t : ℕ) → t < T → Explained n ls (state_at n m vs t) (action_at n m vs t) (state_at n m vs (suc t))
