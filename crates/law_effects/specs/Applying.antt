-- Which laws apply, in a step or in the first state, and which of them contradict (01, "The causal reading"). The old state and
-- the new one are two arguments throughout.
-- Assumes nothing.
use Rattle.std.specs.Prelude.{Bool, false, not, cond, ◌&&◌, ◌||◌, List, [], ◌∷◌, ℕ, ◌+◌, ◌*◌, eqb, get_or}
use Rattle.action_language.specs.declared.Head.{Head}
use Rattle.action_language.specs.declared.Head.TheVariants.{Lit, False}
use Rattle.action_language.specs.declared.Law.{Law}
use Rattle.action_language.specs.Laws.{is_static, if_list, after_list}
use Rattle.transitions.specs.Meaning.{Interpretation, holds, satisfies_head, together}

-- part of a set's values as an interpretation: value 1 is true, any other false, and so is one past the end
abbrev pub read : List ℕ → Interpretation
read vs i = eqb (get_or vs i 0) 1

-- a static law applies in a state if its if-list holds there
abbrev pub applies_at_start : Interpretation → Law → Bool
applies_at_start s l = is_static l.kind && holds s (if_list l)

-- a law applies in the step from s by a to s': its if-list holds in s', and a dynamic law's after-list in s and a
abbrev pub applies_in_step : ℕ → Interpretation → Interpretation → Interpretation → Law → Bool
applies_in_step n s a s' l = holds s' (if_list l) && (is_static l.kind || holds (together n s a) (after_list l))

-- the literal of fluent f that holds in s
abbrev pub literal_in : Interpretation → ℕ → ℕ
literal_in s f = cond (s f) (2 * f) (2 * f + 1)

abbrev pub head_is : Head → ℕ → Bool
head_is (Lit c) d = eqb c d
head_is False d = false

-- some law that applies has this literal as its head
abbrev pub some_cause : (Law → Bool) → ℕ → List Law → Bool
some_cause applies c [] = false
some_cause applies c (l ∷ ls) = (applies l && head_is l.head c) || some_cause applies c ls

-- a law applies while its head does not hold in s'
abbrev pub contradicts : (Law → Bool) → Interpretation → Law → Bool
contradicts applies s' l = applies l && not (satisfies_head s' l.head)
