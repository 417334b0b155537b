-- Internal: what the crate's own functions promise each other. No public promise rests on it; a reader may pass it over.
-- Assumes nothing.
use Rattle.std.specs.Prelude.{Bool, false, List, ℕ, eqb}
use Rattle.action_language.specs.declared.Head.{Head}
use Rattle.action_language.specs.declared.Head.TheVariants.{Lit, False}
use Rattle.causal_steps.specs.Marked.{marked_caused}
use Rattle.law_effects.specs.declared.laws.Effect.{Effect}
use Rattle.law_effects.specs.declared.laws.Effect.TheVariants.{Idle, Causes, Contradicts}

-- code c is what a law caused
abbrev pub is_cause : Effect → ℕ → Bool
is_cause Idle c = false
is_cause (Causes d) c = eqb d c
is_cause Contradicts c = false

-- a head is marked; false never is
abbrev pub head_marked : List Bool → Head → Bool
head_marked marks (Lit c) = marked_caused marks c
head_marked marks False = false
