-- What a law does in a step, by its head and by whether it applies.
-- Assumes nothing.
use Rattle.std.specs.Prelude.{Bool, cond}
use Rattle.action_language.specs.declared.Head.{Head}
use Rattle.action_language.specs.declared.Head.TheVariants.{Lit, False}
use Rattle.transitions.specs.Meaning.{Interpretation, satisfies}
use Rattle.law_effects.specs.declared.laws.Effect.{Effect}
use Rattle.law_effects.specs.declared.laws.Effect.TheVariants.{Idle, Causes, Contradicts}

-- what a law with this head does to the new state where it applies
abbrev pub head_effect : Interpretation → Head → Effect
head_effect s' (Lit c) = cond (satisfies s' c) (Causes c) Contradicts
head_effect s' False = Contradicts

-- and where it may or may not
abbrev pub effect_of : Interpretation → Head → Bool → Effect
effect_of s' h applied = cond applied (head_effect s' h) Idle
