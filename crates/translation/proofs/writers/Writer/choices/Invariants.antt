-- `choices` meets its contract. The invariant: the words of the atoms not yet passed are left for the table.
-- Assumes nothing.
use mathlib.Core.List.{[], ◌∷◌}
use mathlib.Core.Path.{refl}
use Prim.Native.Nat.{ℕ, ◌+◌, ◌<◌}
use Rattle.basics.specs.Search.{range}
use Rattle.logic_programs.specs.Words.{words}
use Rattle.translation_rules.specs.RuleForms.{choices}
use Rattle.translation.proofs.Turns.{Turns, counted, Before}
use Rattle.translation.proofs.writers.Writer.choices.Given as goal

abbrev pub turns : (end : ℕ) → Turns (λ a. a < end) end
turns end = counted (λ a j. words (choices (range a j))) (λ a. words (choices (a ∷ []))) (λ a. refl) (λ a j. refl) end

abbrev pub invariant-loop-atom : goal.invariant-loop-atom
invariant-loop-atom l =
    Before (turns (l.first + l.count)) l.atom l.self l.initial.self (words (choices (range l.first l.count)))
