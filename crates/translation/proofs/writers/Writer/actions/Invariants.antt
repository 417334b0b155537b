-- `actions` meets its contract. The invariant: the words of the times not yet passed are left for the table.
-- Assumes nothing.
use mathlib.Core.Path.{refl}
use Prim.Native.Nat.{ℕ, ◌+◌, ◌*◌, ◌<◌}
use native.Mathlib.Nat.{add-zero}
use Rattle.basics.specs.Search.{range}
use Rattle.logic_programs.specs.Words.{words}
use Rattle.translation_rules.specs.RuleForms.{choices}
use Rattle.translation_rules.specs.Rules.{action_atoms}
use Rattle.translation_rules.proofs.Counts.{words_append}
use Rattle.translation.proofs.Turns.{Turns, counted, Before}
use Rattle.translation.proofs.Writing.{choices-append}
use Rattle.translation.proofs.writers.Writer.actions.Given as goal

abbrev pub turns : ℕ → ℕ → (horizon : ℕ) → Turns (λ t. t < horizon) horizon
turns n m =
    counted (λ t j. words (choices (action_atoms n m t j))) (λ t. words (choices (range (t * (n + m) + n) m))) (λ t. refl)
    (λ t j. rw (add-zero (t * (n + m) + n), choices-append, words_append))

abbrev pub invariant-loop-step : goal.invariant-loop-step
invariant-loop-step l =
    Before (turns l.n l.m l.horizon) l.step l.self l.initial.self (words (choices (action_atoms l.n l.m 0 l.horizon)))
