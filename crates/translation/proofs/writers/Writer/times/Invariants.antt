-- `times` meets its contract. The invariant: the words of the times not yet passed are left for the table.
-- Assumes nothing.
use mathlib.Core.List.{map}
use mathlib.Core.Path.{refl}
use Prim.Native.Nat.{ℕ, ◌<◌}
use Rattle.basics.specs.Search.{range}
use Rattle.logic_programs.specs.Words.{rule_words, words}
use Rattle.action_language.specs.declared.Law.{Law}
use Rattle.rule_words.specs.Internal.{rule_for}
use Rattle.translation.proofs.Turns.{Turns, counted, Before}
use Rattle.translation.proofs.writers.Writer.times.Given as goal

abbrev pub turns : ℕ → Law → (times : ℕ) → Turns (λ t. t < times) times
turns n law =
    counted (λ t j. words (map (rule_for n law.kind law) (range t j))) (λ t. rule_words (rule_for n law.kind law t))
    (λ t. refl) (λ t j. refl)

abbrev pub invariant-loop-t : goal.invariant-loop-t
invariant-loop-t l =
    Before (turns l.n l.law l.times) l.t l.self l.initial.self
    (words (map (rule_for l.n l.law.kind l.law) (range 0 l.times)))
