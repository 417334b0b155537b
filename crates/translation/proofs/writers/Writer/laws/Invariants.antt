-- `laws` meets its contract. The invariant: the words of the laws not yet passed are left for the table.
-- Assumes nothing.
use mathlib.Core.List.{List}
use Prim.Native.Nat.{◌<◌}
use lib.ListN.{length, drop, get_or, drop_of_length-le}
use Rattle.logic_programs.specs.Rules.{Rule}
use Rattle.logic_programs.specs.Words.{words}
use Rattle.action_language.specs.declared.Kind.{Kind}
use Rattle.action_language.specs.declared.Law.{Law}
use Rattle.translation_rules.specs.Rules.{per_law}
use Rattle.translation.specs.Internal.{law_rules}
use Rattle.translation_rules.proofs.Counts.{words_append}
use Rattle.translation.proofs.Sums.{past, next-law}
use Rattle.translation.proofs.Turns.{Turns, Before}
use Rattle.translation.proofs.writers.Writer.laws.Given as goal

abbrev pub turns : (Kind → Law → List Rule) → (laws : List Law) → Turns (λ i. i < length laws) (length laws)
turns f laws =
    record {
      first = λ i. words (f (get_or laws i past).kind (get_or laws i past));
      left = λ i. words (per_law f (drop i laws));
      next = λ i h. rw (next-law laws i past h, words_append);
      done = λ i h. rw (drop_of_length-le laws h);
    }

abbrev pub invariant-loop-law : goal.invariant-loop-law
invariant-loop-law l =
    Before (turns (law_rules l.n l.static_times l.dynamic_times) l.laws) l.law-index l.self l.initial.self
    (words (per_law (law_rules l.n l.static_times l.dynamic_times) l.laws))
