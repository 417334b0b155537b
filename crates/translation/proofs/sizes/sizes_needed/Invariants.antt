-- `sizes_needed` meets its contract. The invariant: of rules and of words, what is counted and what the laws not yet passed
-- have make up the whole.
-- Assumes nothing.
use Rattle.action_language.specs.Laws.{laws_of}
use Rattle.translation.proofs.Sums.{Counting}
use Rattle.translation.proofs.sizes.sizes_needed.Given as goal

abbrev pub invariant-loop-law : goal.invariant-loop-law
invariant-loop-law l = Counting l.d.horizon (laws_of l.d l.laws) l.initial.rules l.initial.words l.rules l.words l.law-index
