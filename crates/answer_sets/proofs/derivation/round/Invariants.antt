-- `answer_sets::derivation::round` meets its contract.
-- Assumes nothing.
use lib.ListN.{length, take}
use Rattle.literal_sets.specs.Marks.{marked}
use Rattle.answer_sets.proofs.Rounds.{Turned}
use Rattle.answer_sets.proofs.derivation.round.Given as goal

abbrev pub invariant-loop-i : goal.invariant-loop-i
invariant-loop-i l =
    Turned l.table (marked l.old) (take l.count l.initial.starts) (length l.initial.starts) (length l.initial.waits)
    l.count l.new l.starts l.waits l.left l.i
