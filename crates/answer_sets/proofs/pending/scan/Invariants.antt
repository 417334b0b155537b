-- `answer_sets::pending::scan` meets its contract.
-- Assumes nothing.
use lib.ListN.{length}
use Rattle.literal_sets.specs.Marks.{marked}
use Rattle.answer_sets.proofs.Starts.{Scanned}
use Rattle.answer_sets.proofs.pending.scan.Given as goal

abbrev pub invariant-loop-rest : goal.invariant-loop-rest
invariant-loop-rest l =
    Scanned l.table (marked l.x) (length l.initial.starts) l.starts l.rest l.at l.rule l.count

abbrev pub decreases-loop-rest : goal.decreases-loop-rest
decreases-loop-rest l = length l.rest
