-- `times` meets its contract. The invariant: the words of the times not yet passed are left for the table.
-- Assumes nothing.
use Rattle.translation.proofs.Turns.{turned}
use Rattle.translation.proofs.writers.Writer.times.Goals as goal

pub loop-t-preserved : goal.loop-t-preserved
loop-t-preserved c = turned c.loop-t.invariant c.loop-t-test.true c.rule.ensures
