-- `choices` meets its contract. The invariant: the words of the atoms not yet passed are left for the table.
-- Assumes nothing.
use Rattle.translation.proofs.Turns.{turned}
use Rattle.translation.proofs.writers.Writer.choices.Goals as goal

pub loop-atom-preserved : goal.loop-atom-preserved
loop-atom-preserved c = turned c.loop-atom.invariant c.loop-atom-test.true c.choice.ensures
