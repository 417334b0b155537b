-- `completion::levels::stands_above` meets its contract.
-- Assumes nothing.
use Rattle.completion.proofs.Fronts.{literal-above}
use Rattle.completion.proofs.levels.stands_above.Goals as goal

pub returns-else-head-eq65535 : goal.returns-else-head-eq65535
returns-else-head-eq65535 c =
    literal-above c.args.levels.now c.args.rule.words.now _ _ (rw c.head-head.ensures.0 at c.if-head-eq65535.false)
    (rw c.head-head.ensures.0 at c.word.ensures.0) (rw c.plain.ensures at c.parts_below.ensures)
