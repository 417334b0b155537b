-- `answer_sets::pending::waits_for` meets its contract.
-- Assumes nothing.
use Rattle.answer_sets.proofs.Outside.{waits-still, waits-none, waits-part}
use Rattle.answer_sets.proofs.pending.waits_for.Goals as goal

pub returns-then-still_waits : goal.returns-then-still_waits
returns-then-still_waits c = waits-still _ _ _ _ c.still_waits.ensures c.if-still_waits.true

pub returns-then-has : goal.returns-then-has
returns-then-has c =
    waits-none _ _ _ _ _ c.still_waits.ensures c.if-still_waits.false (rw c.head.ensures.0 at c.has.ensures) c.if-has.true

pub returns : goal.returns
returns c =
    waits-part _ _ _ _ _ c.still_waits.ensures c.if-still_waits.false (rw c.head.ensures.0 at c.has.ensures) c.if-has.false _
    (rw c.plain.ensures at c.first_outside.ensures)
