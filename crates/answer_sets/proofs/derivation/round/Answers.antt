-- `answer_sets::derivation::round` meets its contract.
-- Assumes nothing.
use mathlib.Core.Logic.{inl, inr}
use Rattle.answer_sets.proofs.Rounds.{turn}
use Rattle.answer_sets.proofs.derivation.round.Goals as goal
use Rattle.answer_sets.proofs.derivation.round.Goals.{then-wait, else-wait}

pub loop-i-preserved : goal.loop-i-preserved
loop-i-preserved c =
    let next =
    turn _ _ _ _ _ _ c.loop-i.new c.loop-i.starts c.loop-i.waits c.loop-i.left c.loop-i.i c.loop-i.invariant
    c.requires.starts_room c.requires.waits_room c.loop-i-test.true _ c.waits_for-wait.ensures
    c.if-wait.new c.if-wait.starts c.if-wait.waits c.if-wait.left in
    elim c.if-wait.branch [
      | then-wait w ↦ next (inl (w.if-wait.true, rw w.head-head.ensures.0 at w.new-is, w.starts-is, w.waits-is, w.left-is))
      | else-wait w ↦ next (inr (w.if-wait.false, w.new-is, w.starts-is, w.waits-is, w.left-is))
    ]
