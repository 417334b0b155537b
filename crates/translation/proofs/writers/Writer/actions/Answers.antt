-- `actions` meets its contract. The invariant: the words of the times not yet passed are left for the table.
-- Assumes nothing.
use Prim.Native.Nat.{◌+◌}
use native.Mathlib.Omega.{arith}
use Rattle.translation.proofs.Turns.{fits, turned}
use Rattle.translation.proofs.Writing.{product-bound}
use Rattle.translation.proofs.writers.Writer.actions.Goals as goal

pub choices-requires : goal.choices-requires
choices-requires c =
    let earlier = product-bound c.loop-step.step (c.args.n + c.args.m) 30 32 (omega arith) (omega arith) in
    record { bound = omega (arith, earlier); room = fits c.loop-step.invariant c.loop-step-test.true c.requires.room }

pub loop-step-preserved : goal.loop-step-preserved
loop-step-preserved c = turned c.loop-step.invariant c.loop-step-test.true c.choices.ensures
