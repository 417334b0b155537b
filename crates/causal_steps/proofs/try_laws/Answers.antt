-- `try_laws` meets its contract. The loop's invariant: the lowest law that contradicts is the lowest of those not yet passed, and what
-- is marked together with what the laws ahead cause is all that is to be marked.
-- Assumes nothing.
use mathlib.Core.Bool.{false}
use native.Mathlib.Omega.{arith}
use lib.ListN.{length-replicate}
use Rattle.law_effects.specs.Applying.{read}
use Rattle.causal_steps.proofs.Trying.{try-start, try-stop, try-go, try-done}
use Rattle.causal_steps.proofs.try_laws.Goals as goal

pub loop-number-init : goal.loop-number-init
loop-number-init c =
    let step = c.args.step in (
      rw c.clear-marks.ensures (length-replicate 256 false),
      try-start step.fluents (read step.old.now) (read step.done.now) (read step.new.now) c.args.laws.now
          c.clear-marks.result.marked c.clear-marks.ensures,
    )

pub returns-in-Contradicts : goal.returns-in-Contradicts
returns-in-Contradicts c =
    let step = c.args.step in
    let at = c.loop-number in
    let said = try-stop step.fluents (read step.old.now) (read step.done.now) (read step.new.now) c.args.laws.now
    at.number _ at.marks.marked c.has_head.result c.loop-number-test.true
    at.invariant.0 at.invariant.1 c.effect_of.result c.effect_of.ensures c.in-Contradicts.is in
    record { contradicting = said.0; marks = said.1 }

pub loop-number-preserved : goal.loop-number-preserved
loop-number-preserved c =
    let step = c.args.step in (
      omega (arith, c.mark.ensures.size),
      try-go step.fluents (read step.old.now) (read step.done.now) (read step.new.now) c.args.laws.now
          c.loop-number.number _ c.loop-number.marks.marked
          c.has_head.result c.loop-number-test.true
          c.loop-number.invariant.1 c.has_head.ensures
          c.effect_of.result c.effect_of.ensures c.in_default.not-Contradicts
          c.mark.new.self.marked c.mark.ensures.cause,
    )

pub returns : goal.returns
returns c =
    let step = c.args.step in
    let at = c.loop-number in
    let said = try-done step.fluents (read step.old.now) (read step.done.now) (read step.new.now) c.args.laws.now
    at.number at.marks.marked c.loop-number-test.false at.invariant.0 at.invariant.1 in
    record { contradicting = said.0; marks = said.1 }
