-- `steps` meets its contract. The loop's invariant: the verdict is that of the steps not yet passed.
-- Assumes nothing.
use mathlib.Core.Path.{◌∙◌}
use native.Mathlib.Numerals.{add-one}
use Rattle.causal_reading.proofs.Faults.{steps-stop, steps-go}
use Rattle.causal_reading.proofs.States.{same-verdict}
use Rattle.causal_reading.proofs.history.History.steps.Goals as goal

pub returns-in_default : goal.returns-in_default
returns-in_default c =
    let a = c.args.self in
    let step = c.step.ensures in
    let said = same-verdict a.laws.now step.fluents step.old step.done step.new (add-one c.loop-time.time) in
    steps-stop a.d.fluents a.d.actions a.laws.now a.values.now c.loop-time.time _ c.step_fault.result
    c.loop-time-test.true c.loop-time.invariant c.in_default.not-Path (c.step_fault.ensures ∙ said)

pub loop-time-preserved : goal.loop-time-preserved
loop-time-preserved c =
    let a = c.args.self in
    let step = c.step.ensures in
    let said = same-verdict a.laws.now step.fluents step.old step.done step.new (add-one c.loop-time.time) in
    steps-go a.d.fluents a.d.actions a.laws.now a.values.now c.loop-time.time _ c.step_fault.result
    c.loop-time-test.true c.loop-time.invariant c.in-Path.is (c.step_fault.ensures ∙ said)
