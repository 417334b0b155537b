-- `steps` meets its contract. The loop's invariant: the verdict is that of the steps not yet passed.
-- Assumes nothing.
use mathlib.Core.Path.{◌≡◌}
use Prim.Native.Nat.{◌-◌}
use Rattle.causal_reading.specs.Verdicts.{steps_from}
use Rattle.causal_reading.proofs.history.History.steps.Given as goal

abbrev pub invariant-loop-time : goal.invariant-loop-time
invariant-loop-time l =
    let d = l.self.d in
    steps_from d.fluents d.actions l.self.laws.now l.self.values.now l.time (d.horizon - l.time)
    ≡ steps_from d.fluents d.actions l.self.laws.now l.self.values.now 0 d.horizon
