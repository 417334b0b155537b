-- `fill_absent` meets its contract. The loop's invariant: the filling that is left comes to what the whole filling comes to.
-- Assumes nothing.
use native.Mathlib.Omega.{arith}
use mathlib.Core.Path.{◌≡◌, ◌∙◌}
use Prim.Native.Nat.{◌+◌, ◌-◌}
use Rattle.history_values.proofs.Filling.{filled-outside, filled-turn}
use Rattle.history_values.proofs.fill_absent.Goals as goal

pub returns-then-values-place : goal.returns-then-values-place
returns-then-values-place c =
    filled-outside (c.args.base + c.loop-i.i) (c.args.high - c.loop-i.i) c.loop-i.values (omega arith) ∙ c.loop-i.invariant

pub loop-i-preserved : goal.loop-i-preserved
loop-i-preserved c =
    let place : c.saturating_add-place.result ≡ c.args.base + c.loop-i.i = omega arith in
    rw (c.or_false.ensures, place) (filled-turn _ c.loop-i.i _ c.loop-i.values c.loop-i-test.true c.loop-i.invariant)
