-- `fill_absent` meets its contract. The loop's invariant: the filling that is left comes to what the whole filling comes to.
-- Assumes nothing.
use mathlib.Core.Path.{◌≡◌}
use Prim.Native.Nat.{◌+◌, ◌-◌}
use Rattle.history_values.specs.Values.{filled}
use Rattle.history_values.proofs.fill_absent.Given as goal

abbrev pub invariant-loop-i : goal.invariant-loop-i
invariant-loop-i l = filled (l.base + l.i) (l.high - l.i) l.values ≡ filled (l.base + l.fluents) (l.high - l.fluents) l.initial.values
