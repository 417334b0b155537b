-- The lines added so far and those behind them are all the lines.
-- Assumes nothing.
use mathlib.Core.Path.{◌≡◌}
use mathlib.Core.List.{◌++◌}
use Prim.Native.Nat.{◌*◌, ◌≤◌}
use lib.ListN.{length, drop}
use Rattle.arrayvec.specs.ArrayVec.{array_vec_len}
use Rattle.output_lines.specs.Internal.{lines_bytes}
use Rattle.output_lines.proofs.put_lines.Given as goal

abbrev pub invariant-loop-line : goal.invariant-loop-line
invariant-loop-line l = record {
  within : l.line-index ≤ length l.lines;
  few : array_vec_len l.text ≤ 34 * l.line-index;
  added : l.text.items ++ lines_bytes l.input (drop l.line-index l.lines) ≡ lines_bytes l.input l.lines;
}
