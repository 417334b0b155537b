-- `histories::mark_list` meets its contract. The loop's invariant: the items passed have marked the values, and those left come to what
-- the list comes to.
-- Assumes nothing.
use Prim.Native.Nat.{◌+◌, ◌-◌, ◌≤◌}
use lib.ListN.{length}
use Rattle.text.specs.Internal.{spelled}
use Rattle.history_reader.proofs.Recording.{Marked}
use Rattle.history_reader.proofs.histories.mark_list.Given as goal

abbrev pub invariant-loop-i : goal.invariant-loop-i
invariant-loop-i l =
    (l.i ≤ length l.list + 1) × Marked (spelled l.description l.names) l.w l.list l.initial.i l.i l.initial.values l.values

abbrev pub decreases-loop-i : goal.decreases-loop-i
decreases-loop-i l = length l.list + 1 - l.i
