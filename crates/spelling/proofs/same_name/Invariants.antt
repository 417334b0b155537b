-- `same_name` meets its contract. The loop's invariant: the runs are the same names exactly if what is left of them is.
-- Assumes nothing.
use mathlib.Core.Path.{◌≡◌}
use lib.ListN.{drop}
use Rattle.spelling.specs.Spelling.{same_name}
use Rattle.spelling.proofs.same_name.Given as goal

abbrev pub invariant-loop-i : goal.invariant-loop-i
invariant-loop-i l = same_name (drop l.i l.a) (drop l.i l.b) ≡ same_name l.a l.b
