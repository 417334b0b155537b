-- `completion::heads::parts_hold` meets its contract.
-- Assumes nothing.
use mathlib.Core.Path.{◌≡◌}
use lib.ListN.{drop}
use Rattle.basics.specs.Search.{all}
use Rattle.logic_programs.specs.Literals.{set_of}
use Rattle.completion.proofs.heads.parts_hold.Given as goal

abbrev pub invariant-loop-part : goal.invariant-loop-part
invariant-loop-part l = all (set_of l.values) (drop l.part-index l.parts) ≡ all (set_of l.values) l.parts
