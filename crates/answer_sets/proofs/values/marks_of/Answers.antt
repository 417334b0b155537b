-- `answer_sets::values::marks_of` meets its contract.
-- Assumes nothing.
use native.Mathlib.Omega.{arith}
use borrow.Author.Tests.{ltb-false}
use lib.Dec.{ltb}
use lib.ListN.{get_or, length-set}
use Rattle.basics.proofs.Tests.{first-none}
use Rattle.answer_sets.proofs.Stores.{fill_start, fill_step, fill_done}
use Rattle.answer_sets.proofs.values.marks_of.Goals as goal

pub loop-atom-init : goal.loop-atom-init
loop-atom-init c = (omega arith, fill_start _ _ c.clear-marks.ensures)

pub loop-atom-preserved : goal.loop-atom-preserved
loop-atom-preserved c =
    let values = c.args.values.now in
    let small =
    ltb-false 3 (get_or values c.loop-atom.atom 0) (first-none (ltb 3) 0 0 values c.requires.values_fit c.loop-atom.atom (omega arith)) in (
      simp length-set c.loop-atom.invariant.0,
      rw c.from.ensures (fill_step values c.loop-atom.marks c.loop-atom.atom (omega (arith, small)) (omega arith) c.loop-atom.invariant.1),
    )

pub returns : goal.returns
returns c = fill_done _ c.loop-atom.atom c.loop-atom.marks (omega arith) c.loop-atom.invariant.1
