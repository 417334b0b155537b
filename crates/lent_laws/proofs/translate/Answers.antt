-- The translation of the run is an exact one.
-- Assumes nothing.
use Rattle.std.proofs.Common.{length}
use Rattle.correctness.proofs.Demand3.{translates-exactly}
use Rattle.lent_laws.proofs.translate.Goals as goal

pub returns-clause-demand_3 : goal.returns-clause-demand_3
returns-clause-demand_3 c =
    let a = c.args in
    translates-exactly a.d a.laws.now (length a.laws.now) a.table.now c.translate.new.table c.translate.ensures.leaves
