-- Such an answer is exact and names the fault that is there.
-- Assumes nothing.
use Rattle.std.proofs.Common.{length}
use Rattle.correctness.proofs.Demand3.{path-exactly}
use Rattle.correctness.proofs.CausalFaults.{names-fault}
use Rattle.lent_laws.proofs.causal_reading.Goals as goal

pub returns-clause-demand_3 : goal.returns-clause-demand_3
returns-clause-demand_3 c =
    let a = c.args in
    path-exactly a.d a.laws.now (length a.laws.now) a.values.now c.causal_reading.result c.causal_reading.ensures.answers

pub returns-clause-fault : goal.returns-clause-fault
returns-clause-fault c =
    let a = c.args in
    names-fault a.d a.laws.now (length a.laws.now) a.values.now c.causal_reading.result c.causal_reading.ensures.answers
