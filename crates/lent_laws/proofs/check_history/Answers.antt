-- Such an answer is exact and says by the values what it finds.
-- Assumes nothing.
use Rattle.std.proofs.Common.{length}
use Rattle.correctness.proofs.Demand3.{passes-exactly}
use Rattle.correctness.proofs.MissingAndClash.{says-by-values}
use Rattle.lent_laws.proofs.check_history.Goals as goal

pub returns-clause-demand_3 : goal.returns-clause-demand_3
returns-clause-demand_3 c =
    let a = c.args in
    passes-exactly a.d a.laws.now (length a.laws.now) a.values.now (length a.table.now) c.check_history.result
    c.check_history.ensures.answers

pub returns-clause-by_values : goal.returns-clause-by_values
returns-clause-by_values c =
    let a = c.args in
    says-by-values a.d a.laws.now (length a.laws.now) a.values.now (length a.table.now) c.check_history.result
    c.check_history.ensures.answers
