-- `rule_tables::table::rule_applies` meets its contract.
-- Assumes nothing.
use native.Mathlib.Omega.{arith}
use Rattle.literal_sets.specs.Marks.{marked}
use Rattle.rule_tables.proofs.Fronts.{applies-short, applies-stop, applies-go}
use Rattle.rule_tables.proofs.table.rule_applies.Goals as goal

pub returns-then-rest-rule_size : goal.returns-then-rest-rule_size
returns-then-rest-rule_size c =
    let a = c.args in
    applies-short (marked a.x.now) (marked a.y.now) a.rest.now (omega arith)

pub returns-then-none_in : goal.returns-then-none_in
returns-then-none_in c =
    let a = c.args in
    applies-go (marked a.x.now) (marked a.y.now) a.rest.now _ (rw c.negated.ensures at c.none_in.ensures) _
    (omega arith) c.if-none_in.true (rw c.plain.ensures at c.all_in.ensures)

pub returns-else-none_in : goal.returns-else-none_in
returns-else-none_in c =
    let a = c.args in
    applies-stop (marked a.x.now) (marked a.y.now) a.rest.now _ (rw c.negated.ensures at c.none_in.ensures) (omega arith)
    c.if-none_in.false
