-- `rule_tables::table::bad_rule` meets its contract.
-- Assumes nothing.
use native.Mathlib.Omega.{arith}
use mathlib.Core.Bool.{not}
use mathlib.Core.Path.{sym, ap}
use lib.ListN.{length-drop}
use Rattle.logic_programs.specs.Words.{rule_size}
use Rattle.rule_tables.proofs.Fitting.{bad_rule-from}
use Rattle.rule_tables.proofs.Fronts.{bad-many, bad-stop, bad-go, bad-end, fits-size, left_behind, some_left, none-left}
use Rattle.rule_tables.proofs.table.bad_rule.Goals as goal
use Rattle.rule_tables.proofs.table.bad_rule.Goals.{then-rules-ge4096-via-then-rules-ge4096 as many}
use Rattle.rule_tables.proofs.table.bad_rule.Goals.{then-rules-ge4096-via-else-rules-ge4096+then-not-rule_fits as unfit}

pub loop-rest-init : goal.loop-rest-init
loop-rest-init c = (omega arith, omega arith, sym (bad_rule-from _ _))

pub returns-then-rules-ge4096 : goal.returns-then-rules-ge4096
returns-then-rules-ge4096 c =
    let ws = c.loop-rest.rest.now in
    let h = some_left ws c.is_empty.ensures c.loop-rest-test.true in
    let inv = c.loop-rest.invariant.2 in
    elim c.then-rules-ge4096.branch [
      | many w ↦ bad-many _ _ _ ws h inv w.if-rules-ge4096.true
      | unfit w ↦ bad-stop _ _ _ ws _ h inv w.rule_fits.ensures (ap not w.if-not-rule_fits.true)
    ]

pub loop-rest-preserved : goal.loop-rest-preserved
loop-rest-preserved c =
    let ws = c.loop-rest.rest.now in
    let h = some_left ws c.is_empty.ensures c.loop-rest-test.true in
    let fits = ap not c.if-not-rule_fits.false in
    let size = c.rule_size-size.ensures in
    rw (left_behind ws _ size) (
      omega (arith, length-drop (rule_size ws) ws, size, fits-size _ ws _ c.rule_fits.ensures fits),
      omega (arith, size),
      bad-go _ _ _ ws _ _ size h c.loop-rest.invariant.2 c.if-rules-ge4096.false c.rule_fits.ensures fits,
    )

pub returns : goal.returns
returns c =
    let ws = c.loop-rest.rest.now in
    bad-end _ _ _ ws (none-left ws c.is_empty.ensures c.loop-rest-test.false) c.loop-rest.invariant.2
