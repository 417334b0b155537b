-- `rule_tables::table::bad_rule` meets its contract.
-- Assumes nothing.
use mathlib.Core.Path.{◌≡◌}
use Prim.Native.Nat.{◌≤◌, ◌+◌}
use lib.ListN.{length}
use Rattle.logic_programs.specs.Words.{bad_rule}
use Rattle.rule_tables.proofs.Fitting.{bad_rule_from}
use Rattle.rule_tables.proofs.table.bad_rule.Given as goal

abbrev pub invariant-loop-rest : goal.invariant-loop-rest
invariant-loop-rest l =
    (l.at + length l.rest ≡ length l.table) × (l.rules ≤ l.at) × (bad_rule_from l.atoms l.rules l.at l.rest ≡ bad_rule l.atoms l.table)

abbrev pub decreases-loop-rest : goal.decreases-loop-rest
decreases-loop-rest l = length l.rest
