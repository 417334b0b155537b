-- `rule_tables::table::parts_fit` meets its contract.
-- Assumes nothing.
use mathlib.Core.Path.{◌≡◌}
use lib.ListN.{drop}
use Rattle.logic_programs.specs.Words.{parts_fit}
use Rattle.rule_tables.proofs.table.parts_fit.Given as goal

abbrev pub invariant-loop-part : goal.invariant-loop-part
invariant-loop-part l = parts_fit l.atoms (drop l.part-index l.parts) ≡ parts_fit l.atoms l.parts
