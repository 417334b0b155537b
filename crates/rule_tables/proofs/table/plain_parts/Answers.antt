-- `rule_tables::table::plain_parts` meets its contract.
-- Assumes nothing.
use native.Mathlib.Omega.{arith}
use mathlib.Core.Path.{◌∙◌}
use Rattle.rule_tables.proofs.Fronts.{plain-short, plain-whole}
use Rattle.rule_tables.proofs.table.plain_parts.Goals as goal

pub returns-then-rest-rule_size : goal.returns-then-rest-rule_size
returns-then-rest-rule_size c = plain-short c.args.rest.now (omega arith)

pub returns : goal.returns
returns c = c.plain.ensures ∙ plain-whole c.args.rest.now (omega arith)
