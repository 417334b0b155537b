-- `rule_tables::table::negated_parts` meets its contract.
-- Assumes nothing.
use native.Mathlib.Omega.{arith}
use mathlib.Core.Path.{◌∙◌}
use Rattle.rule_tables.proofs.Fronts.{negated-short, negated-whole}
use Rattle.rule_tables.proofs.table.negated_parts.Goals as goal

pub returns-then-rest-rule_size : goal.returns-then-rest-rule_size
returns-then-rest-rule_size c = negated-short c.args.rest.now (omega arith)

pub returns : goal.returns
returns c = c.negated.ensures ∙ negated-whole c.args.rest.now (omega arith)
