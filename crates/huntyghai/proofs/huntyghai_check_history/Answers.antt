-- The answer is a code of those listed, and what it means.
-- Assumes nothing.
use lib.ListN.{length}
use mathlib.Core.Path.{◌∙◌}
use Rattle.huntyghai_theory.proofs.CodeLists.{as-listed, check_codes, check-codes}
use Rattle.huntyghai_theory.proofs.TextReadings.{text-checks, text-says-values}
use Rattle.huntyghai.proofs.huntyghai_check_history.Goals as goal

pub returns-clause-possible_codes : goal.returns-clause-possible_codes
returns-clause-possible_codes c =
    as-listed check_codes (c.of.ensures ∙ c.check_history.ensures.answers)
    (check-codes c.args.text.now c.args.values.now (length c.args.table.now))

pub returns-clause-demand_3 : goal.returns-clause-demand_3
returns-clause-demand_3 c =
    text-checks c.args.text.now c.args.values.now (length c.args.table.now) _ (c.of.ensures ∙ c.check_history.ensures.answers)

pub returns-clause-by_values : goal.returns-clause-by_values
returns-clause-by_values c =
    text-says-values c.args.text.now c.args.values.now (length c.args.table.now) _ (c.of.ensures ∙ c.check_history.ensures.answers)
