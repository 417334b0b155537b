-- The answer is a code of those listed, and what it means.
-- Assumes nothing.
use lib.ListN.{length}
use mathlib.Core.Path.{◌∙◌}
use Rattle.huntyghai_theory.proofs.CodeLists.{as-listed, translate_codes, translate-codes}
use Rattle.huntyghai_theory.proofs.TextReadings.{text-translates}
use Rattle.huntyghai.proofs.huntyghai_translate.Goals as goal

pub returns-clause-possible_codes : goal.returns-clause-possible_codes
returns-clause-possible_codes c =
    as-listed translate_codes (c.of.ensures ∙ c.translate.ensures.answers) (translate-codes c.args.text.now (length c.args.table.now))

pub returns-clause-demand_3 : goal.returns-clause-demand_3
returns-clause-demand_3 c = text-translates c.args.text.now c.args.table.now _ c.translate.ensures.leaves
