-- The answer is a code of those listed, and what it means.
-- Assumes nothing.
use mathlib.Core.Path.{◌∙◌}
use Rattle.huntyghai_theory.proofs.CodeLists.{as-listed, causal_codes, causal-codes}
use Rattle.huntyghai_theory.proofs.CausalNumbers.{input-reads, input-fault}
use Rattle.huntyghai.proofs.huntyghai_causal_reading.Goals as goal

pub returns-clause-possible_codes : goal.returns-clause-possible_codes
returns-clause-possible_codes c = as-listed causal_codes (c.of.ensures ∙ c.read_causally.ensures) (causal-codes c.args.input.now)

pub returns-clause-demand_3 : goal.returns-clause-demand_3
returns-clause-demand_3 c = input-reads c.args.input.now _ (c.of.ensures ∙ c.read_causally.ensures)

pub returns-clause-fault : goal.returns-clause-fault
returns-clause-fault c = input-fault c.args.input.now _ (c.of.ensures ∙ c.read_causally.ensures)
