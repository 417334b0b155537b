-- `literal_sets::values::first_fault` meets its contract.
-- Assumes nothing.
use Rattle.basics.proofs.Results.{at_place}
use Rattle.logic_programs.proofs.Values.{lowest-none-or-both}
use Rattle.literal_sets.proofs.values.first_fault.Goals as goal

-- the atom that was found is one of the values'
pub bounds-values-atom : goal.bounds-values-atom
bounds-values-atom c =
    ((lowest-none-or-both c.args.values.now _).0 (at_place c.first_none_or_both.ensures c.in_ok-atom.was)).0
