-- What the code's answer to the search for the lowest atom without one value stands for.
-- Assumes nothing.
use Rattle.std.specs.Prelude.{Option, Some, None}
use Rattle.logic_programs.specs.ValueFaults.{ValueFault, missing, clash, neither}
use Rattle.literal_sets.specs.declared.values.Fault.{Fault}
use Rattle.literal_sets.specs.declared.values.Fault.TheVariants.{Missing, Clash}

abbrev pub fault_of : Option Fault → ValueFault
fault_of (Some (Missing atom)) = missing atom
fault_of (Some (Clash atom)) = clash atom
fault_of None = neither
