-- `ReaderState::horizon_line` meets its contract: a horizon that is read is at most 30.
-- Assumes nothing.
use Rattle.basics.proofs.Results.{at_place}
use Rattle.line_values.proofs.Digits.{horizon-30}
use Rattle.description_reader.proofs.states.ReaderState.horizon_line.Goals as goal

pub invariant_of-self-clause-time : goal.invariant_of-self-clause-time
invariant_of-self-clause-time c = horizon-30 _ _ (at_place c.horizon_of.ensures c.in-Some.is)
