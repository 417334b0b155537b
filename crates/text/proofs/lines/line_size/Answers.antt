-- `lines::line_size` meets its contract: up to the ending byte, or all.
-- Assumes nothing.
use native.Mathlib.Omega.{arith}
use Rattle.basics.proofs.Results.{at_place, no_place}
use Rattle.text.proofs.Placing.{size-all, size-cut}
use Rattle.text.proofs.lines.line_size.Goals as goal

pub returns-in-Some : goal.returns-in-Some
returns-in-Some c = size-cut c.args.rest.now _ (at_place c.find.ensures.place c.in-Some.is)

pub returns-in-None : goal.returns-in-None
returns-in-None c = (size-all c.args.rest.now (no_place c.find.ensures.place c.in-None.is), omega arith)
