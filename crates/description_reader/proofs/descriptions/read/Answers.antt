-- `descriptions::read` meets its contract: a text that is too long.
-- Assumes nothing.
use native.Mathlib.Omega.{arith}
use lib.ListN.{length}
use borrow.Author.Tests.{lt-ltb}
use Rattle.description_lines.specs.Descriptions.{described}
use Rattle.description_reader.proofs.descriptions.read.Goals as goal

pub returns-then-text-gt65535-clause-answers : goal.returns-then-text-gt65535-clause-answers
unfolding described
returns-then-text-gt65535-clause-answers c = rw (c.refused.ensures, lt-ltb 65535 (length c.args.text.now) (omega arith))
