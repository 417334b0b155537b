-- `completion::levels::bad_levels` meets its contract.
-- Assumes nothing.
use borrow.Author.Tests.{eq-eqb, ne_eqb}
use mathlib.Core.Path.{refl}
use Rattle.completion.proofs.Judging.{says-count, says-rules}
use Rattle.completion.proofs.levels.bad_levels.Goals as goal

pub returns-then-levels-atoms : goal.returns-then-levels-atoms
returns-then-levels-atoms c = says-count _ _ _ (rw (ne_eqb _ _ c.if-levels-atoms.true) refl)

pub returns : goal.returns
returns c = says-rules _ _ _ (rw (eq-eqb _ _ c.if-levels-atoms.false) refl) c.first_not_above.ensures
