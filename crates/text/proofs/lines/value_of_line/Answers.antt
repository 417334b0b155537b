-- `lines::value_of_line` meets its contract: the line that begins at its start, and its value's place.
-- Assumes nothing.
use native.Mathlib.Omega.{arith}
use Rattle.text.proofs.Placing.{line-fits}
use Rattle.text.proofs.lines.value_of_line.Goals as goal

pub slice_bounds-result-count : goal.slice_bounds-result-count
slice_bounds-result-count c = let e = line-fits _ _ c.line_at-line.ensures in omega (arith, e.ordered, e.inside)

pub slice_bounds-result-start : goal.slice_bounds-result-start
slice_bounds-result-start c = let e = line-fits _ _ c.line_at-line.ensures in omega (arith, e.ordered, e.inside)

pub slice_bounds-result-end : goal.slice_bounds-result-end
slice_bounds-result-end c = let e = line-fits _ _ c.line_at-line.ensures in omega (arith, e.ordered, e.inside)
