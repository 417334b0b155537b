-- `lines::line_start` meets its contract. The loop's invariant: the place is where the next line begins.
-- Assumes nothing.
use Rattle.std.proofs.Common.{◌≡◌, ◌≤◌, length}
use Rattle.text_forms.specs.Places.{start_of_line}
use Rattle.text.proofs.lines.line_start.Given as goal

abbrev pub invariant-loop : goal.invariant-loop
invariant-loop l = (l.at ≤ length l.text) × (l.at ≡ start_of_line l.counter l.text)
