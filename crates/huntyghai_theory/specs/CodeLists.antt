-- Which codes can come: an answer's code, the answer modulo 256, is one of a list (include/huntyghai.h has the lists).
-- Assumes nothing.
use Rattle.std.specs.Prelude.{◌≡◌, true, List, ℕ, ◌%◌}
use Rattle.possible_refusals.specs.Refusals.{among}

unfoldable pub CodeAmong : List ℕ → ℕ → Type 0
CodeAmong codes number = among (number % 256) codes ≡ true
