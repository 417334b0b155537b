-- The worked examples of decimal numbers.
-- Assumes nothing.
use mathlib.Core.Path.{refl}
use Rattle.printed_lines.specs.Writing.{decimal}
use Rattle.printed_lines.specs.NumberExamples.{NumbersPrinted}

pub numbers-printed : NumbersPrinted
unfolding decimal
numbers-printed = record {
  nought = refl;
  one-digit = refl;
  two_digits = refl;
  words = refl;
  most-words = refl;
}
