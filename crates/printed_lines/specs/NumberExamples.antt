-- Worked examples of decimal numbers: the digits from the highest on, none before the first that counts.
-- Assumes nothing.
use Rattle.std.specs.Prelude.{◌≡◌}
use Rattle.basics.specs.Quoted.{bytes}
use Rattle.printed_lines.specs.Writing.{decimal}

pub record NumbersPrinted : Type 0 where
  pub nought : decimal 0 ≡ bytes "0"
  pub one-digit : decimal 9 ≡ bytes "9"
  pub two_digits : decimal 10 ≡ bytes "10"
  pub words : decimal 53 ≡ bytes "53"
  pub most-words : decimal 30912 ≡ bytes "30912"
