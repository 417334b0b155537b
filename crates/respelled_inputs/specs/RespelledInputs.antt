-- The program prints the same for an input and for the same with its uses of names respelled, use by use, in any mix of capitals: the
-- same refusal, or the same verdicts with the names as they were declared (02, §3).
-- Assumes nothing.
use Rattle.std.specs.Prelude.{◌≡◌, List, ℕ}
use Rattle.written_form.specs.Respelling.{Respelled}
use Rattle.report_theory.specs.Output.{output}

abbrev pub PrintsAlike : Type 0
PrintsAlike = (input input' : List ℕ) → Respelled input input' → output input ≡ output input'
