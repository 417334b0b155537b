-- Answers by the completion formulas as numbers.
-- Assumes nothing.
use Rattle.std.specs.Prelude.{ℕ}
use Rattle.logic_programs.specs.Words.{head_word}
use Rattle.completion_theory.specs.Findings.{FormulaFinding, missing, clash, fails, holds}
use Rattle.answer_codes.specs.Codes.{coded}

-- holds 72, fails 73 with the head word; missing and clash are those of the history check
abbrev pub formula_code : FormulaFinding → ℕ
formula_code (missing atom) = coded 68 atom
formula_code (clash atom) = coded 65 atom
formula_code (fails head) = coded 73 (head_word head)
formula_code holds = coded 72 0
