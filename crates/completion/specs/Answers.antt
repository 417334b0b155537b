-- What the code's answers stand for.
-- Assumes nothing.
use Rattle.std.specs.Prelude.{Result}
use Rattle.basics.specs.declared.Refusal.{Refusal}
use Rattle.basics.specs.Replies.{Reply}
use Rattle.basics.specs.Refusals.{reply_by}
use Rattle.logic_programs.specs.Words.{head_of}
use Rattle.completion_theory.specs.Findings.{FormulaFinding, missing, clash, fails, holds}
use Rattle.completion.specs.declared.Finding.{Finding}
use Rattle.completion.specs.declared.Finding.TheVariants.{Missing, Clash, Fails, Holds}

-- the finding that each case of the code's finding stands for; what fails is given by its head word
abbrev pub finding_of : Finding → FormulaFinding
finding_of (Missing atom) = missing atom
finding_of (Clash atom) = clash atom
finding_of (Fails word) = fails (head_of word)
finding_of Holds = holds

abbrev pub reply_of : Result Finding Refusal → Reply FormulaFinding
reply_of = reply_by finding_of
