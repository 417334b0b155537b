-- `completion::judge` meets its contract.
-- Assumes nothing.
use mathlib.Core.Path.{sym, ◌∙◌, ap}
use Rattle.literal_sets.specs.Faults.{fault_of}
use Rattle.completion.proofs.Judging.{says-fault}
use Rattle.completion.proofs.judge.Goals as goal

pub returns-in-Some-Missing : goal.returns-in-Some-Missing
returns-in-Some-Missing c = says-fault _ _ (rw c.in-Some-Missing.field-0-is at c.in-Some-Missing.ensures)

pub returns-in-Some-Clash : goal.returns-in-Some-Clash
returns-in-Some-Clash c = says-fault _ _ (rw c.in-Some-Clash.field-0-is at c.in-Some-Clash.ensures)

pub returns-in-None : goal.returns-in-None
returns-in-None c =
    c.judge_formulas.ensures ∙ says-fault _ _ (sym (ap fault_of c.in-None.is) ∙ c.first_fault.ensures)
