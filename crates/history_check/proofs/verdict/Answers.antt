-- `verdict` meets its contract: the lowest atom without one value decides, else the engine.
-- Assumes nothing.
use mathlib.Core.Path.{sym, ap, ◌∙◌}
use Rattle.std.proofs.Common.{rules}
use Rattle.literal_sets.specs.Faults.{fault_of}
use Rattle.basics.specs.Replies.{answered}
use Rattle.history_check.proofs.Judging.{says-fault, says-engine}
use Rattle.history_check.proofs.verdict.Goals as goal

pub returns-in-Some-clause-answers : goal.returns-in-Some-clause-answers
returns-in-Some-clause-answers c =
    ap answered c.into.ensures
    ∙ says-fault c.args.values.now c.args.words.now c.in-Some.fault (sym c.first_fault.ensures ∙ ap fault_of c.in-Some.is)

pub returns-in_err-verdict-clause-answers : goal.returns-in_err-verdict-clause-answers
returns-in_err-verdict-clause-answers c =
    let none = sym c.first_fault.ensures ∙ ap fault_of c.in_default.is in
    let said = says-engine c.args.values.now c.args.words.now none c.in_err-verdict.ensures.answers in
    search (rules, said)

pub returns-clause-answers : goal.returns-clause-answers
returns-clause-answers c =
    let none = sym c.first_fault.ensures ∙ ap fault_of c.in_default.is in
    ap answered c.into-2.ensures
    ∙ says-engine c.args.values.now c.args.words.now none c.in_ok-verdict.ensures.answers
