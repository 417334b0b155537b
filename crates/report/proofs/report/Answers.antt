-- `report` meets its contract. What the input holds settles which part of the output's definition applies.
-- Assumes nothing.
use mathlib.Core.Path.{sym, ap, ◌∙◌}
use lib.ListN.{replicate}
use Rattle.history_reader.specs.Histories.{history_reply_of}
use Rattle.report_theory.specs.Output.{output}
use Rattle.report_theory.proofs.Reported.{from_first, says-refused, says-values}
use Rattle.report_theory.proofs.Program.{program}
use Rattle.report.proofs.report.Goals as goal

pub returns-in-Err : goal.returns-in-Err
returns-in-Err c =
    let a = c.args in
    let input = a.input.now in
    record {
      writes = from_first a.out.now (output input)
          (rw (says-refused input (sym (ap history_reply_of c.in-Err.is) ∙ c.read_input-whole.ensures.answers))
          c.put_refusal.ensures.writes);
      bounded = c.put_refusal.ensures.bounded;
      printed = program input;
    }

pub returns-in-Ok : goal.returns-in-Ok
returns-in-Ok c =
    let a = c.args in
    let input = a.input.now in
    let e = c.read_input-whole.ensures in
    let is = says-values input (replicate c.read_input-whole.result.atoms 0) e.description e.laws e.values
    (sym (ap history_reply_of c.in-Ok.is) ∙ e.answers) in
    record {
      writes = from_first a.out.now (output input) (rw is c.put_outcome.ensures.fact);
      bounded = c.put_outcome.ensures.upper_bound;
      printed = program input;
    }
