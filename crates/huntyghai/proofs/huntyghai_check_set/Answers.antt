-- `huntyghai_check_set` meets its contract.
-- Assumes nothing.
use mathlib.Core.Path.{◌∙◌, ap, subst}
use Rattle.answer_set_theory.specs.Demand2.{Demand2}
use Rattle.answer_codes.specs.Codes.{reply_code, verdict_code}
use Rattle.huntyghai_theory.proofs.SetCodes.{set-numbered}
use Rattle.huntyghai_theory.proofs.CodeLists.{as-listed, engine_codes, set-codes}
use Rattle.huntyghai.proofs.huntyghai_check_set.Goals as goal

pub returns : goal.returns
returns c =
    let s = c.check_set in
    let a = c.args in
    let vs = a.values.now in
    let ws = a.table.now in
    let is = c.of.ensures ∙ ap (reply_code verdict_code) s.ensures.answers in
    record {
      answers = is;
      demand_2 = set-numbered vs ws _ is (subst (Demand2 vs ws) s.ensures.answers s.ensures.demand_2);
      possible_codes = as-listed engine_codes is (set-codes vs ws);
    }
