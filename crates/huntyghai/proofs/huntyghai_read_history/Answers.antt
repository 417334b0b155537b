-- `huntyghai_read_history` meets its contract.
-- Assumes nothing.
use mathlib.Core.Path.{◌∙◌, ap}
use lib.ListN.{length}
use Rattle.answer_codes.specs.Codes.{reply_code, read_code}
use Rattle.huntyghai_theory.proofs.CodeLists.{as-listed, history_codes, history-codes}
use Rattle.huntyghai.proofs.huntyghai_read_history.Goals as goal

pub returns : goal.returns
returns c =
    let rh = c.read_history in
    let a = c.args in
    let is = c.of.ensures ∙ ap (reply_code read_code) rh.ensures.answers in
    record {
      answers = is;
      leaves = rh.ensures.leaves;
      possible_codes = as-listed history_codes is (history-codes a.description.now a.text.now (length a.values.now));
    }
