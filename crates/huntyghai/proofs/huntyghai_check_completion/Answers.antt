-- `huntyghai_check_completion` meets its contract.
-- Assumes nothing.
use mathlib.Core.Path.{◌∙◌, ap, subst}
use Rattle.completion_theory.specs.Meaning.{SaysFormulas}
use Rattle.answer_codes.specs.Codes.{reply_code}
use Rattle.answer_codes.specs.FormulaCodes.{formula_code}
use Rattle.huntyghai_theory.proofs.FormulaNumbers.{completion-numbered}
use Rattle.huntyghai_theory.proofs.CodeLists.{as-listed, completion_codes, completion-codes}
use Rattle.huntyghai.proofs.huntyghai_check_completion.Goals as goal

pub returns : goal.returns
returns c =
    let s = c.check_completion in
    let a = c.args in
    let vs = a.values.now in
    let ws = a.table.now in
    let is = c.of.ensures ∙ ap (reply_code formula_code) s.ensures.answers in
    record {
      answers = is;
      by_formulas = completion-numbered vs ws _ is (subst (SaysFormulas vs ws) s.ensures.answers s.ensures.by_formulas);
      possible_codes = as-listed completion_codes is (completion-codes vs ws);
    }
