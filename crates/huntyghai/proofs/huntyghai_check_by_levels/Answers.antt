-- `huntyghai_check_by_levels` meets its contract.
-- Assumes nothing.
use mathlib.Core.Path.{◌∙◌, ap, subst}
use Rattle.completion_theory.specs.Meaning.{SaysLevels}
use Rattle.answer_codes.specs.Codes.{reply_code}
use Rattle.answer_codes.specs.FormulaCodes.{formula_code}
use Rattle.huntyghai_theory.proofs.FormulaNumbers.{levels-numbered}
use Rattle.huntyghai_theory.proofs.CodeLists.{as-listed, level_codes, level-codes}
use Rattle.huntyghai.proofs.huntyghai_check_by_levels.Goals as goal

pub returns : goal.returns
returns c =
    let s = c.check_by_levels in
    let a = c.args in
    let vs = a.values.now in
    let ws = a.table.now in
    let ls = a.levels.now in
    let is = c.of.ensures ∙ ap (reply_code formula_code) s.ensures.answers in
    record {
      answers = is;
      by_levels = levels-numbered vs ws ls _ is (subst (SaysLevels vs ws ls) s.ensures.answers s.ensures.by_levels);
      possible_codes = as-listed level_codes is (level-codes vs ws ls);
    }
