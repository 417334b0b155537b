-- `history_check::check_history` meets its contract: the translation for a history is written, and the verdict is on its words.
-- Assumes nothing.
use mathlib.Core.Path.{sym, ap, ◌∙◌}
use native.Mathlib.Omega.{arith}
use lib.ListN.{take, length-take}
use Rattle.std.proofs.Common.{rules}
use Rattle.translation_rules.proofs.Outcomes.{written-accepted}
use Rattle.translation_rules.proofs.Histories.{written-passed, refused-left, written-left}
use Rattle.translation.proofs.Handed.{none-handed}
use Rattle.history_check.specs.Checks.{finding}
use Rattle.history_check.proofs.Judging.{words-front, says-refused, says-verdict, leaves_table}
use Rattle.history_check.proofs.check_history.Goals as goal

pub slice_bounds-verdict-end : goal.slice_bounds-verdict-end
slice_bounds-verdict-end c =
    let e = sym c.in_ok-written.ensures.answers in
    let a = written-accepted _ _ _ _ (written-passed _ _ _ _ _ _ e).translated in
    omega (arith, a.words, a.room-enough, c.translate_for_history.auto.table)

pub slice_bounds-verdict-end-2 : goal.slice_bounds-verdict-end-2
slice_bounds-verdict-end-2 c =
    let e = sym c.in_ok-written.ensures.answers in
    let a = written-accepted _ _ _ _ (written-passed _ _ _ _ _ _ e).translated in
    let last = c.translate_for_history.new.table in
    omega (arith, a.words, a.room-enough, c.translate_for_history.auto.table, length-take c.in_ok-written.written.words last)

pub returns-in_err-written : goal.returns-in_err-written
returns-in_err-written c =
    let a = c.args in
    let e = sym c.in_err-written.ensures.answers in
    let said = says-refused _ _ _ a.values.now a.table.now e in
    let kept = none-handed tt _ c.translate_for_history.ensures.numbered in
    record {
      answers = search (rules, said);
      numbered = search (rules, kept);
      leaves = c.translate_for_history.ensures.leaves ∙ refused-left _ _ _ _ _ a.table.now e ∙ said.1;
    }

pub returns : goal.returns
returns c =
    let a = c.args in
    let vs = a.values.now in
    let table = a.table.now in
    let e = sym c.in_ok-written.ensures.answers in
    let words = (written-accepted _ _ _ _ (written-passed _ _ _ _ _ _ e).translated).words in
    let left = c.translate_for_history.ensures.leaves ∙ written-left _ _ _ _ _ table e in
    let front = ap (take c.in_ok-written.written.words) left ∙ words-front _ table _ words in
    record {
      answers = says-verdict _ _ _ vs table e _ (c.verdict.ensures.answers ∙ ap (finding vs) front);
      numbered = c.verdict.ensures.numbered;
      leaves = left ∙ leaves_table _ _ _ vs table e;
    }
