-- `rule` meets its contract. The invariant: the words from place i on are left for the table.
-- Assumes nothing.
use native.Mathlib.Omega.{arith}
use borrow.Author.Tests.{le-leb}
use Rattle.rule_words.proofs.RuleWords.{rule-length}
use Rattle.translation.proofs.Turns.{fits, turned}
use Rattle.translation.proofs.writers.Writer.rule.Goals as goal

pub word-requires : goal.word-requires
word-requires c =
    let a = c.args in
    omega (arith, fits c.loop-i.invariant (omega (arith, rule-length a.n a.law a.t)) c.requires.room)

pub loop-i-preserved : goal.loop-i-preserved
loop-i-preserved c =
    let a = c.args in
    let word = rw (le-leb a.n 32 (omega arith), le-leb a.t 30 (omega arith)) at c.rule_word.ensures in
    turned c.loop-i.invariant (omega (arith, rule-length a.n a.law a.t)) (rw word at c.word.ensures)
