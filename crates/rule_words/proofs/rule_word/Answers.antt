-- `rule_word` meets its contract. By the place of the word in its rule.
-- Assumes nothing.
use native.Mathlib.Omega.{arith}
use Rattle.rule_words.proofs.RuleWords.{rule-within, negated-count-at}
use Rattle.rule_words.proofs.RuleWords.{plain-count-at, negated-at, plain_at, none-at}
use Rattle.rule_words.proofs.rule_word.Goals as goal

pub returns-in-1 : goal.returns-in-1
returns-in-1 c =
    let a = c.args in
    rule-within a.n a.t (omega arith) (omega arith)
    (negated-count-at a.n a.law a.t c.in-1.is c.negated_count-negated.ensures.0)

pub returns-in-2 : goal.returns-in-2
returns-in-2 c =
    let a = c.args in
    rule-within a.n a.t (omega arith) (omega arith)
    (plain-count-at a.n a.law a.t c.in-2.is c.plain_count-plain.ensures.0)

pub returns-in_default : goal.returns-in_default
returns-in_default c =
    let a = c.args in
    rule-within a.n a.t (omega arith) (omega arith)
    (negated-at a.n a.law a.t (omega arith) (omega arith) c.by_kind-new.ensures c.shift.ensures.0
    c.negated_word.ensures)

pub returns-in_default-2 : goal.returns-in_default-2
returns-in_default-2 c =
    let a = c.args in
    rule-within a.n a.t (omega arith) (omega arith)
    (plain_at a.n a.law a.t (omega arith) c.negated_count-negated.ensures.0 (omega arith) (omega arith)
    c.shift-in_default-2.ensures.0 c.plain_word.ensures)

pub returns-in_default-3 : goal.returns-in_default-3
returns-in_default-3 c =
    let a = c.args in
    rule-within a.n a.t (omega arith) (omega arith) (none-at a.n a.law a.t a.i (omega arith))
