-- `rule` meets its contract. The invariant: the words from place i on are left for the table.
-- Assumes nothing.
use Rattle.logic_programs.specs.Words.{rule_words}
use Rattle.rule_words.specs.Internal.{rule_for}
use Rattle.translation.proofs.Turns.{one_by_one, Before}
use Rattle.translation.proofs.writers.Writer.rule.Given as goal

abbrev pub invariant-loop-i : goal.invariant-loop-i
invariant-loop-i l =
    let ws = rule_words (rule_for l.n l.law.kind l.law l.t) in
    Before (one_by_one ws) l.i l.self l.initial.self ws
