-- `negated_word` meets its contract. The complement of an even code is the next one, and of an odd code the one before.
-- Assumes nothing.
use borrow.Author.Tests.{eq-eqb, ne_eqb}
use Rattle.logic_programs.specs.Literals.{complement}
use Rattle.rule_words.proofs.negated_word.Goals as goal

pub returns-then-code-eq0 : goal.returns-then-code-eq0
unfolding complement
returns-then-code-eq0 c = rw (← c.from.ensures, eq-eqb _ 0 c.if-code-eq0.true)

pub returns-else-code-eq0 : goal.returns-else-code-eq0
unfolding complement
returns-else-code-eq0 c = rw (← c.from.ensures, ne_eqb _ 0 c.if-code-eq0.false)
