-- `completion::heads::body_holds` meets its contract.
-- Assumes nothing.
use Rattle.logic_programs.specs.Literals.{set_of}
use Rattle.completion.proofs.Fronts.{holds-stop, holds-go}
use Rattle.completion.proofs.heads.body_holds.Goals as goal

pub returns-then-complements_hold : goal.returns-then-complements_hold
returns-then-complements_hold c =
    let negated = rw c.negated.ensures at c.complements_hold.ensures in
    holds-go (set_of c.args.values.now) c.args.rule.words.now _ negated _ c.if-complements_hold.true
    (rw c.plain.ensures at c.parts_hold.ensures)

pub returns-else-complements_hold : goal.returns-else-complements_hold
returns-else-complements_hold c =
    let negated = rw c.negated.ensures at c.complements_hold.ensures in
    holds-stop (set_of c.args.values.now) c.args.rule.words.now _ negated c.if-complements_hold.false
