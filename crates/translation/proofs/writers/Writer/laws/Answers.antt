-- `laws` meets its contract. The invariant: the words of the laws not yet passed are left for the table.
-- Assumes nothing.
use native.Mathlib.Omega.{arith}
use lib.ListN.{get_or}
use Rattle.rule_words.proofs.RuleWords.{by-kind-bound}
use Rattle.translation.proofs.Sums.{past}
use Rattle.translation.proofs.Turns.{fits, turned}
use Rattle.translation.proofs.writers.Writer.laws.Goals as goal

pub times-requires : goal.times-requires
times-requires c =
    let a = c.args in
    let kind = (get_or a.laws.now c.loop-law.law-index past).kind in
    let few = by-kind-bound a.static_times a.dynamic_times 31 kind (omega arith) (omega arith) in
    record {
      bound = (omega arith, omega (arith, c.by_kind.ensures, few));
      room = rw c.by_kind.ensures (fits c.loop-law.invariant (omega arith) c.requires.room);
    }

pub loop-law-preserved : goal.loop-law-preserved
loop-law-preserved c = turned c.loop-law.invariant (omega arith) (rw c.by_kind.ensures at c.times.ensures)
