-- `histories::mark_list` meets its contract. The loop's invariant: the items passed have marked the values, and those left come to what
-- the list comes to.
-- Assumes nothing.
use native.Mathlib.Omega.{arith}
use Rattle.basics.proofs.Results.{at_place, no_place}
use Rattle.text.proofs.Items.{next-later}
use Rattle.history_reader.proofs.Recording.{marked-one, marked-all, marked-refused}
use Rattle.history_reader.proofs.histories.mark_list.Goals as goal

pub loop-i-smaller : goal.loop-i-smaller
loop-i-smaller c =
    omega (arith, c.next_item-item.ensures.next, next-later c.args.list.now c.loop-i.i c.loop-i-test.true)

pub loop-i-preserved : goal.loop-i-preserved
loop-i-preserved c =
    let a = c.args in
    let item = c.next_item-item.ensures in (
      omega (arith, item.next, next-later a.list.now c.loop-i.i c.loop-i-test.true),
      marked-one _ _ a.list.now _ c.loop-i.i _ c.loop-i.values c.loop-i.invariant.1 c.loop-i-test.true c.requires
          _ _ (at_place item.code c.in-Some.is) item.next _ c.mark.ensures,
    )

pub returns-in_default-clause-answers : goal.returns-in_default-clause-answers
returns-in_default-clause-answers c line next =
    marked-refused _ _ c.args.list.now _ c.loop-i.i c.args.values.now c.loop-i.values c.first_place-i.ensures c.loop-i.invariant.1
    c.loop-i-test.true c.requires (no_place c.next_item-item.ensures.code c.in_default.is) line next

pub returns-clause-answers : goal.returns-clause-answers
returns-clause-answers c line next =
    marked-all _ _ c.args.list.now _ c.loop-i.i c.args.values.now c.loop-i.values c.first_place-i.ensures c.loop-i.invariant.1
    c.loop-i-test.false line next
