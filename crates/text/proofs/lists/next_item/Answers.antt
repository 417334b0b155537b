-- `lists::next_item` meets its contract: up to the next comma, or to the end.
-- Assumes nothing.
use Rattle.text.proofs.Cutting.{item-size}
use Rattle.text.proofs.lists.next_item.Goals as goal

pub returns-clause-code : goal.returns-clause-code
returns-clause-code c =
    let e = item-size c.args.list.now c.args.from _ c.rest_from-rest.ensures _ c.find.ensures.place in
    rw (c.unwrap_or-size.ensures, e.0) at c.literal.ensures

pub returns-clause-next : goal.returns-clause-next
returns-clause-next c =
    let e = item-size c.args.list.now c.args.from _ c.rest_from-rest.ensures _ c.find.ensures.place in
    rw (c.min.ensures, c.unwrap_or-size.ensures) e.1
