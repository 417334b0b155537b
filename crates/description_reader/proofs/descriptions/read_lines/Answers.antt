-- `descriptions::read_lines` meets its contract.
-- Assumes nothing.
use native.Mathlib.Omega.{arith}
use mathlib.Core.Path.{refl, sym, ◌∙◌, ap}
use Prim.Native.Nat.{◌-◌, ◌≤◌}
use lib.ListN.{take, drop}
use Rattle.text_forms.specs.Keys.{number_of_key}
use Rattle.text.proofs.Placing.{line-fits}
use Rattle.text.proofs.Spelling.{literal-small}
use Rattle.text.proofs.Items.{next-later}
use Rattle.description_reader.specs.Internal.{listed_of, step_of}
use Rattle.description_reader.proofs.Gathering.{turn_on, turn-off, turn-done}
use Rattle.description_reader.proofs.Naming.{placed-by, placed-later, placed-start, placed-names}
use Rattle.description_reader.proofs.Walking.{left, left-start, here-by, turn-no-line, turn-refused, turn-step}
use Rattle.description_reader.proofs.Walking.{listing-begins, high-32, from-bound}
use Rattle.description_reader.proofs.descriptions.read_lines.Goals as goal

pub lines-init : goal.lines-init
lines-init c =
    let text = c.args.text.now in
    record {
      within = omega arith;
      few = omega arith;
      starts = refl;
      names = c.begun-state.ensures.names;
      lent = c.begun-state.ensures.lent;
      lines = ap (λ x. left text c.args.lent x 0 0) (c.begun-state.ensures.step text) ∙ left-start text c.args.lent c.requires;
    }

pub slice_bounds-list-count : goal.slice_bounds-list-count
slice_bounds-list-count c = (line-fits _ _ c.line_at-l.ensures).ordered

pub slice_bounds-list-start : goal.slice_bounds-list-start
slice_bounds-list-start c = (line-fits _ _ c.line_at-l.ensures).ordered

pub slice_bounds-list-end : goal.slice_bounds-list-end
slice_bounds-list-end c = (line-fits _ _ c.line_at-l.ensures).inside

pub loop-i-init : goal.loop-i-init
loop-i-init c = record { inside = rw c.first_item-i.ensures (from-bound _ _ _ _); items = rw c.none-gathered.ensures }

pub push-requires : goal.push-requires
push-requires c =
    let few : c.sort_end-high.result ≤ 32 = rw c.sort_end-high.ensures (high-32 (number_of_key c.in-Some-key.key) c.lines.state) in
    rw c.next_item-item.ensures.code (literal-small _ 0 _ _ few)

pub loop-i-smaller : goal.loop-i-smaller
loop-i-smaller c =
    let l = c.line_at-l.result in
    let list = take (l.to - l.from) (drop l.from c.args.text.now) in
    omega (arith, c.next_item-item.ensures.next, next-later list c.loop-i.i c.loop-i-test.true)

pub loop-i-preserved : goal.loop-i-preserved
loop-i-preserved c =
    let l = c.line_at-l.result in
    let list = take (l.to - l.from) (drop l.from c.args.text.now) in
    let item = c.next_item-item.ensures in
    record {
      inside = omega (arith, item.next, next-later list c.loop-i.i c.loop-i-test.true);
      items = turn_on _ _ list c.loop-i.i c.loop-i-test.true _ _ c.loop-i.invariant.items item.code _ _ item.next
          (ap (λ r. listed_of r c.push.new.self) (sym c.in-Ok.is) ∙ c.push.ensures.answers);
    }

-- In the answers below `placed` says where the line stands, `here` what the reader knows there, and `gathered` that the items are read.
pub lines-smaller : goal.lines-smaller
lines-smaller c =
    let placed = placed-by c.lines.invariant.starts c.line_at-l.ensures c.in-Some-key.is in
    omega (arith, placed-later placed, (line-fits _ _ c.line_at-l.ensures).within)

pub lines-preserved : goal.lines-preserved
lines-preserved c =
    let text = c.args.text.now in
    let known = c.lines.invariant in
    let l = c.line_at-l.result in
    let key = c.in-Some-key in
    let placed = placed-by c.lines.invariant.starts c.line_at-l.ensures c.in-Some-key.is in
    let here = here-by c.lines.state c.in-Some.is c.lines.invariant.lent c.line_at-l.ensures c.lines.invariant.lines in
    let gathered =
    turn-done _ _ (take (l.to - l.from) (drop l.from text)) c.loop-i.i _ c.loop-i-test.false c.loop-i.invariant.items
    ∙ listing-begins here key.key key.is c.sort_end-high.ensures c.has_room.ensures c.first_item-i.ensures in
    record {
      within = (line-fits _ _ c.line_at-l.ensures).within;
      few = omega (arith, placed-later placed);
      starts = placed-start placed;
      names = placed-names placed known.names (rw c.in-Ok-line_step.is at c.line_step.ensures.names);
      lent = c.line_step.ensures.lent ∙ known.lent;
      lines = turn-step here key.key key.is _ gathered _
          (ap (λ r. step_of text r c.line_step.new.self) (sym c.in-Ok-line_step.is) ∙ c.line_step.ensures.step c.in-Some.due c.in-Some.is);
    }

pub returns-in_default-key-clause-answers : goal.returns-in_default-key-clause-answers
returns-in_default-key-clause-answers c =
    let here = here-by c.lines.state c.in-Some.is c.lines.invariant.lent c.line_at-l.ensures c.lines.invariant.lines in
    rw c.refused.ensures (turn-no-line here c.in_default-key.is)

pub returns-in-Err-clause-answers : goal.returns-in-Err-clause-answers
returns-in-Err-clause-answers c =
    let text = c.args.text.now in
    let l = c.line_at-l.result in
    let key = c.in-Some-key in
    let here = here-by c.lines.state c.in-Some.is c.lines.invariant.lent c.line_at-l.ensures c.lines.invariant.lines in
    let begins = listing-begins here key.key key.is c.sort_end-high.ensures c.has_room.ensures c.first_item-i.ensures in
    rw c.refused-in-Err.ensures
    (turn-refused here key.key key.is _
    (turn-off _ _ (take (l.to - l.from) (drop l.from text)) c.loop-i.i c.loop-i-test.true _ _ (c.loop-i.invariant.items ∙ begins)
    c.next_item-item.ensures.code _ (ap (λ r. listed_of r c.push.new.self) (sym c.in-Err.is) ∙ c.push.ensures.answers)))

pub returns-in-Err-line_step-clause-answers : goal.returns-in-Err-line_step-clause-answers
returns-in-Err-line_step-clause-answers c =
    let text = c.args.text.now in
    let l = c.line_at-l.result in
    let key = c.in-Some-key in
    let here = here-by c.lines.state c.in-Some.is c.lines.invariant.lent c.line_at-l.ensures c.lines.invariant.lines in
    let gathered =
    turn-done _ _ (take (l.to - l.from) (drop l.from text)) c.loop-i.i _ c.loop-i-test.false c.loop-i.invariant.items
    ∙ listing-begins here key.key key.is c.sort_end-high.ensures c.has_room.ensures c.first_item-i.ensures in
    rw c.refused-in-Err-line_step.ensures
    (turn-step here key.key key.is _ gathered _
    (ap (λ r. step_of text r c.line_step.new.self) (sym c.in-Err-line_step.is) ∙ c.line_step.ensures.step c.in-Some.due c.in-Some.is))
