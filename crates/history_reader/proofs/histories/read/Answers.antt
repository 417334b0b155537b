-- `histories::read` meets its contract. The loop's invariant: the lines left come to what the text comes to.
-- Assumes nothing.
use native.Mathlib.Omega.{arith}
use Prim.Native.Nat.{◌+◌, ◌*◌}
use Rattle.description_reader.specs.Internal.{draft_by}
use Rattle.text.proofs.Placing.{line-fits, line-answers}
use Rattle.history_reader.proofs.Keyed.{same-key, other-key}
use Rattle.history_reader.proofs.Recording.{record-starts, turn-wrong, turn-refused, turn-read}
use Rattle.history_reader.proofs.histories.read.Goals as goal

pub loop-line-init : goal.loop-line-init
loop-line-init c = (
  omega arith,
  omega arith,
  λ laws. record-starts c.args.declared.now.horizon (draft_by c.args.description.now laws c.args.declared.now) c.args.text.now
      c.args.values.now,
)

pub slice_bounds-list-count : goal.slice_bounds-list-count
slice_bounds-list-count c = let e = line-fits _ _ c.line_at-l.ensures in omega (arith, e.ordered, e.inside)

pub slice_bounds-list-start : goal.slice_bounds-list-start
slice_bounds-list-start c = let e = line-fits _ _ c.line_at-l.ensures in omega (arith, e.ordered, e.inside)

pub slice_bounds-list-end : goal.slice_bounds-list-end
slice_bounds-list-end c = let e = line-fits _ _ c.line_at-l.ensures in omega (arith, e.ordered, e.inside)

pub returns-then-ne-clause-answers : goal.returns-then-ne-clause-answers
returns-then-ne-clause-answers c laws =
    let a = c.args in
    let l = c.line_at-l.result in
    let w = c.line_due-w.result in
    turn-wrong a.description.now a.text.now laws a.declared.now (2 * a.declared.now.horizon + 1 + 1) c.loop-line.line c.loop-line.at
    c.loop-line.values l (line-answers _ _ c.line_at-l.ensures) w c.line_due-w.ensures c.loop-line-test.true
    (c.loop-line.invariant.2 laws) (other-key l.key w.key _ c.ne.ensures c.if-ne.true)

pub returns-in-Err-clause-answers : goal.returns-in-Err-clause-answers
returns-in-Err-clause-answers c laws =
    let a = c.args in
    let l = c.line_at-l.result in
    let w = c.line_due-w.result in
    turn-refused a.description.now a.text.now laws a.declared.now (2 * a.declared.now.horizon + 1 + 1) c.loop-line.line c.loop-line.at
    c.loop-line.values l (line-answers _ _ c.line_at-l.ensures) w c.line_due-w.ensures c.loop-line-test.true
    (c.loop-line.invariant.2 laws) (same-key l.key w.key _ c.ne.ensures c.if-ne.false) c.mark_list.result c.mark_list.new.values
    (c.mark_list.ensures.answers c.loop-line.line) c.in-Err.is

pub loop-line-preserved : goal.loop-line-preserved
loop-line-preserved c =
    let a = c.args in
    let l = c.line_at-l.result in
    let w = c.line_due-w.result in (
      omega arith,
      (line-fits _ _ c.line_at-l.ensures).within,
      λ laws. turn-read a.description.now a.text.now laws a.declared.now (2 * a.declared.now.horizon + 1 + 1) c.loop-line.line
          c.loop-line.at c.loop-line.values l (line-answers _ _ c.line_at-l.ensures) w c.line_due-w.ensures c.loop-line-test.true
          (c.loop-line.invariant.2 laws) (same-key l.key w.key _ c.ne.ensures c.if-ne.false) c.mark_list.result
          c.mark_list.new.values (c.mark_list.ensures.answers c.loop-line.line) c.in_default.is c.fill_absent.ensures,
    )
