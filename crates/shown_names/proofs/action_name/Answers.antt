-- `action_name` meets its contract: a name, a number that nothing declares, or a text that is refused.
-- Assumes nothing.
use Prim.Native.Nat.{◌+◌, ◌≤◌, ◌<◌}
use native.Mathlib.Omega.{arith}
use lib.ListN.{length}
use Rattle.text.proofs.Spelling.{spelled-length}
use Rattle.description_reader.specs.Internal.{draft_by}
use Rattle.description_reader.proofs.Answering.{declared-refused}
use Rattle.shown_names.proofs.Showing.{action-refused, action-shown, action-past, value-shown, shown-as}
use Rattle.shown_names.proofs.action_name.Goals as goal

pub returns-then-action-actions : goal.returns-then-action-actions
returns-then-action-actions c =
    let text = c.args.text in
    let e = c.in-Ok.declared in
    let of = c.in-Ok.ensures.bounded in
    let d = draft_by text.now of.laws e in
    let i = e.fluents + c.args.action in
    let below : i < length d.names = omega (arith, spelled-length text.now e.names, c.if-action-actions.true) in
    let gives = c.value_of_line.ensures in
    let shown =
    shown-as text c.value_of_line.result (action-shown text.now c.args.action of.is below)
    (value-shown text c.value_of_line.result d of.rest e.lines of.is i below (gives.answers, gives.lies)) in
    record { answers = shown.0; lies = shown.1 }

pub returns-else-action-actions : goal.returns-else-action-actions
returns-else-action-actions c =
    let text = c.args.text in
    let e = c.in-Ok.declared in
    let of = c.in-Ok.ensures.bounded in
    let d = draft_by text.now of.laws e in
    let past : length d.names ≤ e.fluents + c.args.action = omega (arith, spelled-length text.now e.names, c.if-action-actions.false) in
    let shown = shown-as text c.no_part.result (action-past text.now c.args.action of.is past) c.no_part.ensures in
    record { answers = shown.0; lies = shown.1 }

pub returns-in-Err : goal.returns-in-Err
returns-in-Err c =
    let text = c.args.text in
    let refuses = declared-refused text.now c.read_alone.ensures.answers c.in-Err.is in
    let shown = shown-as text c.no_part-in-Err.result (action-refused text.now c.args.action refuses) c.no_part-in-Err.ensures in
    record { answers = shown.0; lies = shown.1 }
