-- `fluent_name` meets its contract: a name, a number that nothing declares, or a text that is refused.
-- Assumes nothing.
use Prim.Native.Nat.{◌<◌}
use native.Mathlib.Omega.{arith}
use lib.ListN.{length}
use Rattle.text.proofs.Spelling.{spelled-length}
use Rattle.description_reader.specs.Internal.{draft_by}
use Rattle.description_reader.proofs.Answering.{declared-refused}
use Rattle.shown_names.proofs.Showing.{fluent-refused, fluent-shown, fluent-past, value-shown, shown-as}
use Rattle.shown_names.proofs.fluent_name.Goals as goal

pub returns-in-Ok : goal.returns-in-Ok
returns-in-Ok c =
    let text = c.args.text in
    let i = c.args.fluent in
    let e = c.in-Ok.declared in
    let of = c.in-Ok.ensures.bounded in
    let d = draft_by text.now of.laws e in
    let below : i < length d.names = omega (arith, spelled-length text.now e.names, e.declared, c.if-fluent-declared.true) in
    let gives = c.value_of_line.ensures in
    let shown =
    shown-as text c.value_of_line.result (fluent-shown text.now i of.is c.if-fluent-declared.true)
    (value-shown text c.value_of_line.result d of.rest e.lines of.is i below (gives.answers, gives.lies)) in
    record { answers = shown.0; lies = shown.1 }

pub returns-in-Ok-2 : goal.returns-in-Ok-2
returns-in-Ok-2 c =
    let text = c.args.text in
    let of = c.in-Ok.ensures.bounded in
    let shown =
    shown-as text c.no_part.result (fluent-past text.now c.args.fluent of.is c.if-fluent-declared.false) c.no_part.ensures in
    record { answers = shown.0; lies = shown.1 }

pub returns-in-Err : goal.returns-in-Err
returns-in-Err c =
    let text = c.args.text in
    let refuses = declared-refused text.now c.read_alone.ensures.answers c.in-Err.is in
    let shown = shown-as text c.no_part-in-Err.result (fluent-refused text.now c.args.fluent refuses) c.no_part-in-Err.ensures in
    record { answers = shown.0; lies = shown.1 }
