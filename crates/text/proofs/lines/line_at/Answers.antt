-- `lines::line_at` meets its contract: cut at the line's end, then at its equals sign.
-- Assumes nothing.
use mathlib.Core.Path.{◌∙◌}
use Rattle.basics.proofs.Results.{at_place, no_place}
use Rattle.text.proofs.Cutting.{line-none, line-bare, line-whole}
use Rattle.text.proofs.lines.line_at.Goals as goal

pub returns-in_default : goal.returns-in_default
returns-in_default c =
    c.no_line.ensures
    ∙ line-none c.args.text.now c.args.at _ c.rest_from-rest.ensures (no_place c.find.ensures.place c.in_default.is)

pub returns-in_default-find : goal.returns-in_default-find
returns-in_default-find c =
    let ends = at_place c.find.ensures.place c.in-Some.is in
    c.no_line-in_default-find.ensures
    ∙ line-bare c.args.text.now c.args.at _ c.rest_from-rest.ensures _ ends
    (no_place c.find-2.ensures.place c.in_default-find.is)

pub returns : goal.returns
returns c =
    let ends = at_place c.find.ensures.place c.in-Some.is in
    let splits = at_place c.find-2.ensures.place c.in-Some-find.is in
    line-whole c.args.text.now c.args.at _ c.rest_from-rest.ensures _ ends _ splits _ c.key_of.ensures
