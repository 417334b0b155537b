-- `same_name` meets its contract: the library lowers as the definition does.
-- Assumes nothing.
use mathlib.Core.Path.{◌≡◌, ◌∙◌}
use lib.ListN.{drop}
use Rattle.std.proofs.lemmas.List.{take_rest}
use Rattle.spelling.specs.Spelling.{same_name}
use Rattle.spelling.proofs.Library.{same-in-any-case, other-length}
use Rattle.spelling.proofs.same_name.Goals as goal

pub returns-then-a-b : goal.returns-then-a-b
returns-then-a-b c = other-length c.args.a.now c.args.b.now c.if-a-b.true

pub returns-then-a-i : goal.returns-then-a-i
returns-then-a-i c =
    let i = c.loop-i.i in
    let rest : c.eq_ignore_ascii_case.result ≡ same_name (drop i c.args.a.now) (drop i c.args.b.now)
    = rw (← take_rest c.args.a.now i, ← take_rest c.args.b.now i) (same-in-any-case _ _ _ c.eq_ignore_ascii_case.ensures.test) in
    rest ∙ c.loop-i.invariant
