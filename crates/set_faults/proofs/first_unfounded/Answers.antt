-- `set_faults::first_unfounded` meets its contract.
-- Assumes nothing.
use native.Mathlib.Omega.{arith}
use Rattle.std.proofs.lemmas.Slice.Eq.{slice_eq-Decides}
use Rattle.std.proofs.lemmas.Bool.Decides.{Decides-eqb}
use mathlib.Core.Path.{◌≡◌, sym, ◌∙◌}
use Rattle.basics.specs.Search.{range}
use Rattle.literal_sets.specs.Marks.{marked}
use Rattle.basics.proofs.Loops.{range-go}
use Rattle.set_faults.proofs.Faults.{none-unfounded}
use Rattle.set_faults.proofs.first_unfounded.Goals as goal

pub returns-then-eq : goal.returns-then-eq
returns-then-eq c =
    let same : c.args.x.now ≡ c.args.least.now = (slice_eq-Decides Decides-eqb _ _ _ c.eq.ensures).0 c.if-eq.true in
    rw same (none-unfounded (marked c.args.least.now) 0 (range 0 c.args.codes))

pub loop-code-preserved : goal.loop-code-preserved
loop-code-preserved c =
    (omega arith, range-go _ _ _ c.loop-code-test.true c.loop-code.invariant.1 (sym c.is_unfounded.ensures ∙ c.if-is_unfounded.false))
