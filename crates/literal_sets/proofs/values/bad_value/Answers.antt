-- `literal_sets::values::bad_value` meets its contract.
-- Assumes nothing.
use Rattle.std.proofs.Common.{rules, tests, ltb, ap, ◌∙◌}
use Rattle.std.proofs.lemmas.Iterator.{YieldsList-from_slice}
use Rattle.std.proofs.lemmas.Iterator.Search.{position_from_yields_List}
use Rattle.basics.specs.Refusals.{place_of}
use Rattle.basics.proofs.Results.{position_first}
use Rattle.literal_sets.proofs.values.bad_value.Goals as goal

pub returns : goal.returns
returns c =
    let values = YieldsList-from_slice c.args.values.now cc in
    ap place_of (position_from_yields_List (ltb 3) _ _ _ c.position.ensures.ran values (λ x b q k. search (rules, tests)))
    ∙ position_first (ltb 3) c.args.values.now
