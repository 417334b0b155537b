-- `bad_value` meets its contract: the library's search over the bytes is the search for the lowest that is not one value.
-- Assumes nothing.
use Rattle.std.proofs.Common.{rules, tests, ap, ◌∙◌}
use Rattle.std.proofs.lemmas.Iterator.{YieldsList-from_slice}
use Rattle.std.proofs.lemmas.Iterator.Search.{position_from_yields_List}
use Rattle.basics.specs.Refusals.{place_of}
use Rattle.basics.proofs.Results.{position_first}
use Rattle.causal_reading.specs.Readings.{not_one_value}
use Rattle.causal_reading.proofs.bad_value.Goals as goal

pub returns : goal.returns
returns c =
    let values = c.args.values.now in
    ap place_of (position_from_yields_List not_one_value _ _ _ c.position.ensures.ran (YieldsList-from_slice values cc)
    (λ x b q k. search (rules, tests)))
    ∙ position_first not_one_value values
