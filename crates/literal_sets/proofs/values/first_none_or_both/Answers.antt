-- `literal_sets::values::first_none_or_both` meets its contract.
-- Assumes nothing.
use Rattle.std.proofs.Common.{rules, tests, ap, ◌∙◌}
use Rattle.std.proofs.lemmas.Iterator.{YieldsList-from_slice}
use Rattle.std.proofs.lemmas.Iterator.Search.{position_from_yields_List}
use Rattle.basics.specs.Refusals.{place_of}
use Rattle.basics.proofs.Results.{position_first}
use Rattle.logic_programs.specs.Literals.{none_or_both}
use Rattle.literal_sets.proofs.values.first_none_or_both.Goals as goal

pub returns : goal.returns
returns c =
    let values = YieldsList-from_slice c.args.values.now cc in
    ap place_of (position_from_yields_List none_or_both _ _ _ c.position.ensures.ran values (λ x b q k. search (rules, tests)))
    ∙ position_first none_or_both c.args.values.now
