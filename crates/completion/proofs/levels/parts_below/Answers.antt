-- `completion::levels::parts_below` meets its contract.
-- Assumes nothing.
use Rattle.std.proofs.Common.{rules, tests, ◌∙◌}
use Rattle.std.proofs.lemmas.Iterator.{YieldsList-from_slice}
use Rattle.std.proofs.lemmas.Iterator.Search.{all_from_yields_List}
use Rattle.basics.proofs.Results.{list_all_all}
use Rattle.completion_theory.specs.LevelLists.{is_below}
use Rattle.completion.proofs.levels.parts_below.Goals as goal

pub returns : goal.returns
returns c =
    let test = is_below c.args.levels.now c.args.top in
    let parts = YieldsList-from_slice c.args.parts.now cc in
    all_from_yields_List test _ _ _ c.all.ensures.ran parts (λ x b q k. search (rules, tests))
    ∙ list_all_all test c.args.parts.now
