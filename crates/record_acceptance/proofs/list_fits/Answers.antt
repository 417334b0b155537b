-- `list_fits` meets its contract: the codes that are listed are tested, if they are at most 6.
-- Assumes nothing.
use Rattle.std.proofs.Common.{rules, tests, take, ltb, le-leb, ◌∙◌}
use Rattle.std.proofs.lemmas.Iterator.{YieldsList-from_slice}
use Rattle.std.proofs.lemmas.Iterator.Search.{all_from_yields_List}
use Rattle.basics.proofs.Results.{list_all_all}
use Rattle.record_acceptance.proofs.list_fits.Goals as goal

pub returns-then-count-le6 : goal.returns-then-count-le6
returns-then-count-le6 c =
    let a = c.args in
    let few = c.if-count-le6.true in
    rw (le-leb a.count 6 few) (
    all_from_yields_List (λ code. ltb code a.limit) _ _ _ c.all.ensures.ran
    (YieldsList-from_slice (take a.count a.codes) cc) (λ x b q k. search (rules, tests))
    ∙ list_all_all (λ code. ltb code a.limit) (take a.count a.codes))
