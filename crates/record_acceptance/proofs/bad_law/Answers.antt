-- `bad_law` meets its contract: the laws are searched in their order.
-- Assumes nothing.
use Rattle.std.proofs.Common.{rules, tests, not, ap, ◌∙◌}
use Rattle.std.proofs.lemmas.Iterator.{YieldsList-from_slice}
use Rattle.std.proofs.lemmas.Iterator.Search.{position_from_yields_List}
use Rattle.basics.specs.Refusals.{place_of}
use Rattle.basics.proofs.Results.{position_first}
use Rattle.action_language.specs.declared.Law.{Law}
use Rattle.action_language.specs.Acceptance.{law_fits}
use Rattle.record_acceptance.proofs.bad_law.Goals as goal

pub returns : goal.returns
returns c =
    let a = c.args in
    let bad = λ (law : Law). not (law_fits a.n a.m law) in
    ap place_of (position_from_yields_List bad _ _ _ c.position.ensures.ran
    (YieldsList-from_slice a.laws.now cc) (λ x b q k. search (rules, tests)))
    ∙ position_first bad a.laws.now
