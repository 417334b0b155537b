-- `holds` meets its contract: the library's search over a list for one that fails finds none exactly where all hold.
-- Assumes nothing.
use Rattle.std.proofs.Common.{rules, tests, ◌∙◌}
use Rattle.std.proofs.lemmas.Iterator.{YieldsList-from_slice}
use Rattle.std.proofs.lemmas.Iterator.Search.{all_from_yields_List}
use Rattle.basics.proofs.Results.{list_all_all}
use Rattle.transitions.specs.Meaning.{satisfies, together}
use Rattle.law_effects.specs.Applying.{read}
use Rattle.law_effects.proofs.literals.holds.Goals as goal

pub returns : goal.returns
returns c =
    let a = c.args in
    let test = satisfies (together a.n (read a.old.now) (read a.done.now)) in
    all_from_yields_List test _ _ _ c.all.ensures.ran (YieldsList-from_slice a.codes.now cc) (λ x b q k. search (rules, tests))
    ∙ list_all_all test a.codes.now
