-- `names::find_name` meets its contract: no bytes are no name, and the library's search goes over the places.
-- Assumes nothing.
use borrow.Author.Tests.{eqb-false}
use Rattle.std.proofs.Common.{rules, tests, ap, sym, ◌∙◌, take}
use Rattle.std.proofs.lemmas.Iterator.{YieldsList-from_slice, YieldsList-from_take}
use Rattle.std.proofs.lemmas.Iterator.Search.{position_from_yields_List}
use Rattle.basics.specs.Refusals.{place_of}
use Rattle.basics.proofs.Results.{position_first}
use Rattle.spelling.specs.Spelling.{same_name}
use Rattle.text.specs.Internal.{at_place}
use Rattle.text.proofs.Spelling.{search-places}
use Rattle.text.proofs.names.find_name.Goals as goal

pub returns-clause-place : goal.returns-clause-place
returns-clause-place c =
    let a = c.args in
    ap place_of
    (position_from_yields_List (λ place. same_name a.name.now (at_place a.text.now place)) _ _ _ c.position.ensures.ran
    (YieldsList-from_take a.names.now.count (YieldsList-from_slice a.names.now.places cc) cc)
    (λ x b q k. search (rules, tests)))
    ∙ position_first (λ place. same_name a.name.now (at_place a.text.now place)) (take a.names.now.count a.names.now.places)
    ∙ search-places a.text.now a.names.now a.name.now (eqb-false _ _ (sym c.is_empty.ensures ∙ c.if-is_empty.false))
