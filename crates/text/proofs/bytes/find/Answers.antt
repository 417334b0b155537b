-- `bytes::find` meets its contract: the library's search.
-- Assumes nothing.
use Rattle.std.proofs.Common.{rules, tests, eqb, ap, ◌∙◌}
use Rattle.std.proofs.lemmas.Iterator.{YieldsList-from_slice}
use Rattle.std.proofs.lemmas.Iterator.Search.{position_from_yields_List}
use Rattle.basics.specs.Refusals.{place_of}
use Rattle.basics.proofs.Results.{position_first}
use Rattle.text.proofs.bytes.find.Goals as goal

pub returns-clause-place : goal.returns-clause-place
returns-clause-place c =
    ap place_of
    (position_from_yields_List (eqb c.args.b) _ _ _ c.position.ensures.ran (YieldsList-from_slice c.args.bytes.now cc)
    (λ x b q k. search (rules, tests)))
    ∙ position_first (eqb c.args.b) c.args.bytes.now
