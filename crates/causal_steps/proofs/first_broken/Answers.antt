-- `first_broken` meets its contract: the library's search over the laws is the search for the lowest that the state breaks.
-- Assumes nothing.
use Rattle.std.proofs.Common.{rules, tests, ap, ◌∙◌}
use Rattle.std.proofs.lemmas.Iterator.{YieldsList-from_slice}
use Rattle.std.proofs.lemmas.Iterator.Search.{position_from_yields_List}
use Rattle.basics.specs.Refusals.{place_of}
use Rattle.basics.proofs.Results.{position_first}
use Rattle.law_effects.specs.Applying.{read, contradicts, applies_at_start}
use Rattle.causal_steps.proofs.first_broken.Goals as goal

pub returns : goal.returns
returns c =
    let state = read c.args.state.now in
    let laws = c.args.laws.now in
    let broken = contradicts (applies_at_start state) state in
    ap place_of (position_from_yields_List broken _ _ _ c.position.ensures.ran (YieldsList-from_slice laws cc)
    (λ x b q k. search (rules, tests)))
    ∙ position_first broken laws
