-- `first_uncaused` meets its contract: the library's search over the range is the search for the lowest whose literal is not marked.
-- Assumes nothing.
use Rattle.std.proofs.Common.{rules, tests, ℕ, Bool, not, refl}
use native.Mathlib.Nat.{sub-zero}
use Rattle.std.proofs.lemmas.Iterator.{YieldsList-from_range}
use Rattle.std.proofs.lemmas.Iterator.Search.{find_from_yields_List}
use Rattle.law_effects.specs.Applying.{read, literal_in}
use Rattle.causal_steps.specs.Marked.{marked_caused}
use Rattle.causal_steps.proofs.Ranges.{find_first}
use Rattle.causal_steps.proofs.first_uncaused.Goals as goal

pub returns : goal.returns
returns c =
    let marks = c.args.marks.now in
    let n = c.args.n in
    let unmarked : ℕ → Bool = λ f. not (marked_caused marks (literal_in (read c.args.state.now) f)) in
    find_first unmarked n c.find.result
    (find_from_yields_List unmarked _ _ c.find.result c.find.ensures.ran (YieldsList-from_range 0 n n refl (sub-zero n))
    (λ x b q k. search (rules, tests)))
