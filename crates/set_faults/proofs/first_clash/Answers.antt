-- `set_faults::first_clash` meets its contract.
-- Assumes nothing.
use Rattle.std.proofs.Common.{rules, tests, ap, ◌∙◌, ℕ}
use lib.Dec.{eqb}
use native.Mathlib.Nat.{zero-add}
use Rattle.std.proofs.lemmas.Iterator.{YieldsList-from_slice}
use Rattle.std.proofs.lemmas.Iterator.Search.{position_from_yields_List}
use Rattle.basics.specs.Refusals.{place_of}
use Rattle.basics.proofs.Results.{position_first}
use Rattle.logic_programs.specs.Literals.{set_of}
use Rattle.answer_set_theory.specs.Verdicts.{both_values}
use Rattle.set_faults.proofs.Faults.{both_values-byte, by_place}
use Rattle.set_faults.proofs.first_clash.Goals as goal

pub returns : goal.returns
returns c =
    let vs = c.args.values.now in
    let both = λ (v : ℕ). eqb v 3 in
    let values = YieldsList-from_slice vs cc in
    ap place_of (position_from_yields_List both _ _ _ c.position.ensures.ran values (λ x b q k. search (rules, tests)))
    ∙ position_first both vs
    ∙ by_place 0 both (both_values (set_of vs)) 0 vs (λ i b. rw (zero-add i) (both_values-byte vs i))
