-- `causal_reading` meets its contract: the refusals in their order, then the verdict.
-- Assumes nothing.
use mathlib.Core.Path.{◌≡◌, sym, ◌∙◌}
use mathlib.Core.List.{List}
use mathlib.Core.Option.{none}
use Prim.Native.Nat.{ℕ}
use native.Mathlib.Omega.{arith}
use borrow.Author.Tests.{eq-eqb, ne_eqb}
use lib.ListN.{length, length-take}
use Rattle.std.proofs.Common.{Result, Ok}
use Rattle.basics.specs.declared.Refusal.{Refusal}
use Rattle.basics.specs.Replies.{refusal}
use Rattle.basics.specs.Refusals.{tested_of}
use Rattle.basics.proofs.Results.{at_place, not-refused}
use Rattle.action_language.specs.declared.Law.{Law}
use Rattle.action_language.specs.declared.Description.{Description}
use Rattle.action_language.specs.Atoms.{atom_count, atoms_within}
use Rattle.action_language.specs.Acceptance.{bad_record, bad_horizon}
use Rattle.action_language.proofs.Laws.{accepted-horizon, accepted-counts}
use Rattle.action_language.proofs.Atoms.{accepted-atoms}
use Rattle.causal_reading.specs.Readings.{reading}
use Rattle.causal_reading.proofs.causal_reading.Goals as goal

-- what both tests' passing gives, and how many atoms there then are
accepted : (d : Description) (ls : List Law) {r q : Result Unit Refusal} {u v : Unit} {atoms : ℕ}
    → tested_of r ≡ refusal 8 (bad_record d ls (length ls)) → r ≡ Ok u
    → tested_of q ≡ refusal 3 (bad_horizon d.horizon) → q ≡ Ok v
    → atoms ≡ atoms_within d.fluents d.actions d.horizon
    → (bad_record d ls (length ls) ≡ none) × (bad_horizon d.horizon ≡ none) × (atoms ≡ atom_count d.fluents d.actions d.horizon)
accepted d ls of_record record_passed of_horizon horizon_passed counted =
    let taken : bad_record d ls (length ls) ≡ none = not-refused 8 of_record record_passed in
    let horizon : bad_horizon d.horizon ≡ none = not-refused 3 of_horizon horizon_passed in
    (taken, horizon, counted ∙ accepted-atoms d ls (length ls) taken horizon)

pub returns-then-values-atom_count-clause-answers : goal.returns-then-values-atom_count-clause-answers
unfolding reading
returns-then-values-atom_count-clause-answers c =
    let taken = accepted c.args.d c.args.laws.now c.check_record.ensures.answers c.in_ok-check_record.was
    c.check_horizon.ensures.answers c.in_ok-check_horizon.was c.atom_count.ensures in
    rw (taken.0, taken.1, ne_eqb _ _ (λ e. c.if-values-atom_count.true (e ∙ sym taken.2)))

pub returns-in-Some-clause-answers : goal.returns-in-Some-clause-answers
unfolding reading
returns-in-Some-clause-answers c =
    let taken = accepted c.args.d c.args.laws.now c.check_record.ensures.answers c.in_ok-check_record.was
    c.check_horizon.ensures.answers c.in_ok-check_horizon.was c.atom_count.ensures in
    rw (taken.0, taken.1, eq-eqb _ _ (c.if-values-atom_count.false ∙ taken.2), at_place c.bad_value.ensures c.in-Some.is)

pub slice_bounds-laws-end : goal.slice_bounds-laws-end
slice_bounds-laws-end c =
    let taken : bad_record _ _ _ ≡ none = not-refused 8 c.check_record.ensures.answers c.in_ok-check_record.was in
    omega (arith, length-take c.args.d.laws c.args.laws.now, accepted-counts _ _ _ taken)

pub invariant_of-history : goal.invariant_of-history
invariant_of-history c =
    let taken = accepted c.args.d c.args.laws.now c.check_record.ensures.answers c.in_ok-check_record.was
    c.check_horizon.ensures.answers c.in_ok-check_horizon.was c.atom_count.ensures in
    record { few_steps = (accepted-horizon _ taken.1).1; complete = c.if-values-atom_count.false ∙ taken.2 }
