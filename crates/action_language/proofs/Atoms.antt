-- How many atoms there are within the limits, and for an accepted description.
-- Assumes nothing.
use mathlib.Core.Path.{◌≡◌, refl}
use mathlib.Core.List.{List}
use mathlib.Core.Option.{none}
use Prim.Native.Nat.{ℕ, ◌+◌, ◌*◌, ◌≤◌}
use native.Mathlib.Nat.{mul-le-mul}
use native.Mathlib.Omega.{arith}
use borrow.Author.Tests.{le-leb, leb-true}
use Rattle.action_language.specs.declared.Law.{Law}
use Rattle.action_language.specs.declared.Description.{Description}
use Rattle.action_language.specs.Atoms.{atom_count, atoms_within}
use Rattle.action_language.specs.Acceptance.{bad_record, bad_horizon}
use Rattle.action_language.proofs.Laws.{accepted-counts, accepted-horizon}
use mathlib.Core.Bool.{Bool, true, false, cond, ◌&&◌, and-eq-true_iff}
use lib.Dec.{leb}

module _ (n m T : ℕ) where
  module _ (fluents : n ≤ 24) (actions : m ≤ 8) (time : T ≤ 30) where
    -- the atoms of all steps
    pub step-atoms : T * (n + m) ≤ 960
    step-atoms = mul-le-mul {n₁ = T} {m₁ = n + m} {n₂ = 30} {m₂ = 32} time (omega arith)

    pub few-atoms : atom_count n m T ≤ 984
    few-atoms = omega (arith, step-atoms)

    pub atoms-within : atoms_within n m T ≡ atom_count n m T
    unfolding atoms_within
    atoms-within = rw (le-leb n 24 fluents, le-leb m 8 actions, le-leb T 30 time) refl

-- an accepted description is within the limits
module _ (d : Description) (ls : List Law) (lent : ℕ) (taken : bad_record d ls lent ≡ none) (horizon : bad_horizon d.horizon ≡ none) where
  pub accepted-atoms : atoms_within d.fluents d.actions d.horizon ≡ atom_count d.fluents d.actions d.horizon
  accepted-atoms =
      let counts = accepted-counts d ls lent taken in
      atoms-within d.fluents d.actions d.horizon counts.1 counts.2 (accepted-horizon d.horizon horizon).1

-- past the limits there is no atom
module _ (n m T : ℕ) where
  pub atoms-past : ((n ≤ 24) × (m ≤ 8) × (T ≤ 30) → ⊥) → atoms_within n m T ≡ 0
  unfolding atoms_within
  atoms-past out = go (leb n 24 && leb m 8 && leb T 30) refl
    where
      go : (b : Bool) → (leb n 24 && leb m 8 && leb T 30) ≡ b → cond b (atom_count n m T) 0 ≡ 0
      go true e =
          let t = (and-eq-true_iff (leb n 24 && leb m 8) (leb T 30)).0 e in
          let f = (and-eq-true_iff (leb n 24) (leb m 8)).0 t.0 in
          absurd (out (leb-true n 24 f.0, leb-true m 8 f.1, leb-true T 30 t.1))
      go false e = refl
