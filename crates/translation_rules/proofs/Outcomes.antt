-- What a translation that is written tells: no refusal held, and the counts are the definition's.
-- Assumes nothing.
use mathlib.Core.Path.{◌≡◌, refl, sym, ap}
use mathlib.Core.Bool.{Bool, true, false}
use mathlib.Core.List.{List}
use mathlib.Core.Option.{none}
use Prim.Native.Nat.{ℕ, ◌≤◌, ◌<◌}
use native.Mathlib.Omega.{arith}
use borrow.Author.Tests.{ltb-false, le-ltb, lt-ltb}
use lib.Dec.{ltb}
use lib.ListN.{length}
use Rattle.basics.specs.Replies.{Reply, refused, answered}
use Rattle.basics.proofs.Replies.{or_refuse-answered}
use Rattle.action_language.specs.declared.Law.{Law}
use Rattle.action_language.specs.declared.Description.{Description}
use Rattle.action_language.specs.Atoms.{atom_count}
use Rattle.action_language.specs.Acceptance.{bad_record, bad_horizon}
use Rattle.action_language.proofs.Laws.{accepted-counts, accepted-horizon}
use Rattle.translation_rules.specs.Translated.{Written, written, too_short, rules_for, table_for, outcome, overwritten, table_after}

enough : (needed room : ℕ) → too_short needed room ≡ none → needed ≤ room
enough needed room e = go (ltb room needed) refl
  where
    go : (b : Bool) → ltb room needed ≡ b → needed ≤ room
    go true q = let h = rw q at e in absurd (let z : ◌≡◌ {A = ℕ} 0 1 = cc in omega arith)
    go false q = ltb-false room needed q

pub record Accepted (d : Description) (ls : List Law) (lent room a r w : ℕ) : Type 0 where
  pub taken : bad_record d ls lent ≡ none
  pub horizon : bad_horizon d.horizon ≡ none
  pub room-enough : length (table_for d ls) ≤ room
  pub atoms : a ≡ atom_count d.fluents d.actions d.horizon
  pub rules : r ≡ length (rules_for d ls)
  pub words : w ≡ length (table_for d ls)

pub written-accepted : (d : Description) (ls : List Law) (lent room : ℕ) {a r w : ℕ} → outcome d ls lent room ≡ answered (written a r w)
    → Accepted d ls lent room a r w
unfolding outcome
written-accepted d ls lent room e =
    let p₁ = or_refuse-answered (bad_record d ls lent) 8 _ e in
    let p₂ = or_refuse-answered (bad_horizon d.horizon) 3 _ p₁.1 in
    let p₃ = or_refuse-answered (too_short (length (table_for d ls)) room) 9 _ p₂.1 in
    record {
      taken = p₁.0;
      horizon = p₂.0;
      room-enough = enough (length (table_for d ls)) room p₃.0;
      atoms = sym (ap atoms_in p₃.1);
      rules = sym (ap rules_in p₃.1);
      words = sym (ap words_in p₃.1);
    }
  where
    atoms_in : Reply Written → ℕ
    atoms_in (answered (written a r w)) = a
    atoms_in (refused k p) = 0

    rules_in : Reply Written → ℕ
    rules_in (answered (written a r w)) = r
    rules_in (refused k p) = 0

    words_in : Reply Written → ℕ
    words_in (answered (written a r w)) = w
    words_in (refused k p) = 0

-- what each outcome leaves in the table
pub refused-left : (d : Description) (ls : List Law) (lent : ℕ) (table : List ℕ) {k p : ℕ} → outcome d ls lent (length table) ≡ refused k p
    → table ≡ table_after d ls lent table
unfolding table_after
refused-left d ls lent table e = rw e

pub written-left : (d : Description) (ls : List Law) (lent : ℕ) (table : List ℕ) {a r w : ℕ}
    → outcome d ls lent (length table) ≡ answered (written a r w)
    → overwritten (table_for d ls) table ≡ table_after d ls lent table
unfolding table_after
written-left d ls lent table e = rw e

-- the limits of a description whose translation is written
pub written-limits : (d : Description) (ls : List Law) (lent room : ℕ) {a r w : ℕ} → outcome d ls lent room ≡ answered (written a r w)
    → (d.fluents ≤ 24) × (d.actions ≤ 8) × (d.laws ≤ 64) × (d.horizon ≤ 30)
written-limits d ls lent room e =
    let a = written-accepted d ls lent room e in
    let counts = accepted-counts d ls lent a.taken in
    (counts.1, counts.2, counts.3, (accepted-horizon d.horizon a.horizon).1)

-- and the other way: an accepted description with room enough is written
pub accepted-written : (d : Description) (ls : List Law) (lent room : ℕ) → bad_record d ls lent ≡ none → bad_horizon d.horizon ≡ none
    → length (table_for d ls) ≤ room
    → outcome d ls lent room
    ≡ answered (written (atom_count d.fluents d.actions d.horizon) (length (rules_for d ls)) (length (table_for d ls)))
unfolding outcome
accepted-written d ls lent room taken horizon enough = rw (taken, horizon, le-ltb room (length (table_for d ls)) enough)

pub accepted-short : (d : Description) (ls : List Law) (lent room : ℕ) → bad_record d ls lent ≡ none → bad_horizon d.horizon ≡ none
    → room < length (table_for d ls) → outcome d ls lent room ≡ refused 9 (length (table_for d ls))
unfolding outcome
accepted-short d ls lent room taken horizon short = rw (taken, horizon, lt-ltb room (length (table_for d ls)) short)
