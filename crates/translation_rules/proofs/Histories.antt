-- The translation for a history: what each of its tests makes of the answer and of the table, and what a written one tells.
-- Assumes nothing.
use mathlib.Core.Path.{◌≡◌, refl, ◌∙◌}
use mathlib.Core.List.{List}
use mathlib.Core.Option.{Option, none, some}
use Prim.Native.Nat.{ℕ}
use native.Mathlib.Omega.{arith}
use borrow.Author.Tests.{eq-eqb, ne_eqb}
use lib.ListN.{length}
use Rattle.basics.specs.Replies.{Reply, refused, answered, or_refuse, unless_refused}
use Rattle.basics.proofs.Replies.{or_refuse-answered, unless_refused-answered}
use Rattle.logic_programs.specs.Literals.{bad_value}
use Rattle.action_language.specs.declared.Law.{Law}
use Rattle.action_language.specs.declared.Description.{Description}
use Rattle.action_language.specs.Atoms.{wrong_length}
use Rattle.action_language.proofs.Laws.{right-length}
use Rattle.translation_rules.specs.Translated.{Written, written, table_for, outcome, overwritten}
use Rattle.translation_rules.specs.Translated.{after_translation, outcome_for, table_after_for}

-- the answer and the table, test by test
module _ (d : Description) (ls : List Law) (lent : ℕ) (vs : List ℕ) (later : Reply Unit) (table : List ℕ) where
  abbrev Refuses : ℕ → ℕ → Type 0
  Refuses k p = (refused k p ≡ outcome_for d ls lent vs later (length table)) × (table ≡ table_after_for d ls lent vs later table)

  pub first-refused : {k p : ℕ} → outcome d ls lent (length table) ≡ refused k p → Refuses k p
  unfolding outcome_for table_after_for
  first-refused e = rw e (refl, refl)

  module _ {a r w : ℕ} (e : outcome d ls lent (length table) ≡ answered (written a r w)) where
    pub says-10 : (length vs ≡ a → ⊥) → Refuses 10 (length vs)
    unfolding outcome_for table_after_for
    says-10 n = rw (e, ne_eqb (length vs) a n) (refl, refl)

    module _ (size : length vs ≡ a) where
      pub says-11 : {p : ℕ} → bad_value vs ≡ some p → Refuses 11 p
      unfolding outcome_for table_after_for
      says-11 bad = rw (e, eq-eqb (length vs) a size, bad) (refl, refl)

      module _ (small : bad_value vs ≡ none) where
        pub later-refused : {k p : ℕ} → later ≡ refused k p → Refuses k p
        unfolding outcome_for table_after_for
        later-refused said = rw (e, eq-eqb (length vs) a size, small, said) (refl, refl)

        pub all-passed : later ≡ answered tt
            → (answered (written a r w) ≡ outcome_for d ls lent vs later (length table))
            × (overwritten (table_for d ls) table ≡ table_after_for d ls lent vs later table)
        unfolding outcome_for table_after_for
        all-passed said = rw (e, eq-eqb (length vs) a size, small, said) (refl, refl)

-- where the translation is written, no test before has refused
pub record Passed (d : Description) (ls : List Law) (lent room : ℕ) (vs : List ℕ) (a r w : ℕ) : Type 0 where
  pub translated : outcome d ls lent room ≡ answered (written a r w)
  pub size : length vs ≡ a
  pub small : bad_value vs ≡ none

pub written-passed : (d : Description) (ls : List Law) (lent room : ℕ) (vs : List ℕ) (later : Reply Unit) {a r w : ℕ}
    → outcome_for d ls lent vs later room ≡ answered (written a r w) → Passed d ls lent room vs a r w
unfolding outcome_for
written-passed d ls lent room vs later {a} {r} {w} = go (outcome d ls lent room) refl
  where
    go : (o : Reply Written) → outcome d ls lent room ≡ o → after_translation o vs (unless_refused later o) ≡ answered (written a r w)
        → Passed d ls lent room vs a r w
    go (refused k p) is e = let z : ◌≡◌ {A = ℕ} 0 1 = cc in absurd (omega arith)
    go (answered (written a' r' w')) is e =
        let (right, behind-10) = or_refuse-answered (wrong_length a' (length vs)) 10 _ e in
        let (small, behind-11) = or_refuse-answered (bad_value vs) 11 _ behind-10 in
        let same = unless_refused-answered later _ behind-11 in
        let atoms : a' ≡ a = cc in
        record { translated = is ∙ same; size = right-length a' (length vs) right ∙ atoms; small = small }

-- what each answer leaves in the table
module _ (d : Description) (ls : List Law) (lent : ℕ) (vs : List ℕ) (later : Reply Unit) (table : List ℕ) where
  pub refused-left : {k p : ℕ} → outcome_for d ls lent vs later (length table) ≡ refused k p
      → table_after_for d ls lent vs later table ≡ table
  unfolding table_after_for
  refused-left e = rw e

  pub written-left : {a r w : ℕ} → outcome_for d ls lent vs later (length table) ≡ answered (written a r w)
      → table_after_for d ls lent vs later table ≡ overwritten (table_for d ls) table
  unfolding table_after_for
  written-left e = rw e

-- what comes behind the tests, with none of a caller's own
pub tests-first : {A : Type 0} (o : Reply Written) (vs : List ℕ) (next : Reply A)
    → after_translation o vs next ≡ unless_refused (after_translation o vs o) next
tests-first (refused k p) vs next = refl
tests-first {A} (answered (written a r w)) vs next = go (wrong_length a (length vs)) (bad_value vs)
  where
    go : (x y : Option ℕ)
        → or_refuse x 10 (or_refuse y 11 next) ≡ unless_refused (or_refuse x 10 (or_refuse y 11 (answered (written a r w)))) next
    go (some place) y = refl
    go none (some place) = refl
    go none none = refl
