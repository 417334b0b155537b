-- The verdict and the answer, from what the searches found, in the order in which the code makes them.
-- Assumes nothing.
use mathlib.Core.Path.{◌≡◌, sym, ◌∙◌, ap}
use mathlib.Core.List.{List}
use mathlib.Core.Option as found
use mathlib.Core.Option.{none, some}
use Rattle.std.specs.Prelude.{Result, Ok, Err}
use Rattle.answer_sets.specs.declared.pending.Broken.{Broken}
use Rattle.answer_sets.specs.Internal.{broken_by}
use Prim.Native.Nat.{ℕ, ◌+◌, ◌-◌, ◌*◌, ◌≤◌}
use native.Mathlib.Numerals.{add-one}
use native.Mathlib.Omega.{arith}
use lib.ListN.{length}
use Rattle.basics.specs.Search.{first, range}
use Rattle.basics.specs.Replies.{refused, answered}
use Rattle.logic_programs.specs.Literals.{Lits, set_of, bad_value}
use Rattle.logic_programs.specs.Rules.{Rule}
use Rattle.answer_set_theory.specs.Verdicts.{clash, broken, unfounded, passes, round, rounds, both_values, is_broken, is_unfounded, verdict}
use Rattle.logic_programs.specs.Words.{rules_of, bad_rule}
use Rattle.rule_tables.specs.Acceptance.{tested, Accepted}
use Rattle.rule_tables.proofs.Testing.{few-values, still-refused, accepts}
use Rattle.answer_set_theory.specs.Answers.{answer}
use Rattle.answer_set_theory.proofs.Least.{HeadsBelow, rounds-stay, rounds-settle}
use Rattle.answer_set_theory.proofs.Theorems.{accepted-judged}

-- Y is the set X, as marks
module _ (n : ℕ) (Π : List Rule) (X : Lits) where
  pub says-clash : {a : ℕ} → first (both_values X) 0 (range 0 n) ≡ some a → clash a ≡ verdict n Π X
  unfolding verdict
  says-clash e = rw e

  module _ (none₁ : first (both_values X) 0 (range 0 n) ≡ none) (Y : Lits) (is : Y ≡ X) where
    pub says-broken : {r : ℕ} → first (is_broken Y) 0 Π ≡ some r → broken r ≡ verdict n Π X
    unfolding verdict
    says-broken e = rw (none₁, ← is, e)

    module _ (none₂ : first (is_broken Y) 0 Π ≡ none) (L : Lits) (least : L ≡ rounds (2 * n) Π Y) where
      pub says-unfounded : {c : ℕ} → first (is_unfounded Y L) 0 (range 0 (2 * n)) ≡ some c → unfounded c ≡ verdict n Π X
      unfolding verdict
      says-unfounded e = rw (none₁, ← is, none₂, ← least, e)

      pub says-passes : first (is_unfounded Y L) 0 (range 0 (2 * n)) ≡ none → passes ≡ verdict n Π X
      unfolding verdict
      says-passes e = rw (none₁, ← is, none₂, ← least, e)

-- the answer from what the tests say: their refusal, or where they accept the verdict
module _ (vs ws : List ℕ) where
  pub says-refused : {number place : ℕ} → refused number place ≡ tested vs ws → refused number place ≡ answer vs ws
  unfolding answer
  says-refused e = still-refused vs ws (answered (verdict (length vs) (rules_of ws) (set_of vs))) e

  pub says-verdict : Accepted vs ws → answered (verdict (length vs) (rules_of ws) (set_of vs)) ≡ answer vs ws
  says-verdict accepted = sym (accepted-judged vs ws accepted)

  -- what judging needs
  pub judge-ready : answered tt ≡ tested vs ws → (length vs ≤ 1024) × ((bad_value vs ≡ none) × (bad_rule (length vs) ws ≡ none))
  judge-ready e = let accepted = accepts vs ws e in (few-values vs accepted.0, (accepted.1, accepted.2))

-- the rounds of a derivation: Y is the round k, Z the one after it
module _ (Π : List Rule) (X Y : Lits) (k : ℕ) (is : Y ≡ rounds k Π X) where
  pub round-after : (Z : Lits) → Z ≡ round Π X Y → Z ≡ rounds (k + 1) Π X
  round-after Z next = rw (add-one k) (rw is at next)

  -- a round that adds nothing: all later ones add nothing
  pub round-last : (Z : Lits) (N : ℕ) → Z ≡ round Π X Y → Z ≡ Y → k ≤ N → Y ≡ rounds N Π X
  round-last Z N next same before =
      let rest : k + (N - k) ≡ N = omega arith in
      is ∙ sym (rw rest at (rounds-stay Π X k (N - k) (sym (rw is at next) ∙ same ∙ is)))

  -- so many rounds that the last one added nothing
  pub round-enough : (n : ℕ) → HeadsBelow (2 * n) Π → k ≡ 2 * n + 1 → Y ≡ rounds (2 * n) Π X
  round-enough n low e = is ∙ (rw (e, add-one (2 * n)) (rounds-settle (2 * n) Π X low))

-- what an answer says of the search for a broken rule
pub broken-at : {A : Type 0} {r : Result A Broken} {o : found.Option ℕ} {e : Broken} → broken_by r ≡ o → r ≡ Err e → o ≡ some e.rule
broken-at is was = sym is ∙ ap broken_by was

pub not-broken : {A : Type 0} {r : Result A Broken} {o : found.Option ℕ} {a : A} → broken_by r ≡ o → r ≡ Ok a → o ≡ none
not-broken is was = sym is ∙ ap broken_by was
