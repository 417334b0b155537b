-- Each fault that a verdict names is the lowest of its kind, in the order clash, broken, unfounded.
-- Assumes nothing.
use mathlib.Core.Path.{◌≡◌, refl}
use mathlib.Core.Logic.Iff
use mathlib.Core.Logic.{◌↔◌}
use mathlib.Core.Bool.{true, false, not}
use mathlib.Core.List.{List}
use mathlib.Core.Option.{Option, none, some}
use Prim.Native.Nat.{ℕ, ◌+◌, ◌*◌}
use lib.ListN.{length, get_or}
use Rattle.basics.specs.Search.{first, range, Lowest, Nowhere}
use Rattle.basics.specs.Replies.{or_else}
use Rattle.logic_programs.specs.Literals.{Lits}
use Rattle.logic_programs.specs.Rules.{Head, lit, falsum, Rule}
use Rattle.logic_programs.specs.AnswerSets.{reduct, HeadIn, literal_headed, IsLeastClosed}
use Rattle.rule_tables.specs.Bodies.{applies, head_in}
use Rattle.answer_set_theory.specs.Verdicts.{Verdict, clash, broken, unfounded, passes, rounds}
use Rattle.answer_set_theory.specs.Verdicts.{both_values, is_broken, is_unfounded, verdict}
use Rattle.answer_set_theory.specs.Demand2.{Clashing, BrokenRule, BrokenAt, Unfounded, no_rule}
use Rattle.basics.proofs.Tests.{not-both, false_of_not, and-iff, not_iff, iff-and₃, first-lowest, first-nowhere}
use Rattle.basics.proofs.Tests.{range-lowest, range-nowhere}
use Rattle.answer_set_theory.proofs.Least.{HeadsBelow, applies-iff, least-closed}

-- The faults' tests

clashing-iff : (X : Lits) (a : ℕ) → both_values X a ≡ true ↔ Clashing X a
clashing-iff X a = and-iff (X (2 * a)) (X (2 * a + 1))

head_in-false : (h : Head) (X : Lits) → head_in h X ≡ false ↔ (HeadIn h X → ⊥)
head_in-false (lit c) X = (λ f t. not-both t f, λ h. false_of_not (X c) h)
head_in-false falsum X = (λ f h. h, λ h. refl)

broken_rule-iff : (X : Lits) (r : Rule) → is_broken X r ≡ true ↔ BrokenRule X r
broken_rule-iff X r = (
  λ e. let (a, h) = both.0 e in let (n, w) = (applies-iff X X r).0 a in (n, w, (head_in-false r.head X).0 ((not_iff _).0 h)),
  λ b. both.1 ((applies-iff X X r).1 (b.0, b.1), (not_iff _).1 ((head_in-false r.head X).1 b.2)),
)
  where
    both : is_broken X r ≡ true ↔ ((applies X X r ≡ true) × (not (head_in r.head X) ≡ true))
    both = and-iff (applies X X r) (not (head_in r.head X))

unfounded_code-iff : (n : ℕ) (Π : List Rule) (X : Lits) → HeadsBelow (2 * n) Π → (c : ℕ)
    → is_unfounded X (rounds (2 * n) Π X) c ≡ true ↔ Unfounded Π X c
unfounded_code-iff n Π X low c = (
  λ e. let (x, f) = both.0 e in (x, (R, reached, (not_iff (R c)).0 f)),
  λ (x, (L, is, f)). both.1 (x, (not_iff (R c)).1 (false_of_not (R c) (λ t. not-both (reached.least L is.closed c t) f))),
)
  where
    R : Lits
    R = rounds (2 * n) Π X

    reached : IsLeastClosed (literal_headed (reduct Π X)) R
    reached = least-closed n Π X low

    both : is_unfounded X R c ≡ true ↔ ((X c ≡ true) × (not (R c) ≡ true))
    both = and-iff (X c) (not (R c))

-- The verdict from the three searches

abbrev judge : Option ℕ → Option ℕ → Option ℕ → Verdict
judge a b c = or_else a clash (or_else b broken (or_else c unfounded passes))

judge-clash : (a b c : Option ℕ) (k : ℕ) → judge a b c ≡ clash k ↔ a ≡ some k
judge-clash (some i) b c k = (λ e. cc, λ e. cc)
judge-clash none (some i) c k = (λ e. cc, λ e. cc)
judge-clash none none (some i) k = (λ e. cc, λ e. cc)
judge-clash none none none k = (λ e. cc, λ e. cc)

judge-broken : (a b c : Option ℕ) (k : ℕ) → judge a b c ≡ broken k ↔ ((a ≡ none) × (b ≡ some k))
judge-broken (some i) b c k = (λ e. (cc, cc), λ h. cc)
judge-broken none (some i) c k = (λ e. (cc, cc), λ h. cc)
judge-broken none none (some i) k = (λ e. (cc, cc), λ h. cc)
judge-broken none none none k = (λ e. (cc, cc), λ h. cc)

judge-unfounded : (a b c : Option ℕ) (k : ℕ) → judge a b c ≡ unfounded k ↔ ((a ≡ none) × (b ≡ none) × (c ≡ some k))
judge-unfounded (some i) b c k = (λ e. (cc, cc, cc), λ h. cc)
judge-unfounded none (some i) c k = (λ e. (cc, cc, cc), λ h. cc)
judge-unfounded none none (some i) k = (λ e. (cc, cc, cc), λ h. cc)
judge-unfounded none none none k = (λ e. (cc, cc, cc), λ h. cc)

judge-passes : (a b c : Option ℕ) → judge a b c ≡ passes ↔ ((a ≡ none) × (b ≡ none) × (c ≡ none))
judge-passes (some i) b c = (λ e. (cc, cc, cc), λ h. cc)
judge-passes none (some i) c = (λ e. (cc, cc, cc), λ h. cc)
judge-passes none none (some i) = (λ e. (cc, cc, cc), λ h. cc)
judge-passes none none none = (λ e. (cc, cc, cc), λ h. cc)

-- The faults of a verdict

module _ (n : ℕ) (Π : List Rule) (X : Lits) where
  abbrev clashes : Option ℕ
  clashes = first (both_values X) 0 (range 0 n)

  abbrev breaks : Option ℕ
  breaks = first (is_broken X) 0 Π

  abbrev unfounds : Option ℕ
  unfounds = first (is_unfounded X (rounds (2 * n) Π X)) 0 (range 0 (2 * n))

  no-clash : clashes ≡ none ↔ Nowhere (Clashing X) n
  no-clash = range-nowhere (both_values X) n (Clashing X) (λ i b. clashing-iff X i)

  pub no-broken : breaks ≡ none ↔ Nowhere (BrokenAt Π X) (length Π)
  no-broken = first-nowhere (is_broken X) no_rule Π (length Π) refl (BrokenAt Π X) (λ i b. broken_rule-iff X (get_or Π i no_rule))

  pub clash-iff : (a : ℕ) → verdict n Π X ≡ clash a ↔ Lowest (Clashing X) n a
  unfolding verdict
  clash-iff a =
      Iff.trans (judge-clash clashes breaks unfounds a)
      (range-lowest (both_values X) n (Clashing X) (λ i b. clashing-iff X i) a)

  pub broken-iff : (r : ℕ) → verdict n Π X ≡ broken r ↔ (Nowhere (Clashing X) n × Lowest (BrokenAt Π X) (length Π) r)
  unfolding verdict
  broken-iff r =
      Iff.trans (judge-broken clashes breaks unfounds r)
      (Iff.and no-clash
      (first-lowest (is_broken X) no_rule Π (length Π) refl (BrokenAt Π X) (λ i b. broken_rule-iff X (get_or Π i no_rule)) r))

  pub unfounded-iff : HeadsBelow (2 * n) Π → (c : ℕ) → verdict n Π X ≡ unfounded c
      ↔ (Nowhere (Clashing X) n × Nowhere (BrokenAt Π X) (length Π) × Lowest (Unfounded Π X) (2 * n) c)
  unfolding verdict
  unfounded-iff low c =
      Iff.trans (judge-unfounded clashes breaks unfounds c)
      (iff-and₃ no-clash no-broken
      (range-lowest (is_unfounded X (rounds (2 * n) Π X)) (2 * n) (Unfounded Π X) (λ i b. unfounded_code-iff n Π X low i) c))

  pub faultless-iff : HeadsBelow (2 * n) Π → verdict n Π X ≡ passes
      ↔ (Nowhere (Clashing X) n × Nowhere (BrokenAt Π X) (length Π) × Nowhere (Unfounded Π X) (2 * n))
  unfolding verdict
  faultless-iff low =
      Iff.trans (judge-passes clashes breaks unfounds)
      (iff-and₃ no-clash no-broken
      (range-nowhere (is_unfounded X (rounds (2 * n) Π X)) (2 * n) (Unfounded Π X) (λ i b. unfounded_code-iff n Π X low i)))
