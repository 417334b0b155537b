-- The verdict passes exactly the answer sets.
-- Assumes nothing.
use mathlib.Core.Path.{◌≡◌}
use mathlib.Core.Logic.Iff
use mathlib.Core.Logic.{◌↔◌}
use mathlib.Core.Bool.{true}
use mathlib.Core.List.{List}
use mathlib.Core.Option.{none}
use Prim.Native.Nat.{ℕ, ◌*◌, ◌<◌}
use native.Mathlib.Omega.{arith}
use lib.ListN.{length, get_or}
use Rattle.basics.specs.Search.{Each, Nowhere, first}
use Rattle.logic_programs.specs.Literals.{Lits}
use Rattle.logic_programs.specs.Rules.{Head, lit, falsum, Rule}
use Rattle.logic_programs.specs.AnswerSets.{reduct, HeadIn, Closed, Subset, AnswerSet, literal_headed, IsLeastClosed}
use Rattle.rule_tables.specs.Bodies.{applies}
use Rattle.answer_set_theory.specs.Verdicts.{passes, rounds, is_broken, verdict}
use Rattle.answer_set_theory.specs.Demand2.{Clashing, BrokenRule, BrokenAt, Unfounded, no_rule}
use Rattle.basics.proofs.Tests.{not-both, false_of_not, true_of_not, each-map₂, each_at}
use Rattle.answer_set_theory.proofs.Least.{HeadsBelow, Below, LiteralIn, applies-iff, applies-subset, reduct-closed}
use Rattle.answer_set_theory.proofs.Least.{literal-closed, closed-literal, least-closed}
use Rattle.answer_set_theory.proofs.FirstFault.{no-broken, faultless-iff}

-- a set is closed exactly where no rule is broken

holds-iff : (X : Lits) (r : Rule) → (applies X X r ≡ true → HeadIn r.head X) ↔ (BrokenRule X r → ⊥)
holds-iff X r = (
  λ h b. b.2 (h ((applies-iff X X r).1 (b.0, b.1))),
  λ h e. let (n, w) = (applies-iff X X r).0 e in stable r.head (λ not. h (n, w, not)),
)
  where
    stable : (h : Head) → ((HeadIn h X → ⊥) → ⊥) → HeadIn h X
    stable (lit c) k = true_of_not (X c) (λ f. k (λ t. not-both t f))
    stable falsum k = k (λ e. e)

pub closed-iff : (Π : List Rule) (X : Lits) → Closed (reduct Π X) X ↔ Nowhere (BrokenAt Π X) (length Π)
closed-iff Π X = (
  λ h i b. (holds-iff X (get_or Π i no_rule)).0 (each.0 ((reduct-closed Π X X).0 h) i b),
  λ h. (reduct-closed Π X X).1 (each.1 (λ i b. (holds-iff X (get_or Π i no_rule)).1 (h i b))),
)
  where
    Holds : Rule → Type 0
    Holds r = applies X X r ≡ true → HeadIn r.head X

    each : Each Holds Π ↔ ((i : ℕ) → i < length Π → Holds (get_or Π i no_rule))
    each = each_at Holds no_rule Π

pub unbroken-closed : (Π : List Rule) (X : Lits) → first (is_broken X) 0 Π ≡ none → Closed (literal_headed (reduct Π X)) X
unbroken-closed Π X e = closed-literal Π X X ((closed-iff Π X).1 ((no-broken 0 Π X).0 e))

-- the least set of a closed X is closed under the constraints too
least-reduct : (Π : List Rule) (X L : Lits) → Subset L X → Closed (reduct Π X) X → Closed (literal_headed (reduct Π X)) L
    → Closed (reduct Π X) L
least-reduct Π X L sub closed literal =
    (reduct-closed Π X L).1
    (each-map₂ (λ r l x e. head r.head (l e) (x (applies-subset X sub r e))) Π ((literal-closed Π X L).0 literal)
    ((reduct-closed Π X X).0 closed))
  where
    head : (h : Head) → LiteralIn h L → HeadIn h X → HeadIn h L
    head (lit c) l x = l
    head falsum l x = x

module _ (n : ℕ) (Π : List Rule) (X : Lits) (heads : HeadsBelow (2 * n) Π) (below : Below (2 * n) X) where
  abbrev Faultless : Type 0
  Faultless = Nowhere (Clashing X) n × Nowhere (BrokenAt Π X) (length Π) × Nowhere (Unfounded Π X) (2 * n)

  abbrev L : Lits
  L = rounds (2 * n) Π X

  least : IsLeastClosed (literal_headed (reduct Π X)) L
  least = least-closed n Π X heads

  faultless-answer : Faultless → AnswerSet Π X
  faultless-answer h = record {
    consistent = λ a t f. h.0 a (omega (arith, below (2 * a) t)) (t, f);
    closed = (closed-iff Π X).1 h.1;
    minimal = λ Y (sub, (c, x, y)) closed. h.2 c (below c x)
        (x, (L, least, false_of_not (L c) (λ t. not-both (least.least Y (closed-literal Π X Y closed) c t) y)));
  }

  answer-faultless : AnswerSet Π X → Faultless
  answer-faultless h = (
    λ a b both. h.consistent a both.0 both.1,
    (closed-iff Π X).0 h.closed,
    λ c b (x, (K, is, f)). let sub = is.least X (closed-literal Π X X h.closed) in
        h.minimal K (sub, (c, x, f)) (least-reduct Π X K sub h.closed is.closed),
  )

  pub passes-iff : verdict n Π X ≡ passes ↔ AnswerSet Π X
  passes-iff = Iff.trans (faultless-iff n Π X heads) (faultless-answer, answer-faultless)
