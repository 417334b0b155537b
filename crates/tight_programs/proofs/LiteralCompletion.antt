-- The complete answer sets of a tight program are the interpretations that satisfy its literal completion (000, section 7.3,
-- Proposition 3).
-- Assumes nothing.
use mathlib.Core.Path.{◌≡◌, refl, sym, ◌∙◌, ap}
use mathlib.Core.Logic.Iff
use mathlib.Core.Logic.{◌↔◌, ⊎_elim}
use mathlib.Core.Bool.{Bool, true, false, not, not-not}
use mathlib.Core.List.{List}
use Prim.Native.Nat.{ℕ, ◌+◌, ◌*◌, ◌<◌}
use native.Mathlib.Omega.{arith}
use Rattle.basics.specs.Search.{Each, all}
use Rattle.basics.proofs.Tests.{not-both, false_of_not, and-iff, each-map₂, all-each}
use Rattle.basics.proofs.Lists.{each-iff-given, each_member, member-each}
use Rattle.basics.proofs.Parity.{by-parity}
use Rattle.logic_programs.specs.Literals.{Lits, complement}
use Rattle.logic_programs.specs.Rules.{Head, lit, falsum, Rule}
use Rattle.logic_programs.specs.AnswerSets.{meets, reduct, HeadIn, Closed, Consistent}
use Rattle.logic_programs.proofs.Complements.{complement-even, complement-odd}
use Rattle.answer_set_theory.proofs.Sets.{all-within, all-not-meets}
use Rattle.tight_programs.specs.TightPrograms.{Supported}
use Rattle.tight_programs.specs.LiteralCompletion.{BodyHolds, SomeBody, Completion, HeadOver, Over, CompleteSet, Proposition3}
use Rattle.tight_programs.proofs.Supported.{body_in, closed-rules, rules-support, support-cases, proposition-4}

module _ (n : ℕ) (X : Lits) (consistent : Consistent X) (set : CompleteSet n X) where
  -- of each atom's literals the set has exactly one
  odd-in : (a : ℕ) → a < n → X (2 * a + 1) ≡ not (X (2 * a))
  odd-in a b = go (X (2 * a)) refl
    where
      go : (v : Bool) → X (2 * a) ≡ v → X (2 * a + 1) ≡ not v
      go true t = false_of_not (X (2 * a + 1)) (λ o. consistent a t o)
      go false f = ⊎_elim (λ (t : X (2 * a) ≡ true). absurd (not-both t f)) (λ (o : X (2 * a + 1) ≡ true). o) (set.complete a b)

  pub complement-in : (c : ℕ) → c < 2 * n → X (complement c) ≡ not (X c)
  complement-in = by-parity (λ c. c < 2 * n → X (complement c) ≡ not (X c)) even odd
    where
      even : (a : ℕ) → 2 * a < 2 * n → X (complement (2 * a)) ≡ not (X (2 * a))
      even a b = rw (complement-even a) (odd-in a (omega arith))

      odd : (a : ℕ) → 2 * a + 1 < 2 * n → X (complement (2 * a + 1)) ≡ not (X (2 * a + 1))
      odd a b = rw (complement-odd a) (sym (ap not (odd-in a (omega arith)) ∙ not-not (X (2 * a))))

  -- a body holds where no negated part is in the set and each plain part is
  body-iff : (r : Rule) → Each (λ c. c < 2 * n) r.negated → body_in X r ≡ true ↔ BodyHolds X r
  body-iff r low = Iff.trans (and-iff (not (meets r.negated X)) (all X r.plain)) (
    λ h. ((all-within X r.plain).0 h.1, negated.0 ((all-each (λ c. not (X c)) r.negated).0 (all-not-meets X r.negated ∙ h.0))),
    λ h. (
      sym (all-not-meets X r.negated) ∙ (all-each (λ c. not (X c)) r.negated).1 (negated.1 h.1),
      (all-within X r.plain).1 h.0,
    ),
  )
    where
      negated : Each (λ c. not (X c) ≡ true) r.negated ↔ Each (λ c. X (complement c) ≡ true) r.negated
      negated = each-iff-given (λ c b. (λ e. complement-in c b ∙ e, λ e. sym (complement-in c b) ∙ e)) r.negated low

  module _ (Π : List Rule) (rules-over : Over n Π) where
    -- closed and supported sets satisfy the formulas
    closed-body : Closed (reduct Π X) X → (H : Head) → SomeBody Π X H → HeadIn H X
    closed-body closed H (r, m, h, body) =
        rw h at (member-each (λ r. body_in X r ≡ true → HeadIn r.head X) Π ((closed-rules Π X).0 closed) m
        ((body-iff r (member-each _ Π rules-over m).1).1 body))

    supported-body : Supported Π X → (c : ℕ) → X c ≡ true → SomeBody Π X (lit c)
    supported-body supported c x =
        support-cases Π X c (supported c x)
        (each-map₂ (λ r over m e h. (r, m, h, (body-iff r over.1).0 e)) Π rules-over (each_member Π))

    satisfies : Closed (reduct Π X) X → Supported Π X → Completion n Π X
    satisfies closed supported = record {
      of-literals = λ c b. (λ x. supported-body supported c x, λ s. closed-body closed (lit c) s);
      of-falsum = (λ x. absurd x, λ s. closed-body closed falsum s);
    }

    -- and back
    head-holds : Completion n Π X → (H : Head) → HeadOver n H → SomeBody Π X H → HeadIn H X
    head-holds h (lit c) b s = (h.of-literals c b).1 s
    head-holds h falsum b s = h.of-falsum.1 s

    closes : Completion n Π X → Closed (reduct Π X) X
    closes h =
        (closed-rules Π X).1
        (each-map₂ (λ r over m e. head-holds h r.head over.0 (r, m, refl, (body-iff r over.1).0 e)) Π rules-over (each_member Π))

    supports : Completion n Π X → Supported Π X
    supports h c x =
        let (r, m, head, body) = (h.of-literals c (set.over c x)).0 x in
        member-each (λ r. body_in X r ≡ true → (d : ℕ) → r.head ≡ lit d → _) Π (rules-support Π X) m
        ((body-iff r (member-each _ Π rules-over m).1).1 body) c head

pub proposition-3 : Proposition3
proposition-3 level n Π tight over X set =
    Iff.trans (proposition-4 level Π tight X) (
      λ h. (h.0, satisfies n X h.0 set Π over h.1 h.2),
      λ h. (h.0, closes n X h.0 set Π over h.1, supports n X h.0 set Π over h.1),
    )
