-- What both tests together say: the refusal by the first that does not pass, or that no refusal holds.
-- Assumes nothing.
use mathlib.Core.Path.{◌≡◌, refl, sym, ◌∙◌, ap}
use mathlib.Core.Option.{Option, none, some}
use Prim.Native.Nat.{ℕ}
use Rattle.std.specs.Prelude.{Result, Ok, Err}
use Rattle.basics.specs.declared.Refusal.{Refusal}
use Rattle.basics.specs.Replies.{Reply, refused, answered, refusal, unless_refused, or_refuse}
use Rattle.basics.specs.Refusals.{number_of, tested_of}

module _ (a b : Option ℕ) (k l : ℕ) {r : Result Unit Refusal} (is : tested_of r ≡ unless_refused (refusal k a) (refusal l b)) where
  pub both-refused : {e : Refusal} → r ≡ Err e → {A : Type 0} (rest : Reply A)
      → refused (number_of e.reason) e.place ≡ or_refuse a k (or_refuse b l rest)
  both-refused {e} was rest = go a b (sym is ∙ ap tested_of was)
    where
      go : (a b : Option ℕ) → unless_refused (refusal k a) (refusal l b) ≡ refused (number_of e.reason) e.place
          → refused (number_of e.reason) e.place ≡ or_refuse a k (or_refuse b l rest)
      go (some p) b q = cc
      go none (some p) q = cc
      go none none q = cc

  pub both-passed : {u : Unit} → r ≡ Ok u → (a ≡ none) × (b ≡ none)
  both-passed was = go a b (sym is ∙ ap tested_of was)
    where
      go : (a b : Option ℕ) → unless_refused (refusal k a) (refusal l b) ≡ answered tt → (a ≡ none) × (b ≡ none)
      go (some p) b q = (cc, cc)
      go none (some p) q = (refl, cc)
      go none none q = (refl, refl)
