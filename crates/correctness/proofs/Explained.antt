-- A transition is causally explained exactly where the resulting state satisfies all that is caused and the literal of each
-- fluent that holds there is caused: "the set of formulas caused is the state" (000, section 2).
-- Assumes nothing.
use mathlib.Core.Path.{◌≡◌, refl, sym, ◌∙◌}
use mathlib.Core.Logic.{◌↔◌, ⊎_elim}
use mathlib.Core.Bool.{Bool, true, false, not, cond}
use mathlib.Core.List.{List}
use Prim.Native.Nat.{ℕ, ◌+◌, ◌*◌, ◌/◌, ◌<◌}
use native.Mathlib.Omega.{arith}
use lib.Dec.{eqb}
use borrow.Author.Tests.{eqb-true, eq-eqb}
use Rattle.basics.proofs.Tests.{not-both, false_of_not, true_of_not, not_iff, each-map₂}
use Rattle.action_language.specs.declared.Head.{Head}
use Rattle.action_language.specs.declared.Head.TheVariants.{Lit, False}
use Rattle.action_language.specs.declared.Law.{Law}
use Rattle.transitions.specs.Meaning.{Interpretation, satisfies, satisfies_head, caused, SatisfiesAll, Explained}
use Rattle.basics.proofs.Parity.{even-or-odd}
use Rattle.transitions.proofs.Literals.{satisfies-even, satisfies-odd}
use Rattle.law_effects.specs.Applying.{applies_in_step, literal_in, head_is, some_cause}
use Rattle.causal_steps.proofs.CausedHeads.{cause-heads, heads-cause, caused-iff}

-- The literal of a fluent that holds

pub satisfied-literal : (I : Interpretation) (c : ℕ) → satisfies I c ≡ true → c ≡ literal_in I (c / 2)
satisfied-literal I c e = ⊎_elim even odd (even-or-odd c)
  where
    even : c ≡ 2 * (c / 2) → c ≡ literal_in I (c / 2)
    even p = let t : I (c / 2) ≡ true = sym (satisfies-even I (c / 2)) ∙ (rw p at e) in rw t p

    odd : c ≡ 2 * (c / 2) + 1 → c ≡ literal_in I (c / 2)
    odd p = let f : I (c / 2) ≡ false = (not_iff (I (c / 2))).0 (sym (satisfies-odd I (c / 2)) ∙ (rw p at e)) in rw f p

pub literal-holds : (I : Interpretation) (f : ℕ) → satisfies I (literal_in I f) ≡ true
literal-holds I f = go (I f) refl
  where
    go : (b : Bool) → I f ≡ b → satisfies I (literal_in I f) ≡ true
    go true t = rw t (satisfies-even I f ∙ t)
    go false e = rw e (satisfies-odd I f ∙ (not_iff (I f)).1 e)

pub literal-below : (I : Interpretation) (f n : ℕ) → f < n → literal_in I f < 2 * n
literal-below I f n b = go (I f)
  where
    go : (v : Bool) → cond v (2 * f) (2 * f + 1) < 2 * n
    go true = omega arith
    go false = omega arith

literal-satisfied : (I J : Interpretation) (f : ℕ) → satisfies I (literal_in J f) ≡ true → I f ≡ J f
literal-satisfied I J f = go (J f) refl
  where
    go : (b : Bool) → J f ≡ b → satisfies I (literal_in J f) ≡ true → I f ≡ J f
    go true t e = rw t (sym (satisfies-even I f) ∙ (rw t at e))
    go false t e = rw t ((not_iff (I f)).0 (sym (satisfies-odd I f) ∙ (rw t at e)))

-- an interpretation with the value of one fluent changed
flipped : Interpretation → ℕ → Interpretation
flipped I f i = cond (eqb i f) (not (I i)) (I i)

flips : (I : Interpretation) (f : ℕ) → flipped I f f ≡ I f → ⊥
unfolding flipped
flips I f e = differs (I f) (rw (eq-eqb f f refl) at e)
  where
    differs : (b : Bool) → not b ≡ b → ⊥
    differs true p = not-both p refl
    differs false p = not-both refl p

-- it still satisfies each head but the literal of that fluent
flipped-head : (I : Interpretation) (f : ℕ) (h : Head) → satisfies_head I h ≡ true → head_is h (literal_in I f) ≡ false
    → satisfies_head (flipped I f) h ≡ true
unfolding flipped
flipped-head I f (Lit c) e other = rw elsewhere e
  where
    elsewhere : eqb (c / 2) f ≡ false
    elsewhere = false_of_not (eqb (c / 2) f) (λ t. let same : c / 2 ≡ f = eqb-true (c / 2) f t in
        not-both (eq-eqb c (literal_in I f) (rw same at (satisfied-literal I c e))) other)
flipped-head I f False e other = e

module _ (n : ℕ) (s a s' : Interpretation) where
  abbrev applies : Law → Bool
  applies = applies_in_step n s a s'

  -- all that is caused is satisfied, and each fluent's literal is caused
  abbrev pub StateCaused : List Law → Type 0
  StateCaused ls =
      SatisfiesAll s' (caused n s a s' ls) × ((f : ℕ) → f < n → some_cause (applies_in_step n s a s') (literal_in s' f) ls ≡ true)

  -- else the state with that fluent's value changed would satisfy all that is caused too
  explained-caused : (ls : List Law) → Explained n ls s a s' → (f : ℕ) → f < n → some_cause applies (literal_in s' f) ls ≡ true
  explained-caused ls h f b =
      true_of_not (some_cause applies (literal_in s' f) ls) (λ uncaused. flips s' f (h.only (flipped s' f) (satisfied uncaused) f b))
    where
      satisfied : some_cause applies (literal_in s' f) ls ≡ false → SatisfiesAll (flipped s' f) (caused n s a s' ls)
      satisfied uncaused =
          (caused-iff n s a s' (λ h. satisfies_head (flipped s' f) h ≡ true) ls).1
          (each-map₂ (λ l holds cause e. flipped-head s' f l.head (holds e) (false_of_not _ (λ i. not-both (cause e i) uncaused))) ls
          ((caused-iff n s a s' (λ h. satisfies_head s' h ≡ true) ls).0 h.satisfied) (heads-cause applies (literal_in s' f) ls))

  pub explained-iff : (ls : List Law) → Explained n ls s a s' ↔ StateCaused ls
  explained-iff ls = (
    λ h. (h.satisfied, explained-caused ls h),
    λ h. record {
      satisfied = h.0;
      only = λ I all f b. literal-satisfied I s' f
          (cause-heads applies (literal_in s' f) (λ h. satisfies_head I h ≡ true) ls (h.1 f b)
          ((caused-iff n s a s' (λ h. satisfies_head I h ≡ true) ls).0 all));
    },
  )
