-- Interpretations that agree on the n fluents, and actions that agree on the m actions, are the same to laws that are accepted.
-- Assumes nothing.
use mathlib.Core.Path.{◌≡◌, refl, sym, ◌∙◌}
use mathlib.Core.Logic.{◌↔◌, ⊎_elim}
use mathlib.Core.Bool.{true, false}
use mathlib.Core.List.{List, [], ◌∷◌}
use Prim.Native.Nat.{ℕ, ◌+◌, ◌-◌, ◌*◌, ◌/◌, ◌<◌}
use native.Mathlib.Omega.{arith}
use lib.Dec.{ltb}
use borrow.Author.Tests.{ltb-true, ltb-false}
use Rattle.basics.proofs.Tests.{true-or-false, each-map₂}
use Rattle.action_language.specs.declared.Head.{Head}
use Rattle.action_language.specs.declared.Head.TheVariants.{Lit, False}
use Rattle.action_language.specs.declared.Kind.{Kind}
use Rattle.action_language.specs.declared.Kind.TheVariants.{Static, Dynamic}
use Rattle.action_language.specs.declared.Law.{Law}
use Rattle.action_language.specs.Laws.{if_list, after_list}
use Rattle.transitions.specs.Meaning.{Interpretation, satisfies, holds, satisfies_head, together, causing, caused}
use Rattle.transitions.specs.Meaning.{SatisfiesAll, Same, Explained, SatisfiesStatic, State}
use Rattle.action_language.proofs.Laws.{AllFit}
use Rattle.action_language.proofs.Fits.{CodesBelow, HeadBelow, AfterBelow, Fits, law-fits}
use Rattle.causal_steps.proofs.CausedHeads.{caused-iff}

-- Literals, lists and heads

module _ (k : ℕ) (I J : Interpretation) (same : Same k I J) where
  satisfies-same : (c : ℕ) → c < 2 * k → satisfies I c ≡ satisfies J c
  satisfies-same c b = rw (same (c / 2) (omega arith))

  holds_same : (cs : List ℕ) → CodesBelow (2 * k) cs → holds I cs ≡ holds J cs
  holds_same [] low = refl
  holds_same (c ∷ cs) (b, low) = rw (satisfies-same c b, holds_same cs low)

  head-same : (h : Head) → HeadBelow (2 * k) h → satisfies_head I h ≡ satisfies_head J h
  head-same (Lit c) b = satisfies-same c b
  head-same False b = refl

together-same : (n m : ℕ) (s t a b : Interpretation) → Same n s t → Same m a b → Same (n + m) (together n s a) (together n t b)
together-same n m s t a b states acts i low =
    ⊎_elim (λ (e : ltb i n ≡ true). rw e (states i (ltb-true i n e)))
    (λ (e : ltb i n ≡ false). rw e (acts (i - n) (omega (arith, ltb-false i n e)))) (true-or-false (ltb i n))

flipped : (n : ℕ) (I J : Interpretation) → Same n I J → Same n J I
flipped n I J same f b = sym (same f b)

-- States

state-same : (n m : ℕ) (s t : Interpretation) → Same n s t → (ls : List Law) → AllFit n m ls → State ls s → State ls t
state-same n m s t same ls fit h = each-map₂ (λ l fits. law l.kind l (law-fits n m l fits)) ls fit h
  where
    law : (k : Kind) (l : Law) → Fits n m l → SatisfiesStatic s k l → SatisfiesStatic t k l
    law Static l f h = λ e. sym (head-same n s t same l.head f.head) ∙ h (holds_same n s t same (if_list l) f.if-list ∙ e)
    law Dynamic l f h = tt

pub agree-state : (n m : ℕ) (s t : Interpretation) → Same n s t → (ls : List Law) → AllFit n m ls → State ls s ↔ State ls t
agree-state n m s t same ls fit = (state-same n m s t same ls fit, state-same n m t s (flipped n s t same) ls fit)

-- Steps

module _ (n m : ℕ) (s t a b s' t' : Interpretation) (before : Same n s t) (acts : Same m a b) (after : Same n s' t') where
  causing-same : (k : Kind) (l : Law) → CodesBelow (2 * n) (if_list l) → AfterBelow (2 * (n + m)) k l
      → causing n s a s' k l ≡ causing n t b t' k l
  causing-same Static l ifs afters = holds_same n s' t' after (if_list l) ifs
  causing-same Dynamic l ifs afters =
      rw (
        holds_same n s' t' after (if_list l) ifs,
        holds_same (n + m) (together n s a) (together n t b) (together-same n m s t a b before acts) (after_list l) afters,
      )

  caused-same : (ls : List Law) → AllFit n m ls → caused n s a s' ls ≡ caused n t b t' ls
  caused-same [] fit = refl
  caused-same (l ∷ ls) (fits, fit) =
      let f = law-fits n m l fits in rw (causing-same l.kind l f.if-list f.after_list, caused-same ls fit)

  satisfied-same : (ls : List Law) → AllFit n m ls → SatisfiesAll s' (caused n s a s' ls) → SatisfiesAll t' (caused n s a s' ls)
  satisfied-same ls fit all =
      (caused-iff n s a s' (λ h. satisfies_head t' h ≡ true) ls).1
      (each-map₂ (λ l fits obeyed e. sym (head-same n s' t' after l.head (law-fits n m l fits).head) ∙ obeyed e) ls fit
      ((caused-iff n s a s' (λ h. satisfies_head s' h ≡ true) ls).0 all))

  explained-same : (ls : List Law) → AllFit n m ls → Explained n ls s a s' → Explained n ls t b t'
  explained-same ls fit h = record {
    satisfied = rw (← caused-same ls fit) (satisfied-same ls fit h.satisfied);
    only = λ I all f low. h.only I (rw (caused-same ls fit) all) f low ∙ after f low;
  }

pub agree-explained : (n m : ℕ) (s t a b s' t' : Interpretation) → Same n s t → Same m a b → Same n s' t' → (ls : List Law) → AllFit n m ls
    → Explained n ls s a s' ↔ Explained n ls t b t'
agree-explained n m s t a b s' t' before acts after ls fit = (
  explained-same n m s t a b s' t' before acts after ls fit,
  explained-same n m t s b a t' s' (flipped n s t before) (flipped m a b acts) (flipped n s' t' after) ls fit,
)
