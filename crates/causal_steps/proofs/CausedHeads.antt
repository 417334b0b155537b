-- Causes, law by law, and what is caused in a step.
-- Assumes nothing.
use mathlib.Core.Path.{◌≡◌, refl, sym, ◌∙◌}
use mathlib.Core.Logic.{◌↔◌, ◌⊎◌, inl, inr, ⊎_elim}
use mathlib.Core.Bool.{Bool, true, false, and-true}
use mathlib.Core.List.{List, [], ◌∷◌, Memᴰ}
use Prim.Native.Nat.{ℕ}
use borrow.Author.Tests.{eqb-true, eq-eqb}
use Rattle.basics.specs.Search.{Each}
use Rattle.basics.proofs.Tests.{not-both, and-or-iff, each_map}
use Rattle.basics.proofs.Lists.{each_member, member-each}
use Rattle.action_language.specs.declared.Head.{Head}
use Rattle.action_language.specs.declared.Head.TheVariants.{Lit, False}
use Rattle.action_language.specs.declared.Kind.{Kind}
use Rattle.action_language.specs.declared.Kind.TheVariants.{Static, Dynamic}
use Rattle.action_language.specs.declared.Law.{Law}
use Rattle.action_language.specs.Laws.{if_list}
use Rattle.transitions.specs.Meaning.{Interpretation, holds, causing, caused}
use Rattle.law_effects.specs.Applying.{applies_in_step, head_is, some_cause}

-- whenever a law applies, its head has the property P
abbrev pub Heads : (Head → Type 0) → (Law → Bool) → List Law → Type 0
Heads P applies ls = Each (λ l. applies l ≡ true → P l.head) ls

module _ (applies : Law → Bool) (c : ℕ) where
  here : (l : Law) (ls : List Law)
      → some_cause applies c (l ∷ ls) ≡ true ↔ (((applies l ≡ true) × (head_is l.head c ≡ true)) ⊎ (some_cause applies c ls ≡ true))
  here l ls = and-or-iff (applies l) (head_is l.head c) (some_cause applies c ls)

  is-literal : (P : Head → Type 0) (h : Head) → head_is h c ≡ true → P h → P (Lit c)
  is-literal P (Lit d) e p = rw (sym (eqb-true d c e)) p
  is-literal P False e p = absurd (not-both e refl)

  -- a literal with a cause has what all heads of applying laws have
  pub cause-heads : (P : Head → Type 0) (ls : List Law) → some_cause applies c ls ≡ true → Heads P applies ls → P (Lit c)
  cause-heads P [] e h = absurd (not-both e refl)
  cause-heads P (l ∷ ls) e h =
      ⊎_elim (λ i. is-literal P l.head i.1 (h.0 i.0)) (λ later. cause-heads P ls later h.1) ((here l ls).0 e)

  -- a law that applies is a cause of its head
  pub heads-cause : (ls : List Law) → Heads (λ h. head_is h c ≡ true → some_cause applies c ls ≡ true) applies ls
  heads-cause [] = tt
  heads-cause (l ∷ ls) =
      (λ a i. (here l ls).1 (inl (a, i)), each_map (λ k later a i. (here l ls).1 (inr (later a i))) ls (heads-cause ls))

-- what is caused in a step
module _ (n : ℕ) (s a s' : Interpretation) where
  abbrev applies : Law → Bool
  applies = applies_in_step n s a s'

  pub causing-applies : (k : Kind) (l : Law) → l.kind ≡ k → causing n s a s' k l ≡ applies l
  causing-applies Static l e = rw e (sym (and-true (holds s' (if_list l))))
  causing-applies Dynamic l e = rw e

  pub caused-iff : (P : Head → Type 0) (ls : List Law) → Each P (caused n s a s' ls) ↔ Heads P (applies_in_step n s a s') ls
  caused-iff P [] = (λ h. h, λ h. h)
  caused-iff P (l ∷ ls) = go (causing n s a s' l.kind l) refl (caused-iff P ls)
    where
      same : causing n s a s' l.kind l ≡ applies l
      same = causing-applies l.kind l refl

      go : (b : Bool) → causing n s a s' l.kind l ≡ b → (Each P (caused n s a s' ls) ↔ Heads P applies ls)
          → Each P (caused n s a s' (l ∷ ls)) ↔ Heads P applies (l ∷ ls)
      go true t rest = rw t (λ h. (λ e. h.0, rest.0 h.1), λ h. (h.0 (sym same ∙ t), rest.1 h.1))
      go false f rest = rw f (λ h. (λ e. absurd (not-both (same ∙ e) f), rest.0 h), λ h. rest.1 h.1)

  -- a literal has a cause exactly where it is caused
  pub cause-iff-caused : (c : ℕ) (ls : List Law) → some_cause (applies_in_step n s a s') c ls ≡ true ↔ Memᴰ (Lit c) (caused n s a s' ls)
  cause-iff-caused c ls = (
    λ e. cause-heads applies c (λ h. Memᴰ h heads) ls e ((caused-iff (λ h. Memᴰ h heads) ls).0 (each_member heads)),
    λ m. member-each Caused heads ((caused-iff Caused ls).1 (heads-cause applies c ls)) m (eq-eqb c c refl),
  )
    where
      heads : List Head
      heads = caused n s a s' ls

      Caused : Head → Type 0
      Caused h = head_is h c ≡ true → some_cause applies c ls ≡ true
