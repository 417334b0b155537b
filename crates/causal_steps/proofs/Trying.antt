-- Trying laws one by one: what an effect tells of the law, and what one turn of the loop does to the work that remains.
-- Assumes nothing.
use mathlib.Core.Path.{◌≡◌, refl, sym, ◌∙◌, ap, fun_ext}
use mathlib.Core.Logic.{◌↔◌, ⊎_elim}
use mathlib.Core.Bool.{Bool, true, false, not, cond, ◌&&◌, ◌||◌, or-false}
use mathlib.Core.List.{List, [], ◌∷◌}
use mathlib.Core.Option.{none, some}
use Prim.Native.Nat.{ℕ, suc, ◌+◌, ◌≤◌, ◌<◌}
use native.Mathlib.Omega.{arith}
use borrow.Author.Tests.{eqb-true}
use lib.Dec.{eqb}
use lib.ListN.{length, get_or, drop, replicate, drop_of_length-le}
use lib.Seq.{drop-cons}
use native.Mathlib.Numerals.{add-one}
use Rattle.basics.specs.Search.{first, range}
use Rattle.basics.proofs.Tests.{not-both, or-iff}
use Rattle.basics.proofs.Loops.{first-stop, first-go, first_done}
use Rattle.basics.proofs.Stored.{get_d_replicate}
use Rattle.action_language.specs.declared.Head.{Head}
use Rattle.action_language.specs.declared.Head.TheVariants.{Lit, False}
use Rattle.action_language.specs.declared.Law.{Law}
use Rattle.action_language.specs.Laws.{no_law}
use Rattle.transitions.specs.Meaning.{Interpretation, satisfies, satisfies_head, caused}
use Rattle.law_effects.specs.Applying.{applies_in_step, literal_in, head_is, some_cause, contradicts}
use Rattle.causal_steps.specs.Marked.{before, marked_caused, MarksOf}
use Rattle.law_effects.specs.Effects.{effect_of}
use Rattle.causal_steps.specs.Internal.{is_cause, head_marked}
use Rattle.law_effects.specs.declared.laws.Effect.{Effect}
use Rattle.law_effects.specs.declared.laws.Effect.TheVariants.{Causes, Contradicts}
use Rattle.causal_steps.proofs.CausedHeads.{cause-iff-caused}

-- a law that contradicts
pub contradicting : (s' : Interpretation) (h : Head) (b : Bool) → effect_of s' h b ≡ Contradicts → (b && not (satisfies_head s' h)) ≡ true
contradicting s' (Lit c) true e = go (satisfies s' c) e
  where
    go : (v : Bool) → cond v (Causes c) Contradicts ≡ Contradicts → not v ≡ true
    go true q = let z : ◌≡◌ {A = ℕ} 0 1 = cc in absurd (omega arith)
    go false q = refl
contradicting s' False true e = refl
contradicting s' h false e = let z : ◌≡◌ {A = ℕ} 0 1 = cc in absurd (omega arith)

-- a law that does not: what it causes is its head, if it applies
pub agreeing : (s' : Interpretation) (h : Head) (b : Bool) → (effect_of s' h b ≡ Contradicts → ⊥)
    → ((b && not (satisfies_head s' h)) ≡ false) × ((c : ℕ) → is_cause (effect_of s' h b) c ≡ (b && head_is h c))
agreeing s' (Lit d) true told = go (satisfies s' d) told
  where
    go : (v : Bool) → (cond v (Causes d) Contradicts ≡ Contradicts → ⊥)
        → (not v ≡ false) × ((c : ℕ) → is_cause (cond v (Causes d) Contradicts) c ≡ eqb d c)
    go true q = (refl, λ c. refl)
    go false q = absurd (q refl)
agreeing s' False true told = absurd (told refl)
agreeing s' h false told = (refl, λ c. refl)

-- what is caused holds in the new state
pub caused-holds : (s' : Interpretation) (h : Head) (b : Bool) (c : ℕ) → is_cause (effect_of s' h b) c ≡ true → satisfies s' c ≡ true
caused-holds s' (Lit d) true c e = go (satisfies s' d) refl e
  where
    go : (v : Bool) → satisfies s' d ≡ v → is_cause (cond v (Causes d) Contradicts) c ≡ true → satisfies s' c ≡ true
    go true held q = rw (← eqb-true d c q) held
    go false held q = absurd (not-both q refl)
caused-holds s' False true c e = absurd (not-both e refl)
caused-holds s' h false c e = absurd (not-both e refl)

-- where nothing passes the test, nothing is left out
pub before-none : {A : Type 0} (p : A → Bool) (k : ℕ) (xs : List A) → first p k xs ≡ none → before p xs ≡ xs
before-none p k [] e = refl
before-none p k (x ∷ xs) e = go (p x) e (before-none p (suc k) xs)
  where
    go : (b : Bool) → cond b (some k) (first p (suc k) xs) ≡ none → (first p (suc k) xs ≡ none → before p xs ≡ xs)
        → cond b [] (x ∷ before p xs) ≡ x ∷ xs
    go true q rest = let z : ◌≡◌ {A = ℕ} 0 1 = cc in absurd (omega arith)
    go false q rest = ap (λ l. x ∷ l) (rest q)

-- marks of what some law causes are marks of what is caused
pub marks-caused : (n : ℕ) (s a s' : Interpretation) (ls : List Law) (marks : List Bool) → length marks ≡ 256
    → ((c : ℕ) → marked_caused marks c ≡ some_cause (applies_in_step n s a s') c ls) → MarksOf (caused n s a s' ls) marks
marks-caused n s a s' ls marks size is = (size, λ c. rw (is c) (cause-iff-caused n s a s' c ls))

pub caused-marks : (n : ℕ) (s a s' : Interpretation) (ls : List Law) (marks : List Bool) → MarksOf (caused n s a s' ls) marks
    → (c : ℕ) → marked_caused marks c ≡ some_cause (applies_in_step n s a s') c ls
caused-marks n s a s' ls marks h c =
    go (marked_caused marks c) (some_cause (applies_in_step n s a s') c ls) (h.1 c) (cause-iff-caused n s a s' c ls)
  where
    go : (x y : Bool) {M : Type 0} → x ≡ true ↔ M → y ≡ true ↔ M → x ≡ y
    go true true f g = refl
    go true false f g = sym (g.1 (f.0 refl))
    go false true f g = f.1 (g.0 refl)
    go false false f g = refl

-- a law whose head is marked or not, where all that is marked holds in the new state
module _ (s' : Interpretation) (marks : List Bool) (held : (c : ℕ) → marked_caused marks c ≡ true → satisfies s' c ≡ true) where
  -- it contradicts only where its head is not marked
  pub known-contradicting : (h : Head) (b known : Bool) → effect_of s' h (not known && b) ≡ Contradicts
      → (b && not (satisfies_head s' h)) ≡ true
  known-contradicting h b true e = let z : ◌≡◌ {A = ℕ} 0 1 = cc in absurd (omega arith)
  known-contradicting h b false e = contradicting s' h b e

  -- and where it is, nothing is left to be marked
  pub known-agreeing : (h : Head) (b known : Bool) → known ≡ head_marked marks h
      → (effect_of s' h (not known && b) ≡ Contradicts → ⊥)
      → ((b && not (satisfies_head s' h)) ≡ false)
      × ((c : ℕ) → (is_cause (effect_of s' h (not known && b)) c || marked_caused marks c) ≡ ((b && head_is h c) || marked_caused marks c))
  known-agreeing h b false is told = let agrees = agreeing s' h b told in (agrees.0, λ c. rw (agrees.1 c))
  known-agreeing (Lit d) b true is told = (rw (held d (sym is)) (none-against b), λ c. same c (eqb d c) refl b)
    where
      none-against : (v : Bool) → (v && false) ≡ false
      none-against true = refl
      none-against false = refl

      same : (c : ℕ) (e : Bool) → eqb d c ≡ e → (v : Bool) → marked_caused marks c ≡ ((v && e) || marked_caused marks c)
      same c true q true = rw (← eqb-true d c q) (sym is)
      same c false q true = refl
      same c e q false = refl
  known-agreeing False b true is told = absurd (not-both refl is)

-- The loop over the laws of a step.
module _ (n : ℕ) (s a s' : Interpretation) (ls : List Law) where
  abbrev applied : Law → Bool
  applied = applies_in_step n s a s'

  abbrev against : Law → Bool
  against = contradicts applied s'

  -- the lowest law that contradicts is the lowest of those not yet passed; what is marked together with what the laws ahead cause
  -- is all that is to be marked; and what is marked holds in the new state
  abbrev pub Ahead : ℕ → List Bool → Type 0
  Ahead i marks =
      (first against i (drop i ls) ≡ first against 0 ls)
      × ((c : ℕ) → (marked_caused marks c || some_cause applied c (before against (drop i ls)))
      ≡ some_cause applied c (before against ls))
      × ((c : ℕ) → marked_caused marks c ≡ true → satisfies s' c ≡ true)

  pub try-start : (marks : List Bool) → marks ≡ replicate 256 false → Ahead 0 marks
  try-start marks is = (
    refl,
    λ c. rw (is, get_d_replicate 256 c false),
    λ c e. absurd (not-both e (ap (λ l. marked_caused l c) is ∙ get_d_replicate 256 c false)),
  )

  module _ (i : ℕ) (d : Law) (marks : List Bool) (known : Bool) where
    pub try-stop : i < length ls → length marks ≡ 256 → Ahead i marks
        → (e : Effect) → e ≡ effect_of s' (get_or ls i d).head (not known && applied (get_or ls i d)) → e ≡ Contradicts
        → (some i ≡ first against 0 ls) × MarksOf (caused n s a s' (before against ls)) marks
    try-stop h size inv e is told =
        let found = known-contradicting s' marks inv.2 (get_or ls i d).head (applied (get_or ls i d)) known (sym is ∙ told) in (
          first-stop against ls i d h inv.0 found,
          marks-caused n s a s' (before against ls) marks size
              (λ c. sym (or-false (marked_caused marks c)) ∙ (rw (drop-cons ls i d h, found) at (inv.1 c))),
        )

    pub try-go : i < length ls → Ahead i marks → known ≡ head_marked marks (get_or ls i d).head
        → (e : Effect) → e ≡ effect_of s' (get_or ls i d).head (not known && applied (get_or ls i d)) → (e ≡ Contradicts → ⊥)
        → (next : List Bool) → ((c : ℕ) → marked_caused next c ≡ (is_cause e c || marked_caused marks c)) → Ahead (i + 1) next
    try-go h inv head-known e is told next marking =
        let agrees = known-agreeing s' marks inv.2 (get_or ls i d).head (applied (get_or ls i d)) known head-known (λ q. told (is ∙ q)) in (
          first-go against ls i d h inv.0 agrees.0,
          λ c. rw (marking c, is, agrees.1 c, add-one i)
              (exchange (applied (get_or ls i d) && head_is (get_or ls i d).head c) (marked_caused marks c) _
              ∙ (rw (drop-cons ls i d h, agrees.0) at (inv.1 c))),
          λ c q. ⊎_elim (λ now. caused-holds s' (get_or ls i d).head (not known && applied (get_or ls i d)) c (rw is at now)) (inv.2 c)
              ((or-iff (is_cause e c) (marked_caused marks c)).0 (sym (marking c) ∙ q)),
        )
      where
        exchange : (x y z : Bool) → ((x || y) || z) ≡ (y || (x || z))
        exchange true true z = refl
        exchange true false z = refl
        exchange false y z = refl

  pub try-done : (i : ℕ) (marks : List Bool) → length ls ≤ i → length marks ≡ 256 → Ahead i marks
      → (none ≡ first against 0 ls) × MarksOf (caused n s a s' (before against ls)) marks
  try-done i marks h size inv = (
    first_done against ls i (no_law) h inv.0,
    marks-caused n s a s' (before against ls) marks size
        (λ c. sym (or-false (marked_caused marks c)) ∙ (rw (drop_of_length-le ls h) at (inv.1 c))),
  )

-- where no law contradicts, the lowest fluent that is not marked is the lowest without a cause
pub unmarked-uncaused : (n : ℕ) (s a s' : Interpretation) (ls : List Law) (marks : List Bool)
    → let against = contradicts (applies_in_step n s a s') s' in
    first against 0 ls ≡ none → MarksOf (caused n s a s' (before against ls)) marks
    → first (λ f. not (marked_caused marks (literal_in s' f))) 0 (range 0 n)
    ≡ first (λ f. not (some_cause (applies_in_step n s a s') (literal_in s' f) ls)) 0 (range 0 n)
unmarked-uncaused n s a s' ls marks e h =
    let all = before-none (contradicts (applies_in_step n s a s') s') 0 ls e in
    ap (λ test. first test 0 (range 0 n)) (fun_ext (λ f. ap not (caused-marks n s a s' ls marks (rw all at h) (literal_in s' f))))
