-- The answer sets of a translated description, among the sets with one value for each atom, are the paths (000, section 4,
-- Proposition 1).
-- Assumes nothing.
use mathlib.Core.Path.{◌≡◌, refl, sym, ap, ◌∙◌}
use mathlib.Core.Logic.Iff
use mathlib.Core.Logic.{◌↔◌, ⊎_elim}
use mathlib.Core.Bool.{Bool, true, false, not, ◌&&◌, ◌||◌, and-true, not-not}
use mathlib.Core.List.{List, []}
use Prim.Native.Nat.{ℕ, zero, suc, ◌+◌, ◌-◌, ◌*◌, ◌/◌, ◌%◌, ◌≤◌, ◌<◌}
use native.Mathlib.Omega.{arith}
use native.Mathlib.Nat.{mul-le-mul_right}
use lib.Dec.{ltb}
use lib.ListN.{length}
use borrow.Author.Tests.{ltb-true, ltb-false, eq-eqb}
use Rattle.basics.specs.Search.{Each}
use Rattle.basics.proofs.Tests.{true-or-false, not-both, each_map, each-map₂}
use Rattle.basics.proofs.Lists.{each-iff-given, each-mapped}
use Rattle.logic_programs.specs.Literals.{OneValue, Lits, set_of}
use Rattle.logic_programs.specs.Rules.{Head, lit, falsum, Rule}
use Rattle.logic_programs.specs.AnswerSets.{reduct, HeadIn, Closed, Consistent, AnswerSet}
use Rattle.logic_programs.proofs.Complements.{complement-even}
use Rattle.tight_programs.specs.TightPrograms.{Support, Supported, LowerParts, Tight}
use Rattle.tight_programs.proofs.Supported.{body_in, closed-rules, rules-support, support-cases, proposition-4}
use Rattle.answer_set_theory.proofs.Theorems.{set_of-below}
use Rattle.action_language.specs.declared.Head as described
use Rattle.action_language.specs.declared.Head.TheVariants.{Lit, False}
use Rattle.action_language.specs.declared.Kind.{Kind}
use Rattle.action_language.specs.declared.Kind.TheVariants.{Static, Dynamic}
use Rattle.action_language.specs.declared.Law.{Law}
use Rattle.action_language.specs.Laws.{if_list, after_list}
use Rattle.action_language.specs.Atoms.{action_atom, atom_count}
use Rattle.action_language.specs.Acceptance.{law_fits}
use Rattle.transitions.specs.Meaning.{Interpretation, satisfies, holds, satisfies_head, state_at, Path}
use Rattle.basics.proofs.Parity.{even-or-odd}
use Rattle.action_language.proofs.Fits.{CodesBelow, HeadBelow, AfterBelow, Fits, law-fits}
use Rattle.translation_rules.specs.RuleForms.{at_time, head_at, literals_at, static_rule}
use Rattle.translation_rules.specs.Rules.{translation}
use Rattle.translation_bounds.proofs.RuleByRule.{step_rule, AtStart, AtChoice, EachRule, each-rule}
use Rattle.law_effects.specs.Applying.{applies_at_start, literal_in, head_is, some_cause}
use Rattle.causal_steps.proofs.CausedHeads.{cause-heads, heads-cause}
use Rattle.correctness.proofs.Explained.{satisfied-literal, literal-holds, literal-below}
use Rattle.correctness.proofs.Reading.{Obeyed, Supplied, in_step, path-iff}
use Rattle.correctness.proofs.Values.{fluent-in, complement-in, if-holds, after_holds}

-- Codes and times

pub same-time : (N i j a b : ℕ) → a < 2 * N → b < 2 * N → at_time N i a ≡ at_time N j b → (i ≡ j) × (a ≡ b)
same-time N i j a b low low' e =
    ⊎_elim (λ before. absurd (omega (arith, mul-le-mul_right N (ltb-true i j before))))
    (λ from. ⊎_elim (λ after. absurd (omega (arith, mul-le-mul_right N (ltb-true j i after))))
    (λ to. let same : i ≡ j = omega (arith, ltb-false i j from, ltb-false j i to) in (same, omega (arith, rw same at e)))
    (true-or-false (ltb j i))) (true-or-false (ltb i j))

-- a literal of a fluent at time 0, of a fluent later, or of an action
data Place (n m T c : ℕ) : Type 0 where
  start : c < 2 * n → Place n m T c
  later : (t d : ℕ) → t < T → d < 2 * n → c ≡ at_time (n + m) (suc t) d → Place n m T c
  action : (t k : ℕ) → t < T → k < m → c / 2 ≡ action_atom n m t k → Place n m T c

place : (n m T c : ℕ) → c < 2 * atom_count n m T → Place n m T c
place n m zero c b = start (omega arith)
place n m (suc T) c b =
    ⊎_elim (λ t. longer (place n m T c (ltb-true c (2 * atom_count n m T) t))) past (true-or-false (ltb c (2 * atom_count n m T)))
  where
    longer : Place n m T c → Place n m (suc T) c
    longer (start low) = start low
    longer (later t d b low e) = later t d (omega arith) low e
    longer (action t k b low e) = action t k (omega arith) low e

    last-action : 2 * atom_count n m T ≤ c → c < 2 * (suc T * (n + m)) → Place n m (suc T) c
    last-action low high = action T (c / 2 - (T * (n + m) + n)) (omega arith) (omega arith) (omega arith)

    last-state : 2 * (suc T * (n + m)) ≤ c → Place n m (suc T) c
    last-state low = later T (c - 2 * (suc T * (n + m))) (omega arith) (omega arith) (omega arith)

    past : ltb c (2 * atom_count n m T) ≡ false → Place n m (suc T) c
    past f =
        ⊎_elim (λ t. last-action (ltb-false c (2 * atom_count n m T) f) (ltb-true c (2 * (suc T * (n + m))) t))
        (λ g. last-state (ltb-false c (2 * (suc T * (n + m))) g)) (true-or-false (ltb c (2 * (suc T * (n + m)))))

-- The rules are tight: a plain part has a lower code than the head, for it is at an earlier time

no-parts : (level : ℕ → ℕ) (h : Head) → LowerParts level [] h
no-parts level (lit c) = tt
no-parts level falsum = tt

rules-tight : (n m T : ℕ) (ls : List Law) → Each (Fits n m) ls → Tight (λ c. c) (translation n m T ls)
rules-tight n m T ls fit =
    (each-rule (λ r. LowerParts (λ c. c) r.plain r.head) n m T ls).1 (
      each_map (λ l f. at-start l.kind l) ls fit,
      λ t b. each_map (λ l f. in_step_lem t l.kind l f.after_list) ls fit,
      λ f b. (tt, tt),
      λ t b k low. (tt, tt),
    )
  where
    N : ℕ
    N = n + m

    at-start : (k : Kind) (l : Law) → AtStart (λ r. LowerParts (λ c. c) r.plain r.head) N k l
    at-start Static l = no-parts (λ c. c) (head_at N 0 l.head)
    at-start Dynamic l = tt

    earlier : (t : ℕ) (cs : List ℕ) (h : described.Head) → CodesBelow (2 * (n + m)) cs
        → LowerParts (λ c. c) (literals_at N t cs) (head_at N (suc t) h)
    earlier t cs (Lit c) low = (each-mapped (λ d. d < at_time N (suc t) c) (at_time N t) cs).1 (each_map (λ d l. omega arith) cs low)
    earlier t cs False low = tt

    in_step_lem : (t : ℕ) (k : Kind) (l : Law) → AfterBelow (2 * (n + m)) k l
        → LowerParts (λ c. c) (step_rule N t k l).plain (step_rule N t k l).head
    in_step_lem t Static l low = no-parts (λ c. c) (head_at N (suc t) l.head)
    in_step_lem t Dynamic l low = earlier t (after_list l) l.head low

pub translation-tight : (n m T : ℕ) (ls : List Law) → Each (λ l. law_fits n m l ≡ true) ls → Tight (λ c. c) (translation n m T ls)
translation-tight n m T ls laws-fit = rules-tight n m T ls (each_map (λ l e. law-fits n m l e) ls laws-fit)

step-head : (N t : ℕ) (k : Kind) (l : Law) → (step_rule N t k l).head ≡ head_at N (suc t) l.head
step-head N t Static l = refl
step-head N t Dynamic l = refl

same_code : {a b : ℕ} → lit a ≡ lit b → a ≡ b
same_code e = cc

not-literal : {a : ℕ} → falsum ≡ lit a → ⊥
not-literal e = let z : ◌≡◌ {A = ℕ} 0 1 = cc in omega arith

-- a head's literal and time are settled by its code
head-time : (n m i j c : ℕ) (h : described.Head) → HeadBelow (2 * n) h → c < 2 * n
    → head_at (n + m) i h ≡ lit (at_time (n + m) j c) → (i ≡ j) × (head_is h c ≡ true)
head-time n m i j c (Lit d) low low' e =
    let (time, code) = same-time (n + m) i j d c (omega arith) (omega arith) (same_code e) in
    (time, eq-eqb d c code)
head-time n m i j c False low low' e = absurd (not-literal e)

implies-iff : {a b : Bool} {A B : Type 0} → a ≡ b → A ↔ B → (a ≡ true → A) ↔ (b ≡ true → B)
implies-iff same iff = (λ h e. iff.0 (h (same ∙ e)), λ h e. iff.1 (h (sym same ∙ e)))

module _ (n m T : ℕ) (ls : List Law) (vs : List ℕ)
    (laws-fit : Each (λ l. law_fits n m l ≡ true) ls) (size : length vs ≡ atom_count n m T) (one : Each OneValue vs) where
  abbrev N : ℕ
  N = n + m

  abbrev X : Lits
  X = set_of vs

  abbrev Π : List Rule
  Π = translation n m T ls

  abbrev s : ℕ → Interpretation
  s t = state_at n m vs t

  fit : Each (Fits n m) ls
  fit = each_map (λ l e. law-fits n m l e) ls laws-fit

  odd-in : (a : ℕ) → a < length vs → X (2 * a + 1) ≡ not (X (2 * a))
  odd-in a b = rw complement-even at (complement-in n m T vs size one (2 * a) (omega arith))

  -- Where the rules apply

  head_in : (t : ℕ) → t ≤ T → (h : described.Head) → HeadBelow (2 * n) h → HeadIn (head_at N t h) X ↔ satisfies_head (s t) h ≡ true
  head_in t b (Lit c) low = let same = fluent-in n m T vs size one t c b low in (λ e. sym same ∙ e, λ e. same ∙ e)
  head_in t b False low = (λ e. absurd e, λ e. not-both e refl)

  start-applies : (l : Law) → Fits n m l → body_in X (static_rule N l 0) ≡ holds (s 0) (if_list l)
  start-applies l f = rw (if-holds n m T vs size one 0 (if_list l) (omega arith) f.if-list) (and-true _)

  step-applies : (t : ℕ) → t < T → (l : Law) → Fits n m l → body_in X (step_rule N t l.kind l) ≡ in_step n m vs t l
  step-applies t b l f = go l.kind refl f.after_list
    where
      go : (k : Kind) → l.kind ≡ k → AfterBelow (2 * (n + m)) k l → body_in X (step_rule N t k l) ≡ in_step n m vs t l
      go Static e low = rw (e, if-holds n m T vs size one (suc t) (if_list l) b f.if-list)
      go Dynamic e low =
          rw (e, if-holds n m T vs size one (suc t) (if_list l) b f.if-list, after_holds n m T vs size one t (after_list l) b low)

  -- the rule for a value of an open atom has its body in the set exactly where the atom has that value
  unless : (p : Bool) → (not (p || false) && true) ≡ not p
  unless true = refl
  unless false = refl

  choice-applies : (B : ℕ) → B < length vs → AtChoice (λ r. body_in X r ≡ true ↔ HeadIn r.head X) B
  choice-applies B b =
      let even : (not (X (2 * B) || false) && true) ≡ X (2 * B + 1) = unless (X (2 * B)) ∙ sym (odd-in B b) in
      let odd : (not (X (2 * B + 1) || false) && true) ≡ X (2 * B) =
      unless (X (2 * B + 1)) ∙ ap not (odd-in B b) ∙ not-not (X (2 * B)) in
      ((λ e. sym even ∙ e, λ e. even ∙ e), (λ e. sym odd ∙ e, λ e. odd ∙ e))

  fluent-open : (f : ℕ) → f < n → f < length vs
  fluent-open f b = omega arith

  action-open : (t k : ℕ) → t < T → k < m → action_atom n m t k < length vs
  action-open t k b low = omega (arith, mul-le-mul_right (n + m) b)

  -- Closed: the laws are obeyed

  abbrev Keeps : Rule → Type 0
  Keeps r = body_in X r ≡ true → HeadIn r.head X

  start-kept : (l : Law) → Fits n m l → AtStart Keeps N l.kind l ↔ (applies_at_start (s 0) l ≡ true → satisfies_head (s 0) l.head ≡ true)
  start-kept l f = go l.kind refl
    where
      go : (k : Kind) → l.kind ≡ k → AtStart Keeps N k l ↔ (applies_at_start (s 0) l ≡ true → satisfies_head (s 0) l.head ≡ true)
      go Static e = rw e (implies-iff (start-applies l f) (head_in 0 (omega arith) l.head f.head))
      go Dynamic e = rw e (λ h i. absurd (not-both i refl), λ h. tt)

  step_kept : (t : ℕ) → t < T → (l : Law) → Fits n m l
      → Keeps (step_rule N t l.kind l) ↔ (in_step n m vs t l ≡ true → satisfies_head (s (suc t)) l.head ≡ true)
  step_kept t b l f = implies-iff (step-applies t b l f) (rw step-head (head_in (suc t) b l.head f.head))

  choice-kept : (B : ℕ) → B < length vs → AtChoice Keeps B
  choice-kept B b = let same = choice-applies B b in (same.0.0, same.1.0)

  closed-iff : Closed (reduct Π X) X
      ↔ (Obeyed (s 0) (applies_at_start (s 0)) ls × ((t : ℕ) → t < T → Obeyed (s (suc t)) (in_step n m vs t) ls))
  closed-iff =
      Iff.trans (closed-rules Π X)
      (Iff.trans (each-rule Keeps n m T ls) (
        λ h. (at-start.0 h.0, λ t b. (in_step_lem t b).0 (h.1 t b)),
        λ h. (
          at-start.1 h.0,
          λ t b. (in_step_lem t b).1 (h.1 t b),
          λ f b. choice-kept f (fluent-open f b),
          λ t b k low. choice-kept (action_atom n m t k) (action-open t k b low),
        ),
      ))
    where
      at-start : Each (λ l. AtStart Keeps N l.kind l) ls ↔ Obeyed (s 0) (applies_at_start (s 0)) ls
      at-start = each-iff-given start-kept ls fit

      in_step_lem : (t : ℕ) → t < T → Each (λ l. Keeps (step_rule N t l.kind l)) ls ↔ Obeyed (s (suc t)) (in_step n m vs t) ls
      in_step_lem t b = each-iff-given (step_kept t b) ls fit

  -- Supported: the literals of the later states are supplied

  supported-supplied : Supported Π X → (t : ℕ) → t < T → Supplied n (s (suc t)) (in_step n m vs t) ls
  supported-supplied supported t b f low =
      support-cases Π X (at_time N (suc t) c) (supported (at_time N (suc t) c) holds-there) ((each-rule Causes n m T ls).1 (
        each_map (λ l f. at-start l.kind l f) ls fit,
        λ t' b'. each-map₂ (λ l f cause a h. in_step_lem t' b' l f a h cause) ls fit (heads-cause (in_step n m vs t) c ls),
        λ f b. (λ a h. absurd (not_start (2 * f + 1) (omega arith) h), λ a h. absurd (not_start (2 * f) (omega arith) h)),
        λ t' b' k low. let B = action_atom n m t' k in
            (λ a h. absurd (not-action t' k (2 * B + 1) low (omega arith) h), λ a h. absurd (not-action t' k (2 * B) low (omega arith) h)),
      ))
    where
      c : ℕ
      c = literal_in (s (suc t)) f

      c-low : c < 2 * n
      c-low = literal-below (s (suc t)) f n low

      holds-there : X (at_time N (suc t) c) ≡ true
      holds-there = fluent-in n m T vs size one (suc t) c b c-low ∙ literal-holds (s (suc t)) f

      not_start : (d : ℕ) → d < 2 * n → lit d ≡ lit (at_time N (suc t) c) → ⊥
      not_start d low e = omega (arith, same_code e)

      not-action : (t' k d : ℕ) → k < m → d / 2 ≡ action_atom n m t' k → lit d ≡ lit (at_time N (suc t) c) → ⊥
      not-action t' k d low half e =
          let same : d ≡ at_time N (suc t) c = same_code e in
          let code = same-time N t' (suc t) (2 * (n + k) + d % 2) c (omega arith) (omega (arith, c-low)) (omega arith) in
          omega (arith, code.1, c-low)

      Caused : Type 0
      Caused = some_cause (in_step n m vs t) c ls ≡ true

      Causes : Rule → Type 0
      Causes r = body_in X r ≡ true → r.head ≡ lit (at_time N (suc t) c) → Caused

      at-start : (k : Kind) (l : Law) → Fits n m l → AtStart Causes N k l
      at-start Static l f = λ a h. let (time, code) = head-time n m 0 (suc t) c l.head f.head c-low h in absurd (omega arith)
      at-start Dynamic l f = tt

      in_step_lem : (t' : ℕ) → t' < T → (l : Law) → Fits n m l → body_in X (step_rule N t' l.kind l) ≡ true
          → (step_rule N t' l.kind l).head ≡ lit (at_time N (suc t) c)
          → (in_step n m vs t l ≡ true → head_is l.head c ≡ true → Caused) → Caused
      in_step_lem t' b' l f a h cause =
          let (time, code) = head-time n m (suc t') (suc t) c l.head f.head c-low (rw step-head at h) in
          let same : t' ≡ t = omega arith in
          cause (rw same at (sym (step-applies t' b' l f) ∙ a)) code

  supplied-supported : ((t : ℕ) → t < T → Supplied n (s (suc t)) (in_step n m vs t) ls) → Supported Π X
  supplied-supported supplied c x = at_place (place n m T c (rw size at (set_of-below vs c x)))
    where
      Supports : Rule → Type 0
      Supports r = body_in X r ≡ true → (d : ℕ) → r.head ≡ lit d → Support Π X d

      supports : EachRule Supports n m T ls
      supports = (each-rule Supports n m T ls).0 (rules-support Π X)

      open-supported : (B : ℕ) → B < length vs → c / 2 ≡ B → AtChoice Supports B → Support Π X c
      open-supported B b half h = ⊎_elim
          (λ (e : c ≡ 2 * (c / 2)).
          let even : c ≡ 2 * B = omega arith in h.1 ((choice-applies B b).1.1 (rw even at x)) c (ap lit (sym even)))
          (λ (e : c ≡ 2 * (c / 2) + 1).
          let odd : c ≡ 2 * B + 1 = omega arith in h.0 ((choice-applies B b).0.1 (rw odd at x)) c (ap lit (sym odd)))
          (even-or-odd c)

      later-supported : (t d : ℕ) → t < T → d < 2 * n → c ≡ at_time N (suc t) d → Support Π X c
      later-supported t d b low e =
          let holds-there : satisfies (s (suc t)) d ≡ true = sym (fluent-in n m T vs size one (suc t) d b low) ∙ (rw e at x) in
          let same : d ≡ literal_in (s (suc t)) (d / 2) = satisfied-literal (s (suc t)) d holds-there in
          cause-heads (in_step n m vs t) (literal_in (s (suc t)) (d / 2)) (λ h. head_at N (suc t) h ≡ lit c → Support Π X c) ls
          (supplied t b (d / 2) (omega arith))
          (each-map₂ (λ l f k a h. k (step-applies t b l f ∙ a) c (step-head N t l.kind l ∙ h)) ls fit (supports.1 t b))
          (ap (λ i. lit (at_time N (suc t) i)) (sym same) ∙ ap lit (sym e))

      at_place : Place n m T c → Support Π X c
      at_place (start low) = open-supported (c / 2) (fluent-open (c / 2) (omega arith)) refl (supports.2 (c / 2) (omega arith))
      at_place (later t d b low e) = later-supported t d b low e
      at_place (action t k b low e) = open-supported (action_atom n m t k) (action-open t k b low) e (supports.3 t b k low)

  consistent : Consistent X
  consistent a t f = not-both f (odd-in a (omega (arith, set_of-below vs (2 * a) t)) ∙ ap not t)

  pub answer-set-iff-path : AnswerSet (translation n m T ls) (set_of vs) ↔ Path n m T ls vs
  answer-set-iff-path =
      Iff.trans (proposition-4 (λ c. c) Π (translation-tight n m T ls laws-fit) X)
      (Iff.trans (
        λ h. let laws = closed-iff.0 h.1 in (laws.0, λ t b. (laws.1 t b, supported-supplied h.2 t b)),
        λ h. (consistent, closed-iff.1 (h.0, λ t b. (h.1 t b).0), supplied-supported (λ t b. (h.1 t b).1)),
      ) (Iff.symm (path-iff n m T ls vs)))
