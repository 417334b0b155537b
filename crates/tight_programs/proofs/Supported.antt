-- The answer sets of a tight program are its consistent, closed and supported sets (000, section 7.4, Proposition 4). All is said
-- of rules and the reduct; how an engine finds answer sets plays no part.
-- Assumes nothing.
use mathlib.Core.Path.{◌≡◌, refl, ap}
use mathlib.Core.Logic.Iff
use mathlib.Core.Logic.{◌↔◌, ◌⊎◌, inl, inr, ⊎_elim}
use mathlib.Core.Bool.{Bool, true, false, not, ◌&&◌}
use mathlib.Core.List.{List, [], ◌∷◌, Memᴰ}
use Prim.Native.Nat.{ℕ, zero, suc, ◌<◌}
use native.Mathlib.Omega.{arith}
use lib.Dec.{eqb}
use borrow.Author.Tests.{eqb-true, eq-eqb}
use Rattle.basics.specs.Search.{Each, all}
use Rattle.basics.proofs.Tests.{true-or-false, not-both, false_of_not, and-iff, not_iff, each_map, each-map₂}
use Rattle.basics.proofs.Lists.{each-iff, each_member, member-each}
use Rattle.logic_programs.specs.Literals.{Lits}
use Rattle.logic_programs.specs.Rules.{Head, lit, falsum, Rule}
use Rattle.logic_programs.specs.AnswerSets.{PositiveRule, meets, reduct, Within, HeadIn, Closed, Subset, AnswerSet}
use Rattle.answer_set_theory.proofs.Sets.{all-within, within-subset}
use Rattle.tight_programs.specs.TightPrograms.{Support, Supported, LowerParts, Tight, Proposition4}

-- The reduct, rule by rule

-- a fact of each rule of the reduct is one of each rule that the reduct keeps
reduct-each : (Q : Head → List ℕ → Type 0) (Π : List Rule) (X : Lits)
    → Each (λ r. Q r.head r.body) (reduct Π X) ↔ Each (λ r. meets r.negated X ≡ false → Q r.head r.plain) Π
reduct-each Q [] X = (λ h. h, λ h. h)
reduct-each Q (r ∷ rs) X = go (meets r.negated X) refl (reduct-each Q rs X)
  where
    go : (b : Bool) → meets r.negated X ≡ b
        → (Each (λ r. Q r.head r.body) (reduct rs X) ↔ Each (λ r. meets r.negated X ≡ false → Q r.head r.plain) rs)
        → Each (λ r. Q r.head r.body) (reduct (r ∷ rs) X) ↔ Each (λ r. meets r.negated X ≡ false → Q r.head r.plain) (r ∷ rs)
    go true t rest = rw t (λ h. (λ f. absurd (not-both refl f), rest.0 h), λ h. rest.1 h.1)
    go false f rest = rw f (λ h. (λ e. h.0, rest.0 h.1), λ h. (h.0 refl, rest.1 h.1))

-- no negated part of a rule is in X and each plain part is
abbrev pub body_in : Lits → Rule → Bool
body_in X r = not (meets r.negated X) && all X r.plain

body-iff : (X : Lits) (r : Rule) → body_in X r ≡ true ↔ ((meets r.negated X ≡ false) × Within r.plain X)
body-iff X r = Iff.trans (and-iff (not (meets r.negated X)) (all X r.plain)) (
  λ h. ((not_iff _).0 h.0, (all-within X r.plain).0 h.1),
  λ h. ((not_iff _).1 h.0, (all-within X r.plain).1 h.1),
)

-- what is so of each rule of the reduct with its body in X is so of each rule with its body in X
body-each : (Q : Head → Type 0) (Π : List Rule) (X : Lits)
    → Each (λ r. Within r.body X → Q r.head) (reduct Π X) ↔ Each (λ r. body_in X r ≡ true → Q r.head) Π
body-each Q Π X =
    Iff.trans (reduct-each (λ h cs. Within cs X → Q h) Π X)
    (each-iff (λ r. (λ h e. let (kept, body) = (body-iff X r).0 e in h kept body, λ h kept body. h ((body-iff X r).1 (kept, body)))) Π)

pub closed-rules : (Π : List Rule) (X : Lits) → Closed (reduct Π X) X ↔ Each (λ r. body_in X r ≡ true → HeadIn r.head X) Π
closed-rules Π X = body-each (λ h. HeadIn h X) Π X

-- each rule with its body in X supports its head
pub rules-support : (Π : List Rule) (X : Lits) → Each (λ r. body_in X r ≡ true → (c : ℕ) → r.head ≡ lit c → Support Π X c) Π
rules-support Π X =
    (body-each (λ h. (c : ℕ) → h ≡ lit c → Support Π X c) Π X).0
    (each_map (λ r m body c e. (r, m, e, body)) (reduct Π X) (each_member (reduct Π X)))

-- what follows from each rule with head c and its body in X follows where c has support
pub support-cases : {G : Type 0} (Π : List Rule) (X : Lits) (c : ℕ) → Support Π X c
    → Each (λ r. body_in X r ≡ true → r.head ≡ lit c → G) Π → G
support-cases {G} Π X c (r, m, e, body) h =
    member-each (λ r. Within r.body X → r.head ≡ lit c → G) (reduct Π X) ((body-each (λ h. h ≡ lit c → G) Π X).1 h) m body e

-- Answer sets are supported: X without a literal that is not would be closed too

abbrev is_head : ℕ → Head → Bool
is_head c (lit h) = eqb h c
is_head c falsum = false

head-iff : (c : ℕ) (h : Head) → is_head c h ≡ true ↔ h ≡ lit c
head-iff c (lit h) = (λ e. ap lit (eqb-true h c e), λ e. let same : h ≡ c = cc in eq-eqb h c same)
head-iff c falsum = (λ e. absurd (not-both e refl), λ e. let z : ◌≡◌ {A = ℕ} 0 1 = cc in absurd (omega arith))

-- an element that passes a test, or none does
find : {A : Type 0} (p : A → Bool) (xs : List A) → ((x : A) × Memᴰ x xs × (p x ≡ true)) ⊎ Each (λ x. p x ≡ false) xs
find p [] = inr tt
find {A} p (x ∷ xs) = go (true-or-false (p x)) (find p xs)
  where
    go : (p x ≡ true) ⊎ (p x ≡ false) → ((y : A) × Memᴰ y xs × (p y ≡ true)) ⊎ Each (λ y. p y ≡ false) xs
        → ((y : A) × Memᴰ y (x ∷ xs) × (p y ≡ true)) ⊎ Each (λ y. p y ≡ false) (x ∷ xs)
    go (inl t) rest = inl (x, Memᴰ.head refl, t)
    go (inr f) (inl (y, m, t)) = inl (y, Memᴰ.tail m, t)
    go (inr f) (inr rest) = inr (f, rest)

abbrev supports : Lits → ℕ → PositiveRule → Bool
supports X c r = is_head c r.head && all X r.body

abbrev without : ℕ → Lits → Lits
without d X c = X c && not (eqb c d)

without-subset : (d : ℕ) (X : Lits) → Subset (without d X) X
without-subset d X c e = ((and-iff (X c) (not (eqb c d))).0 e).0

without-closed : (P : List PositiveRule) (X : Lits) (d : ℕ) → Each (λ r. supports X d r ≡ false) P → Closed P X → Closed P (without d X)
without-closed P X d unsupported closed =
    each-map₂ (λ r none-there kept body. let inX = within-subset (without-subset d X) r.body body in
    head r.head (kept inX)
    (λ e. not-both ((and-iff (is_head d r.head) (all X r.body)).1 (e, (all-within X r.body).1 inX)) none-there))
    P
    unsupported closed
  where
    head : (h : Head) → HeadIn h X → (is_head d h ≡ true → ⊥) → HeadIn h (without d X)
    head (lit c) x other = (and-iff (X c) (not (eqb c d))).1 (x, (not_iff (eqb c d)).1 (false_of_not (eqb c d) other))
    head falsum x other = x

answer-supported : (Π : List Rule) (X : Lits) → AnswerSet Π X → Supported Π X
answer-supported Π X h c x = ⊎_elim found none-there (find (supports X c) (reduct Π X))
  where
    found : ((r : PositiveRule) × Memᴰ r (reduct Π X) × (supports X c r ≡ true)) → Support Π X c
    found (r, m, e) = let (head, body) = (and-iff (is_head c r.head) (all X r.body)).0 e in
        (r, m, (head-iff c r.head).0 head, (all-within X r.body).0 body)

    removed : without c X c ≡ false
    removed = rw (eq-eqb c c refl, x)

    none-there : Each (λ r. supports X c r ≡ false) (reduct Π X) → Support Π X c
    none-there unsupported =
        absurd (h.minimal (without c X) (without-subset c X, (c, x, removed)) (without-closed (reduct Π X) X c unsupported h.closed))

-- Closed and supported sets of tight programs are minimal: level by level, they are within each closed subset

module _ (level : ℕ → ℕ) (Π : List Rule) (tight : Tight level Π) (X Y : Lits)
    (supported : Supported Π X) (closed : Closed (reduct Π X) Y) where
  lower : Each (λ r. LowerParts level r.body r.head) (reduct Π X)
  lower = (reduct-each (λ h cs. LowerParts level cs h) Π X).1 (each_map (λ r low kept. low) Π tight)

  -- the literals below level k
  within-below : (k c : ℕ) → level c < k → X c ≡ true → Y c ≡ true
  within-below zero c b x = absurd (omega arith)
  within-below (suc k) c b x =
      let (r, m, head, body) = supported c x in
      let parts = rw head at (member-each (λ r. LowerParts level r.body r.head) (reduct Π X) lower m) in
      rw head at (member-each (λ r. Within r.body Y → HeadIn r.head Y) (reduct Π X) closed m
      (each-map₂ (λ d low x. within-below k d (omega arith) x) r.body parts body))

  supported-within : Subset X Y
  supported-within c x = within-below (suc (level c)) c (omega arith) x

pub proposition-4 : Proposition4
proposition-4 level Π tight X = (
  λ h. (h.consistent, h.closed, answer-supported Π X h),
  λ h. record {
    consistent = h.0;
    closed = h.1;
    minimal = λ Y (sub, (c, x, y)) closed. not-both (supported-within level Π tight X Y h.2 closed c x) y;
  },
)
