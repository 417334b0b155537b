-- The rounds of a program reach the least set closed under the literal-headed rules of its reduct.
-- Assumes nothing.
use mathlib.Core.Path.{◌≡◌, refl, sym, ap, ◌∙◌, fun_ext}
use mathlib.Core.Logic.Iff
use mathlib.Core.Logic.{◌↔◌, ◌⊎◌, inl, inr, ⊎_elim}
use mathlib.Core.Bool.{Bool, true, false, not, cond}
use mathlib.Core.List.{List, [], ◌∷◌}
use Prim.Native.Nat.{ℕ, zero, suc, ◌+◌, ◌*◌, ◌≤◌, ◌<◌}
use native.Mathlib.Omega.{arith}
use native.Mathlib.Nat.{add-zero, add-suc}
use lib.Dec.{ltb}
use borrow.Author.Tests.{ltb-true, ltb-false, lt-ltb, eqb-true, eq-eqb}
use Rattle.basics.specs.Search.{Each, all}
use Rattle.logic_programs.specs.Literals.{Lits}
use Rattle.logic_programs.specs.Rules.{Head, lit, falsum, Rule}
use Rattle.logic_programs.specs.AnswerSets.{PositiveRule, meets, reduct, Within, HeadIn, Closed, Subset, literal_headed, IsLeastClosed}
use Rattle.rule_tables.specs.Bodies.{applies}
use Rattle.answer_set_theory.specs.Verdicts.{head_is, round, rounds}
use Rattle.basics.proofs.Tests.{true-or-false, not-both, false_of_not, true_of_not, and-iff, and-or-iff, not_iff, each_map}
use Rattle.answer_set_theory.proofs.Sets.{all-within, all-not-meets, within-subset}

-- every literal head is below N
abbrev pub HeadBelow : ℕ → Head → Type 0
HeadBelow N (lit c) = c < N
HeadBelow N falsum = Unit

abbrev pub HeadsBelow : ℕ → List Rule → Type 0
HeadsBelow N Π = Each (λ r. HeadBelow N r.head) Π

-- every literal of X is below N
abbrev pub Below : ℕ → Lits → Type 0
Below N X = (c : ℕ) → X c ≡ true → c < N

-- Closed sets, rule by rule

pub applies-iff : (X Y : Lits) (r : Rule) → applies X Y r ≡ true ↔ ((meets r.negated X ≡ false) × Within r.plain Y)
applies-iff X Y r = (
  λ e. let h = both.0 e in ((not_iff _).0 (sym (all-not-meets X r.negated) ∙ h.0), (all-within Y r.plain).0 h.1),
  λ h. both.1 (all-not-meets X r.negated ∙ (not_iff _).1 h.0, (all-within Y r.plain).1 h.1),
)
  where
    both : applies X Y r ≡ true ↔ ((all (λ c. not (X c)) r.negated ≡ true) × (all Y r.plain ≡ true))
    both = and-iff (all (λ c. not (X c)) r.negated) (all Y r.plain)

-- a literal head is in Y
abbrev pub LiteralIn : Head → Lits → Type 0
LiteralIn (lit c) Y = Y c ≡ true
LiteralIn falsum Y = Unit

-- whenever a rule applies, its head is in Z; and the same of rules without negation
abbrev pub Kept : (Head → Lits → Type 0) → Lits → Lits → Lits → List Rule → Type 0
Kept In X Y Z Π = Each (λ r. applies X Y r ≡ true → In r.head Z) Π

abbrev Keeps : (Head → Lits → Type 0) → Lits → List PositiveRule → Type 0
Keeps In Y P = Each (λ r. Within r.body Y → In r.head Y) P

keeps-kept : (In : Head → Lits → Type 0) (Π : List Rule) (X Y : Lits) → Keeps In Y (reduct Π X) ↔ Kept In X Y Y Π
keeps-kept In [] X Y = (λ h. tt, λ h. tt)
keeps-kept In (r ∷ rs) X Y = go (meets r.negated X) refl (keeps-kept In rs X Y)
  where
    go : (b : Bool) → meets r.negated X ≡ b → (Keeps In Y (reduct rs X) ↔ Kept In X Y Y rs)
        → Keeps In Y (reduct (r ∷ rs) X) ↔ Kept In X Y Y (r ∷ rs)
    go true t rest = rw t (λ h. (λ e. absurd (not-both t ((applies-iff X Y r).0 e).0), rest.0 h), λ h. rest.1 h.1)
    go false f rest =
        rw f (
          λ h. (λ e. h.0 ((applies-iff X Y r).0 e).1, rest.0 h.1),
          λ h. (λ w. h.0 ((applies-iff X Y r).1 (f, w)), rest.1 h.1),
        )

closed-keeps : (P : List PositiveRule) (Y : Lits) → Closed P Y ↔ Keeps HeadIn Y P
closed-keeps [] Y = (λ h. h, λ h. h)
closed-keeps (r ∷ rs) Y = (λ h. (h.0, (closed-keeps rs Y).0 h.1), λ h. (h.0, (closed-keeps rs Y).1 h.1))

literal-keeps : (P : List PositiveRule) (Y : Lits) → Closed (literal_headed P) Y ↔ Keeps LiteralIn Y P
literal-keeps [] Y = (λ h. h, λ h. h)
literal-keeps (r ∷ rs) Y = go r.head refl (literal-keeps rs Y)
  where
    go : (h : Head) → r.head ≡ h → (Closed (literal_headed rs) Y ↔ Keeps LiteralIn Y rs)
        → Closed (literal_headed (r ∷ rs)) Y ↔ Keeps LiteralIn Y (r ∷ rs)
    go (lit c) e rest = rw e (λ h. (h.0, rest.0 h.1), λ h. (h.0, rest.1 h.1))
    go falsum e rest = rw e (λ h. (λ w. tt, rest.0 h), λ h. rest.1 h.1)

pub reduct-closed : (Π : List Rule) (X Y : Lits) → Closed (reduct Π X) Y ↔ Kept HeadIn X Y Y Π
reduct-closed Π X Y = Iff.trans (closed-keeps (reduct Π X) Y) (keeps-kept HeadIn Π X Y)

pub literal-closed : (Π : List Rule) (X Y : Lits) → Closed (literal_headed (reduct Π X)) Y ↔ Kept LiteralIn X Y Y Π
literal-closed Π X Y = Iff.trans (literal-keeps (reduct Π X) Y) (keeps-kept LiteralIn Π X Y)

pub closed-literal : (Π : List Rule) (X Y : Lits) → Closed (reduct Π X) Y → Closed (literal_headed (reduct Π X)) Y
closed-literal Π X Y h = (literal-closed Π X Y).1 (each_map (λ r k e. literal r.head (k e)) Π ((reduct-closed Π X Y).0 h))
  where
    literal : (h : Head) → HeadIn h Y → LiteralIn h Y
    literal (lit c) i = i
    literal falsum i = tt

-- A round, rule by rule

head-is : (h : Head) (c : ℕ) (Z : Lits) → head_is h c ≡ true → LiteralIn h Z → Z c ≡ true
head-is (lit b) c Z e l = rw (sym (eqb-true b c e)) l
head-is falsum c Z e l = absurd (not-both e refl)

is-head : (h : Head) (Z : Lits) → ((c : ℕ) → head_is h c ≡ true → Z c ≡ true) → LiteralIn h Z
is-head (lit b) Z f = f b (eq-eqb b b refl)
is-head falsum Z f = tt

pub round-iff : (Π : List Rule) (X Y Z : Lits) → Subset (round Π X Y) Z ↔ Kept LiteralIn X Y Z Π
round-iff [] X Y Z = (λ h. tt, λ h c e. absurd (not-both e refl))
round-iff (r ∷ rs) X Y Z = (
  λ h. (λ e. is-head r.head Z (λ c i. h c ((here c).1 (inl (i, e)))), (round-iff rs X Y Z).0 (λ c e. h c ((here c).1 (inr e)))),
  λ h c e. ⊎_elim (λ i. head-is r.head c Z i.0 (h.0 i.1)) (λ l. (round-iff rs X Y Z).1 h.1 c l) ((here c).0 e),
)
  where
    here : (c : ℕ) → round (r ∷ rs) X Y c ≡ true ↔ (((head_is r.head c ≡ true) × (applies X Y r ≡ true)) ⊎ (round rs X Y c ≡ true))
    here c = and-or-iff (head_is r.head c) (applies X Y r) (round rs X Y c)

-- a larger round before makes a larger round
pub applies-subset : (X : Lits) {Y Z : Lits} → Subset Y Z → (r : Rule) → applies X Y r ≡ true → applies X Z r ≡ true
applies-subset X {Y} {Z} h r e = let (n, w) = (applies-iff X Y r).0 e in (applies-iff X Z r).1 (n, within-subset h r.plain w)

pub round-subset : (Π : List Rule) (X Y Z : Lits) → Subset Y Z → Subset (round Π X Y) (round Π X Z)
round-subset Π X Y Z h =
    (round-iff Π X Y (round Π X Z)).1
    (each_map (λ r k e. k (applies-subset X h r e)) Π ((round-iff Π X Z (round Π X Z)).0 (λ c e. e)))

-- closed sets are those that a round adds nothing to
pub closed-round : (Π : List Rule) (X Y : Lits) → Closed (literal_headed (reduct Π X)) Y ↔ Subset (round Π X Y) Y
closed-round Π X Y = Iff.trans (literal-closed Π X Y) (Iff.symm (round-iff Π X Y Y))

-- The rounds

pub rounds-grow : (k : ℕ) (Π : List Rule) (X : Lits) → Subset (rounds k Π X) (rounds (suc k) Π X)
rounds-grow zero Π X = λ c e. absurd (not-both e refl)
rounds-grow (suc k) Π X = round-subset Π X (rounds k Π X) (rounds (suc k) Π X) (rounds-grow k Π X)

pub rounds-within : (k : ℕ) (Π : List Rule) (X Y : Lits) → Closed (literal_headed (reduct Π X)) Y → Subset (rounds k Π X) Y
rounds-within zero Π X Y h c e = absurd (not-both e refl)
rounds-within (suc k) Π X Y h c e =
    (closed-round Π X Y).0 h c (round-subset Π X (rounds k Π X) Y (rounds-within k Π X Y h) c e)

pub rounds-stay : (Π : List Rule) (X : Lits) (k j : ℕ) → rounds (suc k) Π X ≡ rounds k Π X → rounds (k + j) Π X ≡ rounds k Π X
rounds-stay Π X k zero e = rw add-zero
rounds-stay Π X k (suc j) e = rw (add-suc k j, rounds-stay Π X k j e) e

-- Counting the codes below n

abbrev bit : Bool → ℕ
bit b = cond b 1 0

abbrev count : ℕ → Lits → ℕ
count zero Y = 0
count (suc n) Y = bit (Y n) + count n Y

bit-small : (b : Bool) → bit b ≤ 1
bit-small true = omega arith
bit-small false = omega arith

bit_le : (a b : Bool) → (a ≡ true → b ≡ true) → bit a ≤ bit b
bit_le true b h = rw (h refl) (omega arith)
bit_le false b h = omega arith

count_small : (n : ℕ) (Y : Lits) → count n Y ≤ n
count_small zero Y = omega arith
count_small (suc n) Y = omega (arith, bit-small (Y n), count_small n Y)

count-subset : (n : ℕ) (Y Z : Lits) → Subset Y Z → count n Y ≤ count n Z
count-subset zero Y Z h = omega arith
count-subset (suc n) Y Z h = omega (arith, bit_le (Y n) (Z n) (h n), count-subset n Y Z h)

count_same : (n : ℕ) (Y Z : Lits) → Subset Y Z → count n Z ≤ count n Y → (c : ℕ) → c < n → Z c ≡ true → Y c ≡ true
count_same zero Y Z h few c low e = absurd (omega arith)
count_same (suc n) Y Z h few c low e =
    ⊎_elim (λ b. count_same n Y Z h (omega (arith, one)) c (ltb-true c n b) e) top (true-or-false (ltb c n))
  where
    one : bit (Y n) ≤ bit (Z n)
    one = bit_le (Y n) (Z n) (h n)

    top : ltb c n ≡ false → Y c ≡ true
    top b = true_of_not (Y c) (λ f. let same : c ≡ n = omega (arith, ltb-false c n b) in
        let y : bit (Y n) ≡ 0 = rw (← same, f) in
        let z : bit (Z n) ≡ 1 = rw (← same, e) in
        omega (arith, count-subset n Y Z h))

same-sets : {Y Z : Lits} → Subset Y Z → Subset Z Y → Z ≡ Y
same-sets {Y} {Z} up down = fun_ext (λ c. same (Z c) (Y c) (down c) (up c))
  where
    same : (a b : Bool) → (a ≡ true → b ≡ true) → (b ≡ true → a ≡ true) → a ≡ b
    same true b h k = sym (h refl)
    same false b h k = sym (false_of_not b (λ t. not-both (k t) refl))

module _ (N : ℕ) (Π : List Rule) (X : Lits) (low : HeadsBelow N Π) where
  round-below : (Y : Lits) → Below N (round Π X Y)
  round-below Y c e = ltb-true c N ((round-iff Π X Y (λ b. ltb b N)).1 (each_map (λ r b i. literal r.head b) Π low) c e)
    where
      literal : (h : Head) → HeadBelow N h → LiteralIn h (λ b. ltb b N)
      literal (lit c) b = lt-ltb c N b
      literal falsum b = tt

  pub rounds-below : (k : ℕ) → Below N (rounds k Π X)
  rounds-below zero c e = absurd (not-both e refl)
  rounds-below (suc k) c e = round-below (rounds k Π X) c e

  abbrev Settled : ℕ → Type 0
  Settled k = rounds (suc k) Π X ≡ rounds k Π X

  more-or-settled : (k : ℕ) → k ≤ count N (rounds k Π X) → Settled k ⊎ (k < count N (rounds (suc k) Π X))
  more-or-settled k many =
      ⊎_elim (λ t. inr (ltb-true k after t))
      (λ f. inl (same-sets grow (λ c e. count_same N Y Z grow (omega (arith, ltb-false k after f)) c (round-below Y c e) e)))
      (true-or-false (ltb k after))
    where
      Y : Lits
      Y = rounds k Π X

      Z : Lits
      Z = rounds (suc k) Π X

      after : ℕ
      after = count N Z

      grow : Subset Y Z
      grow = rounds-grow k Π X

  -- a round adds nothing, or there is a literal for each round so far
  settled-or-more : (k : ℕ) → Settled k ⊎ (k < count N (rounds (suc k) Π X))
  settled-or-more zero = more-or-settled zero (omega arith)
  settled-or-more (suc k) = ⊎_elim (λ e. inl (ap (round Π X) e)) (λ more. more-or-settled (suc k) more) (settled-or-more k)

  pub rounds-settle : rounds (suc N) Π X ≡ rounds N Π X
  rounds-settle = ⊎_elim (λ e. e) (λ more. absurd (omega (arith, count_small N (rounds (suc N) Π X)))) (settled-or-more N)

pub least-closed : (n : ℕ) (Π : List Rule) (X : Lits) → HeadsBelow (2 * n) Π
    → IsLeastClosed (literal_headed (reduct Π X)) (rounds (2 * n) Π X)
least-closed n Π X low = record {
  closed = (closed-round Π X (rounds (2 * n) Π X)).1 (λ c e. rw (rounds-settle (2 * n) Π X low) at e);
  least = λ Y h. rounds-within (2 * n) Π X Y h;
}
