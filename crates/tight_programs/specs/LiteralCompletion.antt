-- Literal completion (000, section 6): for each literal, and for ⊥, a formula made from the bodies of its rules.
-- Assumes nothing.
use Rattle.std.specs.Prelude.{◌≡◌, ◌↔◌, ◌⊎◌, true, ℕ, ◌+◌, ◌*◌, ◌<◌}
use mathlib.Core.List.{List, Memᴰ}
use Rattle.basics.specs.Search.{Each}
use Rattle.logic_programs.specs.Literals.{Lits, complement}
use Rattle.logic_programs.specs.Rules.{Head, lit, falsum, Rule}
use Rattle.logic_programs.specs.AnswerSets.{Consistent, AnswerSet}
use Rattle.tight_programs.specs.TightPrograms.{Tight}

-- pf(Body): each plain part is in X, and the complement of each negated part
abbrev pub BodyHolds : Lits → Rule → Type 0
BodyHolds X r = Each (λ c. X c ≡ true) r.plain × Each (λ c. X (complement c) ≡ true) r.negated

-- one of Bodies(H) holds: the body of some rule with head H
abbrev pub SomeBody : List Rule → Lits → Head → Type 0
SomeBody Π X H = (r : Rule) × Memᴰ r Π × (r.head ≡ H) × BodyHolds X r

-- a literal holds where it is in X, ⊥ nowhere
abbrev pub Holds : Lits → Head → Type 0
Holds X (lit c) = X c ≡ true
Holds X falsum = ⊥

-- H ≡ the disjunction of pf(Body) for all of Bodies(H)
abbrev pub Formula : List Rule → Lits → Head → Type 0
Formula Π X H = Holds X H ↔ SomeBody Π X H

-- the formulas of all literals of n atoms, those in no rule too, and of ⊥
pub record Completion (n : ℕ) (Π : List Rule) (X : Lits) : Type 0 where
  pub of-literals : (c : ℕ) → c < 2 * n → Formula Π X (lit c)
  pub of-falsum : Formula Π X falsum

-- the program's literals are those of n atoms
abbrev pub HeadOver : ℕ → Head → Type 0
HeadOver n (lit c) = c < 2 * n
HeadOver n falsum = Unit

abbrev pub Over : ℕ → List Rule → Type 0
Over n Π = Each (λ r. HeadOver n r.head × Each (λ c. c < 2 * n) r.negated × Each (λ c. c < 2 * n) r.plain) Π

-- the set has one literal at least of each of n atoms, and no other
pub record CompleteSet (n : ℕ) (X : Lits) : Type 0 where
  pub over : (c : ℕ) → X c ≡ true → c < 2 * n
  pub complete : (a : ℕ) → a < n → (X (2 * a) ≡ true) ⊎ (X (2 * a + 1) ≡ true)

-- 000, Proposition 3: a complete set is an answer set of a tight program exactly if it is consistent, and so an interpretation,
-- and satisfies the program's literal completion
abbrev pub Proposition3 : Type 0
Proposition3 =
    (level : ℕ → ℕ) (n : ℕ) (Π : List Rule) → Tight level Π → Over n Π → (X : Lits) → CompleteSet n X
    → AnswerSet Π X ↔ (Consistent X × Completion n Π X)
