-- Answer sets by the reduct (000, section 3).
-- Assumes nothing.
use Rattle.std.specs.Prelude.{◌≡◌, Bool, true, false, cond, ◌||◌, List, [], ◌∷◌, ℕ, ◌+◌, ◌*◌}
use Rattle.basics.specs.Search.{Each}
use Rattle.logic_programs.specs.Literals.{Lits}
use Rattle.logic_programs.specs.Rules.{Head, lit, falsum, Rule}

-- a rule without negation as failure
pub record PositiveRule : Type 0 where
  pub head : Head
  pub body : List ℕ

-- some element is in X
abbrev pub meets : List ℕ → Lits → Bool
meets [] X = false
meets (c ∷ cs) X = X c || meets cs X

-- the reduct by X drops each rule with a negated part in X, and strips the others of their negated parts
abbrev pub reduct : List Rule → Lits → List PositiveRule
reduct [] X = []
reduct (r ∷ rs) X =
    cond (meets r.negated X) (reduct rs X) (record { head = r.head; body = r.plain } ∷ reduct rs X)

abbrev pub Within : List ℕ → Lits → Type 0
Within cs Y = Each (λ c. Y c ≡ true) cs

-- ⊥ is in no set
abbrev pub HeadIn : Head → Lits → Type 0
HeadIn (lit c) Y = Y c ≡ true
HeadIn falsum Y = ⊥

-- the head of each rule is in Y whenever its body is contained in Y
abbrev pub Closed : List PositiveRule → Lits → Type 0
Closed P Y = Each (λ r. Within r.body Y → HeadIn r.head Y) P

abbrev pub Subset : Lits → Lits → Type 0
Subset Y X = (c : ℕ) → Y c ≡ true → X c ≡ true

-- a proper subset of X lacks some literal of X
abbrev pub ProperSubset : Lits → Lits → Type 0
ProperSubset Y X = Subset Y X × ((c : ℕ) × (X c ≡ true) × (Y c ≡ false))

-- no atom has both values
abbrev pub Consistent : Lits → Type 0
Consistent X = (a : ℕ) → X (2 * a) ≡ true → X (2 * a + 1) ≡ true → ⊥

-- X is an answer set of Π: no atom has both values, X is closed under the reduct by X, and no proper subset of X is
pub record AnswerSet (Π : List Rule) (X : Lits) : Type 0 where
  pub consistent : Consistent X
  pub closed : Closed (reduct Π X) X
  pub minimal : (Y : Lits) → ProperSubset Y X → Closed (reduct Π X) Y → ⊥

abbrev pub is_literal : Head → Bool
is_literal (lit c) = true
is_literal falsum = false

-- the rules with literal heads
abbrev pub literal_headed : List PositiveRule → List PositiveRule
literal_headed [] = []
literal_headed (r ∷ rs) = cond (is_literal r.head) (r ∷ literal_headed rs) (literal_headed rs)

-- the least set closed under rules with literal heads
pub record IsLeastClosed (P : List PositiveRule) (L : Lits) : Type 0 where
  pub closed : Closed P L
  pub least : (Y : Lits) → Closed P Y → Subset L Y
