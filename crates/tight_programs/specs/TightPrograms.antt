-- Supported sets and tight programs (000, sections 6 and 7), over rules and the reduct.
-- Assumes nothing.
use Rattle.std.specs.Prelude.{◌≡◌, ◌↔◌, true, ℕ, ◌<◌}
use mathlib.Core.List.{List, Memᴰ}
use Rattle.basics.specs.Search.{Each}
use Rattle.logic_programs.specs.Literals.{Lits}
use Rattle.logic_programs.specs.Rules.{Head, lit, falsum, Rule}
use Rattle.logic_programs.specs.AnswerSets.{PositiveRule, reduct, Within, Closed, Consistent, AnswerSet}

-- a rule of the reduct by X has head c and its body in X
abbrev pub Support : List Rule → Lits → ℕ → Type 0
Support Π X c = (r : PositiveRule) × Memᴰ r (reduct Π X) × (r.head ≡ lit c) × Within r.body X

-- each literal of X has support
abbrev pub Supported : List Rule → Lits → Type 0
Supported Π X = (c : ℕ) → X c ≡ true → Support Π X c

-- each plain part of a rule with a literal head has a lower level than the head
abbrev pub LowerParts : (ℕ → ℕ) → List ℕ → Head → Type 0
LowerParts level cs (lit h) = Each (λ c. level c < level h) cs
LowerParts level cs falsum = Unit

abbrev pub Tight : (ℕ → ℕ) → List Rule → Type 0
Tight level Π = Each (λ r. LowerParts level r.plain r.head) Π

-- 000, Proposition 4: the answer sets of a tight program are its consistent, closed and supported sets
abbrev pub Proposition4 : Type 0
Proposition4 =
    (level : ℕ → ℕ) (Π : List Rule) → Tight level Π → (X : Lits)
    → AnswerSet Π X ↔ (Consistent X × Closed (reduct Π X) X × Supported Π X)
