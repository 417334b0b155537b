-- Atoms, literals and sets of literals. Literal code 2a is atom a, code 2a + 1 its classical negation.
-- Assumes nothing.
use Rattle.std.specs.Prelude.{◌≡◌, ◌⊎◌, Bool, cond, ◌||◌, List, ℕ, ◌+◌, ◌-◌, ◌/◌, ◌%◌, eqb, ltb, get_or}
use Rattle.std.proofs.Math.Option.{Option}
use Rattle.basics.specs.Search.{first}

-- any set of literals, as a test on codes: c is in Y where Y c is true
abbrev pub Lits : Type 0
Lits = ℕ → Bool

-- the literal complementary to c
unfoldable pub complement : ℕ → ℕ
complement c = cond (eqb (c % 2) 0) (c + 1) (c - 1)

-- an atom's value byte: 0 none, 1 true, 2 false, 3 both
unfoldable pub holds_true : ℕ → Bool
holds_true v = eqb v 1 || eqb v 3

unfoldable pub holds_false : ℕ → Bool
holds_false v = eqb v 2 || eqb v 3

-- the set of literals that a list of value bytes stands for, one byte an atom
unfoldable pub set_of : List ℕ → Lits
set_of vs c = cond (eqb (c % 2) 0) (holds_true (get_or vs (c / 2) 0)) (holds_false (get_or vs (c / 2) 0))

-- one value: a byte is 1 or 2
abbrev pub OneValue : ℕ → Type 0
OneValue v = (v ≡ 1) ⊎ (v ≡ 2)

-- no value, or both
abbrev pub none_or_both : ℕ → Bool
none_or_both v = eqb v 0 || eqb v 3

-- atom a has no value, or both
abbrev pub NoValue : List ℕ → ℕ → Type 0
NoValue vs a = get_or vs a 0 ≡ 0

abbrev pub BothValues : List ℕ → ℕ → Type 0
BothValues vs a = get_or vs a 0 ≡ 3

abbrev pub NoneOrBoth : List ℕ → ℕ → Type 0
NoneOrBoth vs a = NoValue vs a ⊎ BothValues vs a

-- refusal 11: a byte over 3
abbrev pub bad_value : List ℕ → Option ℕ
bad_value vs = first (ltb 3) 0 vs
