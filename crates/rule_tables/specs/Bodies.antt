-- Bodies and heads of rules looked up in sets of literals: what the functions on a rule table tell.
-- Assumes nothing.
use Rattle.std.specs.Prelude.{Bool, false, cond, not, ◌&&◌, List, [], ℕ, leb, length}
use Rattle.basics.specs.Search.{all}
use Rattle.logic_programs.specs.Literals.{Lits}
use Rattle.logic_programs.specs.Rules.{Head, lit, falsum, Rule}
use Rattle.logic_programs.specs.Words.{rule_size, rule_at}

-- no negated part is in X and every plain part is in Y
abbrev pub applies : Lits → Lits → Rule → Bool
applies X Y r = all (λ c. not (X c)) r.negated && all Y r.plain

-- ⊥ is in no set
abbrev pub head_in : Head → Lits → Bool
head_in (lit h) X = X h
head_in falsum X = false

-- the negated and the plain parts of the rule at the front of a list of words; none where it runs past the end
unfoldable pub front_negated : List ℕ → List ℕ
front_negated ws = cond (leb (rule_size ws) (length ws)) (rule_at ws).negated []

unfoldable pub front_plain : List ℕ → List ℕ
front_plain ws = cond (leb (rule_size ws) (length ws)) (rule_at ws).plain []

-- the rule at the front does not run past the end, and applies
unfoldable pub front_applies : Lits → Lits → List ℕ → Bool
front_applies X Y ws = leb (rule_size ws) (length ws) && applies X Y (rule_at ws)
