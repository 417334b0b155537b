-- What is found of values and a program by the completion formulas (000, section 6), as it is computed; a theorem joins it with the
-- formulas.
-- Assumes nothing.
use Rattle.std.specs.Prelude.{Bool, true, false, cond, not, ◌&&◌, ◌||◌, List, [], ◌∷◌, ℕ, ◌*◌, eqb, length}
use Rattle.basics.specs.Search.{all, first, range}
use Rattle.basics.specs.Replies.{or_else}
use Rattle.logic_programs.specs.Literals.{Lits, complement, set_of}
use Rattle.logic_programs.specs.ValueFaults.{value_fault, or_fault}
use Rattle.logic_programs.specs.Rules.{Head, lit, falsum, Rule}
use Rattle.logic_programs.specs.Words.{rules_of}

pub data FormulaFinding : Type 0 where
  missing : ℕ → FormulaFinding
  clash : ℕ → FormulaFinding
  fails : Head → FormulaFinding
  holds : FormulaFinding

-- the complement of each negated part is in X, and each plain part
abbrev pub body_holds : Lits → Rule → Bool
body_holds X r = all (λ c. X (complement c)) r.negated && all X r.plain

abbrev pub same_head : Head → Head → Bool
same_head (lit c) (lit d) = eqb c d
same_head (lit c) falsum = false
same_head falsum (lit d) = false
same_head falsum falsum = true

-- some rule with head H has a body that holds
abbrev pub some_body : List Rule → Lits → Head → Bool
some_body [] X H = false
some_body (r ∷ rs) X H = let body = body_holds X r in (same_head r.head H && body) || some_body rs X H

abbrev pub differ : Bool → Bool → Bool
differ true b = not b
differ false b = b

-- the formula of a literal fails: it is in X and no body for it holds, or the other way round
abbrev pub literal_fails : List Rule → Lits → ℕ → Bool
literal_fails Π X c = differ (X c) (some_body Π X (lit c))

-- the lowest literal of n atoms whose formula fails, else false if its formula does
unfoldable pub judged_by_formulas : ℕ → List Rule → Lits → FormulaFinding
judged_by_formulas n Π X =
    or_else (first (literal_fails Π X) 0 (range 0 (2 * n))) (λ c. fails (lit c)) (cond (some_body Π X falsum) (fails falsum) holds)

-- the lowest atom without one value decides; else the formulas
unfoldable pub formula_finding : List ℕ → List ℕ → FormulaFinding
formula_finding vs ws = or_fault (value_fault vs) missing clash (judged_by_formulas (length vs) (rules_of ws) (set_of vs))
