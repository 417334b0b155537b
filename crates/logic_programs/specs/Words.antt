-- A rule table: each rule is a run of words, its head code (65535 for false), the count of its negated parts, the count of
-- its plain parts, the negated parts, the plain parts.
-- Assumes nothing.
use Rattle.std.specs.Prelude.{Bool, cond, ◌&&◌, ◌||◌, List, [], ◌∷◌, ◌++◌, ℕ, zero, suc, ◌+◌, ◌*◌, eqb, ltb, leb}
use Rattle.std.specs.Prelude.{length, get_or, take, drop}
use Rattle.std.proofs.Math.Option.{Option, none, some}
use Rattle.basics.specs.Search.{all}
use Rattle.logic_programs.specs.Rules.{Head, lit, falsum, Rule}

abbrev pub head_word : Head → ℕ
head_word (lit c) = c
head_word falsum = 65535

abbrev pub rule_words : Rule → List ℕ
rule_words r = head_word r.head ∷ length r.negated ∷ length r.plain ∷ (r.negated ++ r.plain)

-- the words of a list of rules
abbrev pub words : List Rule → List ℕ
words [] = []
words (r ∷ rs) = rule_words r ++ words rs

-- and back: the rule at the front of a list of words, and how many words it takes
abbrev pub head_of : ℕ → Head
head_of w = cond (eqb w 65535) falsum (lit w)

abbrev pub rule_size : List ℕ → ℕ
rule_size ws = 3 + get_or ws 1 0 + get_or ws 2 0

abbrev pub rule_at : List ℕ → Rule
rule_at ws =
    record {
      head = head_of (get_or ws 0 0);
      negated = take (get_or ws 1 0) (drop 3 ws);
      plain = take (get_or ws 2 0) (drop (3 + get_or ws 1 0) ws);
    }

-- every rule takes a word at least, so as many steps as there are words are enough
abbrev pub rules_in : ℕ → List ℕ → List Rule
rules_in zero ws = []
rules_in (suc k) [] = []
rules_in (suc k) (w ∷ ws) = rule_at (w ∷ ws) ∷ rules_in k (drop (rule_size (w ∷ ws)) (w ∷ ws))

unfoldable pub rules_of : List ℕ → List Rule
rules_of ws = rules_in (length ws) ws

-- a head is false or below 2 × atoms, and so is each part
abbrev pub head_fits : ℕ → ℕ → Bool
head_fits n w = eqb w 65535 || ltb w (2 * n)

abbrev pub parts_fit : ℕ → List ℕ → Bool
parts_fit n cs = all (λ c. ltb c (2 * n)) cs

-- the rule at the front does not run past the end and has no code of 2 × atoms or more
abbrev pub rule_fits : ℕ → List ℕ → Bool
rule_fits n ws =
    leb (rule_size ws) (length ws)
    && head_fits n (get_or ws 0 0)
    && parts_fit n (take (get_or ws 1 0 + get_or ws 2 0) (drop 3 ws))

-- where the first rule starts that does not fit, or that would be the 4,097th; k rules stand before, at words before
abbrev pub bad_rule_in : ℕ → ℕ → ℕ → ℕ → List ℕ → Option ℕ
bad_rule_in zero n k at ws = none
bad_rule_in (suc f) n k at [] = none
bad_rule_in (suc f) n k at (w ∷ ws) =
    cond (ltb k 4096 && rule_fits n (w ∷ ws))
    (bad_rule_in f n (suc k) (at + rule_size (w ∷ ws)) (drop (rule_size (w ∷ ws)) (w ∷ ws)))
    (some at)

unfoldable pub bad_rule : ℕ → List ℕ → Option ℕ
bad_rule n ws = bad_rule_in (length ws) n 0 0 ws
