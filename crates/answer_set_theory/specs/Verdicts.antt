-- The verdict on a set of literals X over n atoms and a program Π, as it is computed: the first of clash, broken and
-- unfounded that holds, or passes. Written without the reduct; a theorem joins it with AnswerSet.
-- Assumes nothing.
use Rattle.std.specs.Prelude.{Bool, false, not, ◌&&◌, ◌||◌, List, [], ◌∷◌, ℕ, zero, suc, ◌+◌, ◌*◌, eqb}
use Rattle.basics.specs.Search.{first, range}
use Rattle.basics.specs.Replies.{or_else}
use Rattle.logic_programs.specs.Literals.{Lits}
use Rattle.logic_programs.specs.Rules.{Head, lit, falsum, Rule}
use Rattle.rule_tables.specs.Bodies.{applies, head_in}

pub data Verdict : Type 0 where
  clash : ℕ → Verdict
  broken : ℕ → Verdict
  unfounded : ℕ → Verdict
  passes : Verdict

abbrev pub head_is : Head → ℕ → Bool
head_is (lit h) c = eqb h c
head_is falsum c = false

-- the literal heads whose bodies hold in the round before; negated parts are always looked up in X
abbrev pub round : List Rule → Lits → Lits → Lits
round [] X Y c = false
round (r ∷ rs) X Y c = let body = applies X Y r in (head_is r.head c && body) || round rs X Y c

-- round 0 has no literals
abbrev pub rounds : ℕ → List Rule → Lits → Lits
rounds zero Π X = λ c. false
rounds (suc k) Π X = round Π X (rounds k Π X)

abbrev pub both_values : Lits → ℕ → Bool
both_values X a = X (2 * a) && X (2 * a + 1)

abbrev pub is_broken : Lits → Rule → Bool
is_broken X r = applies X X r && not (head_in r.head X)

abbrev pub is_unfounded : Lits → Lits → ℕ → Bool
is_unfounded X L c = X c && not (L c)

unfoldable pub verdict : ℕ → List Rule → Lits → Verdict
verdict n Π X =
    or_else (first (both_values X) 0 (range 0 n)) clash
    (or_else (first (is_broken X) 0 Π) broken
    (or_else (first (is_unfounded X (rounds (2 * n) Π X)) 0 (range 0 (2 * n))) unfounded passes))
