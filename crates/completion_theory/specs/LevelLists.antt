-- Levels, one for each literal code, and refusal 13.
-- Assumes nothing.
use Rattle.std.specs.Prelude.{Bool, true, cond, not, List, ℕ, ◌*◌, eqb, ltb, length, get_or}
use Rattle.std.proofs.Math.Option.{Option, none, some}
use Rattle.basics.specs.Search.{all, first}
use Rattle.basics.specs.Replies.{or_else}
use Rattle.logic_programs.specs.Rules.{Head, lit, falsum, Rule}
use Rattle.logic_programs.specs.Words.{rules_of}

-- the level mapping that a list of levels stands for
abbrev pub level_of : List ℕ → ℕ → ℕ
level_of levels c = get_or levels c 0

abbrev pub is_below : List ℕ → ℕ → ℕ → Bool
is_below levels top c = ltb (level_of levels c) top

-- a literal head stands above each of the plain parts; of false nothing is asked
abbrev pub head_above : List ℕ → Head → List ℕ → Bool
head_above levels (lit h) cs = all (is_below levels (level_of levels h)) cs
head_above levels falsum cs = true

abbrev pub stands_above : List ℕ → Rule → Bool
stands_above levels r = head_above levels r.head r.plain

-- not two levels for each of n atoms: the place is 65535
abbrev pub wrong_count : ℕ → List ℕ → Option ℕ
wrong_count n levels = cond (eqb (length levels) (2 * n)) none (some 65535)

-- the count is tested first; then the lowest rule, counted from 0, whose head does not stand above its plain parts
unfoldable pub bad_levels : ℕ → List ℕ → List ℕ → Option ℕ
bad_levels n ws levels = or_else (wrong_count n levels) some (first (λ r. not (stands_above levels r)) 0 (rules_of ws))
