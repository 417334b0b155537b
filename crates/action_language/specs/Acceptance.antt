-- Which descriptions are accepted: refusals 8 and 3 with their places.
-- Assumes nothing.
use Rattle.std.specs.Prelude.{Bool, true, not, cond, ◌&&◌, List, ℕ, ◌+◌, ◌*◌, ltb, leb}
use Rattle.std.proofs.Math.Option.{Option, none, some}
use Rattle.basics.specs.Search.{all, first}
use Rattle.action_language.specs.declared.Head.{Head}
use Rattle.action_language.specs.declared.Head.TheVariants.{Lit, False}
use Rattle.action_language.specs.declared.Kind.{Kind}
use Rattle.action_language.specs.declared.Kind.TheVariants.{Static, Dynamic}
use Rattle.action_language.specs.declared.Law.{Law}
use Rattle.action_language.specs.declared.Description.{Description}
use Rattle.action_language.specs.Laws.{if_list, after_list, laws_of}

-- 1 to 24 fluents, 0 to 8 actions, at most 64 laws and no more than are lent
abbrev pub counts_fit : Description → ℕ → Bool
counts_fit d lent = leb 1 d.fluents && leb d.fluents 24 && leb d.actions 8 && leb d.laws 64 && leb d.laws lent

abbrev pub codes_below : ℕ → List ℕ → Bool
codes_below k cs = all (λ c. ltb c k) cs

abbrev pub head_fits : ℕ → Head → Bool
head_fits n (Lit c) = ltb c (2 * n)
head_fits n False = true

-- a static law's after-list and its count are not read
abbrev pub after_fits : ℕ → ℕ → Kind → Law → Bool
after_fits n m Static l = true
after_fits n m Dynamic l = leb l.after_count 6 && codes_below (2 * (n + m)) (after_list l)

abbrev pub law_fits : ℕ → ℕ → Law → Bool
law_fits n m l = head_fits n l.head && leb l.if_count 6 && codes_below (2 * n) (if_list l) && after_fits n m l.kind l

-- the lowest law outside the limits, counted from k
abbrev pub bad_law : ℕ → ℕ → ℕ → List Law → Option ℕ
bad_law n m k ls = first (λ l. not (law_fits n m l)) k ls

-- refusal 8: place 64 for the counts, else the lowest law
unfoldable pub bad_record : Description → List Law → ℕ → Option ℕ
bad_record d ls lent =
    cond (counts_fit d lent) (bad_law d.fluents d.actions 0 (laws_of d ls)) (some 64)

-- refusal 3, from a record: place 0
unfoldable pub bad_horizon : ℕ → Option ℕ
bad_horizon T = cond (leb 1 T && leb T 30) none (some 0)
