-- Refusals 10, 11 and 12 of values and a table: what every function on both tests first.
-- Assumes nothing.
use Rattle.std.specs.Prelude.{◌≡◌, cond, List, ℕ, ltb, length}
use Rattle.std.proofs.Math.Option.{Option, none, some}
use Rattle.basics.specs.Replies.{Reply, answered, or_refuse}
use Rattle.logic_programs.specs.Literals.{bad_value}
use Rattle.logic_programs.specs.Words.{bad_rule}

-- refusal 10: over 1,024 values
abbrev pub too_many_values : List ℕ → Option ℕ
too_many_values vs = cond (ltb 1024 (length vs)) (some (length vs)) none

-- the first of refusals 10, 11 and 12 that holds, else what comes next
abbrev pub after_tests : {A : Type 0} → List ℕ → List ℕ → Reply A → Reply A
after_tests vs ws next =
    or_refuse (too_many_values vs) 10
    (or_refuse (bad_value vs) 11
    (or_refuse (bad_rule (length vs) ws) 12
    next))

-- the three by themselves
unfoldable pub tested : List ℕ → List ℕ → Reply Unit
tested vs ws = after_tests vs ws (answered tt)

-- none of the three refuses
abbrev pub Accepted : List ℕ → List ℕ → Type 0
Accepted vs ws = (too_many_values vs ≡ none) × (bad_value vs ≡ none) × (bad_rule (length vs) ws ≡ none)
