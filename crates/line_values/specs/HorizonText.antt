-- The horizon's spelling (01, "Text" and refusal 3).
-- Assumes nothing.
use Rattle.std.specs.Prelude.{not, cond, ◌&&◌, List, [], ◌∷◌, ℕ, ◌+◌, ◌-◌, ◌*◌, eqb, leb}
use Rattle.std.proofs.Math.Option.{Option, none, some}
use Rattle.spelling.specs.Letters.{is_digit}

abbrev pub in_horizon : ℕ → Option ℕ
in_horizon T = cond (leb 1 T && leb T 30) (some T) none

-- two digits, of which the first is no zero
abbrev pub two_digits : ℕ → ℕ → Option ℕ
two_digits a b = cond (is_digit a && is_digit b && not (eqb a 48)) (in_horizon (10 * (a - 48) + (b - 48))) none

-- 1 to 30 without a leading zero
unfoldable pub horizon_of : List ℕ → Option ℕ
horizon_of [] = none
horizon_of (a ∷ []) = cond (is_digit a) (in_horizon (a - 48)) none
horizon_of (a ∷ b ∷ []) = two_digits a b
horizon_of (a ∷ b ∷ c ∷ bs) = none
