-- A value past the end.
-- Assumes nothing.
use mathlib.Core.Path.{◌≡◌, refl}
use mathlib.Core.Bool.{Bool, true, false, cond}
use mathlib.Core.List.{List}
use Prim.Native.Nat.{ℕ, ◌/◌, ◌%◌, ◌≤◌}
use lib.Dec.{eqb}
use lib.ListN.{length, get_or-eq_default}
use Rattle.logic_programs.specs.Literals.{set_of, holds_true, holds_false}

-- no literal of an atom past the values
pub set_of-past : (vs : List ℕ) (c : ℕ) → length vs ≤ c / 2 → set_of vs c ≡ false
unfolding set_of holds_true holds_false
set_of-past vs c h = rw (get_or-eq_default vs 0 h) (same (eqb (c % 2) 0))
  where
    same : (b : Bool) → cond b false false ≡ false
    same true = refl
    same false = refl
