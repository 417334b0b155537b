-- The library's search over a range of numbers, as the search of this repository.
-- Assumes nothing.
use mathlib.Core.Path.{◌≡◌, refl, sym, ◌∙◌, ap}
use mathlib.Core.Bool.{Bool, true, false, cond}
use mathlib.Core.Option as found
use Prim.Native.Nat.{ℕ, zero, suc, ◌+◌}
use native.Mathlib.Numerals.{add-one}
use Rattle.std.specs.Prelude.{Option, Some}
use Rattle.std.specs.List.{find, range_with_len}
use Rattle.std.specs.Option.{option_map}
use Rattle.std.proofs.lemmas.Iterator.Adapters.{option_map_id}
use Rattle.basics.specs.Search.{first, range}
use Rattle.basics.specs.Refusals.{place_of}

from : (p : ℕ → Bool) (k n : ℕ) → place_of (find p (range_with_len k n)) ≡ first p k (range k n)
from p k zero = refl
from p k (suc n) =
    elim (p k) as (λ b. place_of (cond b (Some k) (find p (range_with_len (k + 1) n)))
    ≡ cond b (found.some k) (first p (suc k) (range (suc k) n))) [
      | true ↦ refl
      | false ↦ rw (add-one k) (from p (suc k) n)
    ]

pub find_first : (p : ℕ → Bool) (n : ℕ) (r : Option ℕ) → option_map (λ x. x) r ≡ find p (range_with_len 0 n)
    → place_of r ≡ first p 0 (range 0 n)
find_first p n r is = ap place_of (sym (option_map_id r) ∙ is) ∙ from p 0 n
