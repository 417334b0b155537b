-- What one turn of a loop over a list, a range or a rule table does to the work that remains: R is what the whole loop is to
-- find, and the invariant says that the remaining work finds it.
-- Assumes nothing.
use mathlib.Core.Path.{◌≡◌}
use mathlib.Core.Bool.{Bool, true, false, not, ◌&&◌}
use mathlib.Core.List.{List}
use mathlib.Core.Option.{Option, none, some}
use Prim.Native.Nat.{ℕ, suc, ◌+◌, ◌-◌, ◌≤◌, ◌<◌}
use native.Mathlib.Numerals.{add-one}
use native.Mathlib.Omega.{arith}
use borrow.Author.Tests.{not-true, not-false}
use lib.ListN.{length, get_or, take, drop, drop_of_length-le, length-drop}
use lib.Seq.{drop-cons, take_all}
use Rattle.basics.specs.Search.{first, range}

-- a search for the first element that passes a test
module _ {A : Type 0} (p : A → Bool) (xs : List A) (i : ℕ) (d : A) {R : Option ℕ} where
  pub first-stop : i < length xs → first p i (drop i xs) ≡ R → p (get_or xs i d) ≡ true → some i ≡ R
  first-stop h inv e = rw (drop-cons xs i d h, e) at inv

  pub first-go : i < length xs → first p i (drop i xs) ≡ R → p (get_or xs i d) ≡ false → first p (i + 1) (drop (i + 1) xs) ≡ R
  first-go h inv e = rw add-one (rw (drop-cons xs i d h, e) at inv)

  pub first_done : length xs ≤ i → first p i (drop i xs) ≡ R → none ≡ R
  first_done h inv = rw (drop_of_length-le xs h) at inv

left : (i n : ℕ) → i < n → n - i ≡ suc (n - suc i)
left i n h = omega arith

-- the same over the numbers from i to n
module _ (p : ℕ → Bool) (i n : ℕ) {R : Option ℕ} where
  pub range-go : i < n → first p i (range i (n - i)) ≡ R → p i ≡ false → first p (i + 1) (range (i + 1) (n - (i + 1))) ≡ R
  range-go h inv e = rw (add-one i) (rw (left i n h, e) at inv)

-- a part that starts at n and runs to the end
pub to_the_end : {A : Type 0} (n : ℕ) (xs : List A) → take (length xs - n) (drop n xs) ≡ drop n xs
to_the_end n xs = take_all (length xs - n) (drop n xs) (omega (arith, length-drop n xs))

-- two tests, the second only where the first passes
pub and-stop : {p : Bool} (r q : Bool) → r ≡ p → not r ≡ true → false ≡ (p && q)
and-stop r q is e = rw (← is, not-true r e)

pub and-go : {p q : Bool} (r v : Bool) → r ≡ p → not r ≡ false → v ≡ q → v ≡ (p && q)
and-go r v is e then = rw (← is, not-false r e) then
