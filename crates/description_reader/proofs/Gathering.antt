-- The turns of the loop over a list's items.
-- Assumes nothing.
use mathlib.Core.Path.{◌≡◌, sym, ◌∙◌, ap}
use mathlib.Core.Bool.{Bool, true, false, cond}
use mathlib.Core.List.{List, [], ◌∷◌, ◌++◌}
use mathlib.Core.Option.{Option, none, some}
use Prim.Native.Nat.{ℕ, ◌≤◌, ◌<◌}
use lib.Dec.{ltb}
use lib.ListN.{length}
use Rattle.text_forms.specs.Names.{literal}
use Rattle.text_forms.specs.Lists.{Listed, refused, codes, added, list_from}
use Rattle.text.specs.Internal.{item_at, next_at, items_at}
use Rattle.text.proofs.Items.{items-next, items-end}
use Rattle.description_reader.specs.Internal.{one_more}

-- one item decides, or the list goes on with its code
module _ (names : List (List ℕ)) (low high : ℕ) (done : List ℕ) (x : List ℕ) (xs : List (List ℕ)) where
  list-by : (b : Bool) (c : Option ℕ) (k : ℕ) → refused k ≡ cond b (added done c codes) (refused 5)
      → cond b (added done c (λ more. list_from names low high 6 more xs)) (refused 5) ≡ refused k
  list-by true none k e = sym e
  list-by true (some c) k e = cc
  list-by false c k e = sym e

  pub list-refused : (k : ℕ) → refused k ≡ one_more done (literal names low high x) → list_from names low high 6 done (x ∷ xs) ≡ refused k
  list-refused k e = list-by (ltb (length done) 6) (literal names low high x) k e

  list_on : (b : Bool) (c : Option ℕ) (more : List ℕ) → codes more ≡ cond b (added done c codes) (refused 5)
      → cond b (added done c (λ more'. list_from names low high 6 more' xs)) (refused 5) ≡ list_from names low high 6 more xs
  list_on true none more e = cc
  list_on true (some c) more e = let q : done ++ (c ∷ []) ≡ more = cc in ap (λ m. list_from names low high 6 m xs) q
  list_on false c more e = cc

  pub list-goes : (more : List ℕ) → codes more ≡ one_more done (literal names low high x)
      → list_from names low high 6 done (x ∷ xs) ≡ list_from names low high 6 more xs
  list-goes more e = list_on (ltb (length done) 6) (literal names low high x) more e

-- one turn of the loop over a list's items, where R is what the whole list comes to
module _ (names : List (List ℕ)) (high : ℕ) (list : List ℕ) (i : ℕ) (inside : i ≤ length list) (done : List ℕ)
    (code : Option ℕ) {R : Listed}
    (left : list_from names 0 high 6 done (items_at list i) ≡ R) (is : code ≡ literal names 0 high (item_at list i)) where
  unrolled : list_from names 0 high 6 done (item_at list i ∷ items_at list (next_at list i)) ≡ R
  unrolled = ap (list_from names 0 high 6 done) (sym (items-next list i inside)) ∙ left

  pub turn_on : (more : List ℕ) (next : ℕ) → next ≡ next_at list i → codes more ≡ one_more done code
      → list_from names 0 high 6 more (items_at list next) ≡ R
  turn_on more next e one =
      rw e
      (sym (list-goes names 0 high done (item_at list i) (items_at list (next_at list i)) more (one ∙ ap (one_more done) is))
      ∙ unrolled)

  pub turn-off : (k : ℕ) → refused k ≡ one_more done code → R ≡ refused k
  turn-off k one =
      sym unrolled
      ∙ list-refused names 0 high done (item_at list i) (items_at list (next_at list i)) k (one ∙ ap (one_more done) is)

-- no item is left
pub turn-done : (names : List (List ℕ)) (high : ℕ) (list : List ℕ) (i : ℕ) (done : List ℕ) {R : Listed} → length list < i
    → list_from names 0 high 6 done (items_at list i) ≡ R → codes done ≡ R
turn-done names high list i done past left = rw (items-end list i past) at left
