-- A list's items by places.
-- Assumes nothing.
use mathlib.Core.Path.{◌≡◌, refl, ap}
use mathlib.Core.Bool.{true, false}
use mathlib.Core.List.{List, [], ◌∷◌}
use mathlib.Core.Option.{Option, none, some}
use Prim.Native.Nat.{ℕ, zero, suc, ◌+◌, ◌≤◌, ◌<◌}
use native.Mathlib.Omega.{arith}
use borrow.Author.Tests.{le-leb, lt-leb}
use lib.Dec.{eqb, leb}
use lib.ListN.{length, take, drop, length-drop}
use lib.Seq.{drop-drop}
use Rattle.basics.specs.Search.{first}
use Rattle.text_forms.specs.Bytes.{comma, cut}
use Rattle.text_forms.specs.Lists.{items_in, items}
use Rattle.text.specs.Internal.{item_at, next_at, items_at}
use Rattle.text.proofs.Cutting.{first-inside}

-- enough steps are enough
module _ (k m : ℕ) (bs : List ℕ) (again : (back : List ℕ) → length back < length bs → items_in k back ≡ items_in m back) where
  items-from : (o : Option ℕ) → first (eqb comma) 0 bs ≡ o → items_in (suc k) bs ≡ items_in (suc m) bs
  unfolding cut
  items-from none e = rw e
  items-from (some i) e =
      let inside = first-inside (eqb comma) bs i e in
      rw (e, again (drop (suc i) bs) (omega (arith, length-drop (suc i) bs)))

pub items-enough : (k m : ℕ) (bs : List ℕ) → length bs < k → length bs < m → items_in k bs ≡ items_in m bs
items-enough zero m bs h g = absurd (omega arith)
items-enough (suc k) zero bs h g = absurd (omega arith)
items-enough (suc k) (suc m) bs h g =
    items-from k m bs (λ back less. items-enough k m back (omega arith) (omega arith)) (first (eqb comma) 0 bs) refl

pub items-end : (list : List ℕ) (i : ℕ) → length list < i → items_at list i ≡ []
unfolding items_at
items-end list i h = rw (lt-leb i (length list) h)

-- the items from a place on are the one there and those from the next place on
module _ (list : List ℕ) (from : ℕ) (h : from ≤ length list) where
  items-cut : (o : Option ℕ) → first (eqb comma) 0 (drop from list) ≡ o
      → items_at list from ≡ item_at list from ∷ items_at list (next_at list from)
  unfolding cut items_at item_at next_at
  items-cut none e =
      let past : leb (length list + 1) (length list) ≡ false = lt-leb (length list + 1) (length list) (omega arith) in
      rw (le-leb from (length list) h, e, past)
  items-cut (some i) e =
      let inside = first-inside (eqb comma) (drop from list) i e in
      let left = length-drop from list in
      let more : leb (from + i + 1) (length list) ≡ true = le-leb (from + i + 1) (length list) (omega arith) in
      let here : from + i + 1 ≡ from + suc i = omega arith in
      rw (le-leb from (length list) h, e, more, here, drop-drop (suc i) from list)
      (ap (λ rest. take i (drop from list) ∷ rest)
      (items-enough (length (drop from list)) (suc (length (drop (from + suc i) list))) (drop (from + suc i) list)
      (omega (arith, length-drop (from + suc i) list)) (omega arith)))

  pub items-next : items_at list from ≡ item_at list from ∷ items_at list (next_at list from)
  items-next = items-cut (first (eqb comma) 0 (drop from list)) refl

  next-cut : (o : Option ℕ) → first (eqb comma) 0 (drop from list) ≡ o → (from < next_at list from) × (next_at list from ≤ length list + 1)
  unfolding next_at
  next-cut none e = rw e (omega arith, omega arith)
  next-cut (some i) e =
      let inside = first-inside (eqb comma) (drop from list) i e in
      rw e (omega arith, omega (arith, length-drop from list))

  pub next-later : (from < next_at list from) × (next_at list from ≤ length list + 1)
  next-later = next-cut (first (eqb comma) 0 (drop from list)) refl

-- all the items of a list that is not empty; an empty one has none
pub items-start : (list : List ℕ) → 0 < length list → items list ≡ items_at list 0
unfolding items items_at
items-start [] h = absurd (omega arith)
items-start (b ∷ bs) h = rw (le-leb 0 (length (b ∷ bs)) (omega arith))

pub items-none : (list : List ℕ) → length list ≤ 0 → items list ≡ []
unfolding items
items-none [] h = refl
items-none (b ∷ bs) h = absurd (omega arith)
