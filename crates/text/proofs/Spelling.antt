-- The names that stand at some places of a text.
-- Assumes nothing.
use mathlib.Core.Path.{◌≡◌, refl, sym, ap, ◌∙◌}
use mathlib.Core.Bool.{Bool, true, false, cond, ◌&&◌}
use mathlib.Core.List.{List, [], ◌∷◌, ◌++◌, map}
use mathlib.Core.Option.{Option, none, some}
use Prim.Native.Nat.{ℕ, zero, suc, ◌+◌, ◌*◌, ◌≤◌, ◌<◌}
use native.Mathlib.Nat.{zero-add}
use native.Mathlib.Numerals.{add-one}
use native.Mathlib.Omega.{arith}
use lib.ListN.{length, get_or, take, drop, length-map}
use lib.Seq.{get_or-set_same, get_or-set_other, take-nil}
use Rattle.basics.specs.Search.{first, range}
use Rattle.basics.proofs.Tests.{and-iff, not-both, false_of_not, length-range}
use Rattle.std.specs.Str.{bytes_eq}
use Rattle.text_forms.specs.declared.Name.{Name}
use Rattle.text_forms.specs.declared.Names.{Names}
use Rattle.text_forms.specs.NamePlaces.{no_name, with_name}
use borrow.Author.Tests.{ltb-true}
use lib.Dec.{eqb, ltb, leb}
use Rattle.spelling.specs.Spelling.{same_name}
use Rattle.text_forms.specs.Names.{declared_at, in_sort, literal}
use Rattle.text.specs.Internal.{at_place, name_at, spelled, CodeFits}

pub first-mapped : {A B : Type 0} (p : B → Bool) (f : A → B) (k : ℕ) (xs : List A) → first p k (map f xs) ≡ first (λ x. p (f x)) k xs
first-mapped p f k [] = refl
first-mapped p f k (x ∷ xs) = rw (first-mapped p f (suc k) xs)

-- a search over the first n of some places, where nothing is found behind them
module _ {A : Type 0} (p : A → Bool) (d : A) (fails : p d ≡ false) where
  pub first-places : (f : ℕ → A) (xs : List A) (n k : ℕ) → ((i : ℕ) → f (k + i) ≡ get_or xs i d)
      → first p k (take n xs) ≡ first (λ i. p (f i)) k (range k n)
  first-places f xs zero k at = refl
  first-places f [] (suc n) k at =
      let here : f k ≡ d = ap f (omega arith) ∙ at 0 in
      rw (here, fails) (ap (first p (suc k)) (sym (take-nil n)) ∙ first-places f [] n (suc k) (λ i. ap f (omega arith) ∙ at (suc i)))
  first-places f (x ∷ xs) (suc n) k at =
      let here : f k ≡ x = ap f (omega arith) ∙ at 0 in
      rw (here, first-places f xs n (suc k) (λ i. ap f (omega arith) ∙ at (suc i)))

-- the search for a name that is not empty goes over the places
module _ (text : List ℕ) (names : Names) where
  pub search-places : (bs : List ℕ) → (length bs ≡ 0 → ⊥)
      → first (λ place. same_name bs (at_place text place)) 0 (take names.count names.places) ≡ declared_at (spelled text names) bs
  unfolding spelled
  search-places [] h = absurd (h refl)
  search-places (b ∷ bs) h =
      first-places (λ place. same_name (b ∷ bs) (at_place text place)) no_name refl (λ i. get_or names.places i no_name) names.places
      names.count 0 (λ i. ap (λ j. get_or names.places j no_name) (zero-add i))
      ∙ sym (first-mapped (same_name (b ∷ bs)) (λ i. name_at text names i) 0 (range 0 names.count))

-- a literal's spelling
module _ (names : List (List ℕ)) (low high : ℕ) where
  pub literal-signed : (xs ys : List ℕ) → bytes_eq (take 1 xs) (45 ∷ []) ≡ true → ys ≡ drop 1 xs
      → in_sort low high 1 (declared_at names ys) ≡ literal names low high xs
  unfolding literal
  literal-signed [] ys h e = absurd (not-both h refl)
  literal-signed (x ∷ xs) ys h e = rw (e, ((and-iff (eqb x 45) true).0 h).0)

  pub literal-plain : (xs : List ℕ) → bytes_eq (take 1 xs) (45 ∷ []) ≡ false
      → in_sort low high 0 (declared_at names xs) ≡ literal names low high xs
  unfolding literal
  literal-plain [] h = refl
  literal-plain (x ∷ xs) h = rw (false_of_not (eqb x 45) (λ t. not-both ((and-iff (eqb x 45) true).1 (t, refl)) h))

-- one more name

map_range : {A : Type 0} (f g : ℕ → A) (m k n : ℕ) → ((i : ℕ) → i < m → f i ≡ g i) → k + n ≤ m → map f (range k n) ≡ map g (range k n)
map_range f g m k zero h fits = refl
map_range f g m k (suc n) h fits = rw (h k (omega arith), map_range f g m (suc k) n h (omega arith))

map-range-snoc : {A : Type 0} (f : ℕ → A) (k n : ℕ) → map f (range k (suc n)) ≡ map f (range k n) ++ (f (k + n) ∷ [])
map-range-snoc f k zero = let e : k + 0 ≡ k = omega arith in rw e
map-range-snoc f k (suc n) = let e : k + suc n ≡ suc k + n = omega arith in rw (e, map-range-snoc f (suc k) n)

pub spelled-more : (text : List ℕ) (names : Names) (start size : ℕ) → names.count < length names.places
    → spelled text (with_name names start size) ≡ spelled text names ++ (take size (drop start text) ∷ [])
unfolding spelled
spelled-more text names start size h =
    let more : Names = with_name names start size in
    let place : Name = record { start = start; length = size } in
    let old : (i : ℕ) → i < names.count → name_at text more i ≡ name_at text names i =
    λ i below. ap (at_place text) (get_or-set_other names.places names.count i place no_name (λ e. absurd (omega arith))) in
    let new : name_at text more (0 + names.count) ≡ take size (drop start text) =
    rw (zero-add names.count) (ap (at_place text) (get_or-set_same names.places names.count place no_name h)) in
    rw (add-one names.count)
    (map-range-snoc (λ i. name_at text more i) 0 names.count
    ∙ rw (new, map_range (λ i. name_at text more i) (λ i. name_at text names i) names.count 0 names.count old (omega arith)))

pub spelled-length : (text : List ℕ) (names : Names) → length (spelled text names) ≡ names.count
unfolding spelled
spelled-length text names = length-map (range 0 names.count) (λ i. name_at text names i) ∙ length-range 0 names.count

-- a literal's code is small
sort-small : (low high sign : ℕ) (o : Option ℕ) → sign ≤ 1 → high ≤ 32 → CodeFits (in_sort low high sign o)
sort-small low high sign none s h = tt
sort-small low high sign (some i) s h = go (leb low i && ltb i high) refl
  where
    go : (b : Bool) → (leb low i && ltb i high) ≡ b → CodeFits (cond b (some (2 * i + sign)) none)
    go true e = let t = ltb-true i high ((and-iff (leb low i) (ltb i high)).0 e).1 in omega arith
    go false e = tt

pub literal-small : (names : List (List ℕ)) (low high : ℕ) (xs : List ℕ) → high ≤ 32 → CodeFits (literal names low high xs)
unfolding literal
literal-small names low high [] h = tt
literal-small names low high (x ∷ xs) h = go (eqb x 45) refl
  where
    go : (b : Bool) → eqb x 45 ≡ b
        → CodeFits (cond b (in_sort low high 1 (declared_at names xs)) (in_sort low high 0 (declared_at names (x ∷ xs))))
    go true e = sort-small low high 1 (declared_at names xs) (omega arith) h
    go false e = sort-small low high 0 (declared_at names (x ∷ xs)) (omega arith) h
