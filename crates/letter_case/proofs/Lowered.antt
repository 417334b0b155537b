-- The readers of names, literals, heads and lists make the same of bytes and declared names as of these lowered.
-- Assumes nothing.
use mathlib.Core.Path.{◌≡◌, refl, sym, ap, ◌∙◌}
use mathlib.Core.Bool.{cond}
use mathlib.Core.List.{List, [], ◌∷◌, ◌++◌, map}
use mathlib.Core.Option.{Option, none, some}
use Prim.Native.Nat.{ℕ, zero, suc}
use borrow.Author.Tests.{ne_eqb}
use lib.Dec.{eqb, ltb}
use lib.ListN.{length, take, drop, length-map}
use Rattle.basics.specs.Search.{first}
use Rattle.spelling.specs.Letters.{lowered, same}
use Rattle.spelling.proofs.Lowering.{lowered-outside, no-letter, all-lowered-again, name-lowered}
use Rattle.text_forms.specs.Bytes.{comma, hyphen, cut}
use Rattle.text_forms.specs.Names.{declared_at, in_sort, literal, is_new}
use Rattle.text_forms.specs.Lists.{Listed, items, items_in, added, list_from, list_of}
use Rattle.description_lines.specs.LineSteps.{read_head}

-- declared names

names-lowered : (zs : List ℕ) (k : ℕ) (names : List (List ℕ))
    → first (λ y. same zs (map lowered y)) k (map (map lowered) names) ≡ first (λ y. same zs (map lowered y)) k names
names-lowered zs k [] = refl
names-lowered zs k (x ∷ xs) = rw (all-lowered-again x, names-lowered zs (suc k) xs)

declared-lowered : (names : List (List ℕ)) (xs : List ℕ) → declared_at (map (map lowered) names) (map lowered xs) ≡ declared_at names xs
declared-lowered names [] = refl
declared-lowered names (x ∷ xs) =
    ap (λ zs. first (λ y. same zs (map lowered y)) 0 (map (map lowered) names)) (all-lowered-again (x ∷ xs))
    ∙ names-lowered (map lowered (x ∷ xs)) 0 names

pub new-lowered : (names : List (List ℕ)) (xs : List ℕ) → is_new (map (map lowered) names) (map lowered xs) ≡ is_new names xs
new-lowered names xs = rw (name-lowered xs, declared-lowered names xs)

-- literals and heads

hyphen-lowered : (x : ℕ) → eqb (lowered x) hyphen ≡ eqb x hyphen
hyphen-lowered = lowered-outside (λ x. eqb x hyphen) (λ x letter. ne_eqb x hyphen (λ e. no-letter hyphen refl x letter (sym e)))

pub literal-lowered : (low high : ℕ) (names : List (List ℕ)) (xs : List ℕ)
    → literal (map (map lowered) names) low high (map lowered xs) ≡ literal names low high xs
unfolding literal
literal-lowered low high names [] = refl
literal-lowered low high names (x ∷ xs) =
    rw (hyphen-lowered x, declared-lowered names xs)
    (ap (λ o. cond (eqb x hyphen) (in_sort low high 1 (declared_at names xs)) (in_sort low high 0 o)) (declared-lowered names (x ∷ xs)))

pub head-lowered : (fluents : ℕ) (names : List (List ℕ)) (xs : List ℕ)
    → read_head (map (map lowered) names) fluents (map lowered xs) ≡ read_head names fluents xs
unfolding read_head
head-lowered fluents names xs = rw (all-lowered-again xs, literal-lowered 0 fluents names xs)

-- lists

comma-lowered : (k : ℕ) (xs : List ℕ) → first (eqb comma) k (map lowered xs) ≡ first (eqb comma) k xs
comma-lowered k [] = refl
comma-lowered k (x ∷ xs) =
    rw (lowered-outside (eqb comma) (λ y letter. ne_eqb comma y (no-letter comma refl y letter)) x, comma-lowered (suc k) xs)

take-mapped : {A B : Type 0} (f : A → B) (n : ℕ) (xs : List A) → take n (map f xs) ≡ map f (take n xs)
take-mapped f zero xs = refl
take-mapped f (suc n) [] = refl
take-mapped f (suc n) (x ∷ xs) = rw (take-mapped f n xs)

drop-mapped : {A B : Type 0} (f : A → B) (n : ℕ) (xs : List A) → drop n (map f xs) ≡ map f (drop n xs)
drop-mapped f zero xs = refl
drop-mapped f (suc n) [] = refl
drop-mapped f (suc n) (x ∷ xs) = drop-mapped f n xs

module _ (k : ℕ) (bs : List ℕ) (later : (back : List ℕ) → items_in k (map lowered back) ≡ map (map lowered) (items_in k back)) where
  items-from : (o : Option ℕ) → first (eqb comma) 0 bs ≡ o → items_in (suc k) (map lowered bs) ≡ map (map lowered) (items_in (suc k) bs)
  unfolding cut
  items-from none e = rw (comma-lowered 0 bs, e)
  items-from (some i) e =
      rw (comma-lowered 0 bs, e, take-mapped lowered i bs, drop-mapped lowered (suc i) bs, later (drop (suc i) bs))

items-in-lowered : (k : ℕ) (bs : List ℕ) → items_in k (map lowered bs) ≡ map (map lowered) (items_in k bs)
items-in-lowered zero bs = refl
items-in-lowered (suc k) bs = items-from k bs (λ back. items-in-lowered k back) (first (eqb comma) 0 bs) refl

items-lowered : (bs : List ℕ) → items (map lowered bs) ≡ map (map lowered) (items bs)
unfolding items
items-lowered [] = refl
items-lowered (b ∷ bs) = rw (length-map bs lowered) (items-in-lowered (suc (length (b ∷ bs))) (b ∷ bs))

module _ (low high most : ℕ) (names : List (List ℕ)) where
  list-from : (done : List ℕ) (xs : List (List ℕ))
      → list_from (map (map lowered) names) low high most done (map (map lowered) xs) ≡ list_from names low high most done xs
  list-from done [] = refl
  list-from done (x ∷ xs) =
      rw (literal-lowered low high names x)
      (ap (λ next. cond (ltb (length done) most) next (Listed.refused 5)) (go (literal names low high x) (λ more. list-from more xs)))
    where
      go : (o : Option ℕ)
          → ((more : List ℕ)
          → list_from (map (map lowered) names) low high most more (map (map lowered) xs) ≡ list_from names low high most more xs)
          → added done o (λ more. list_from (map (map lowered) names) low high most more (map (map lowered) xs))
          ≡ added done o (λ more. list_from names low high most more xs)
      go none later = refl
      go (some c) later = later (done ++ (c ∷ []))

  pub list-lowered : (value : List ℕ)
      → list_of (map (map lowered) names) low high most (map lowered value) ≡ list_of names low high most value
  unfolding list_of
  list-lowered value = rw (items-lowered value) (list-from [] (items value))
