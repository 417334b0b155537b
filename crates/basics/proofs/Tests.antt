-- Tests on numbers and lists, read as facts: `all`, `first`, `range`, and the lowest number with a property.
-- Assumes nothing.
use mathlib.Core.Path.{◌≡◌, refl, sym, ap, ◌∙◌}
use mathlib.Core.Logic.Iff
use mathlib.Core.Logic.{◌↔◌, ◌⊎◌, inl, inr, ⊎_elim}
use mathlib.Core.Bool.{Bool, true, false, not, ◌&&◌, ◌||◌, true≢false}
use mathlib.Core.List.{List, [], ◌∷◌, ◌++◌}
use mathlib.Core.Option.{Option, none, some}
use Prim.Native.Nat.{ℕ, zero, suc, ◌+◌, ◌<◌}
use native.Mathlib.Omega.{arith}
use native.Mathlib.Nat.{add-zero, zero-add}
use lib.ListN.{length, get_or}
use Rattle.basics.specs.Search.{all, Each, first, range, Lowest, Nowhere}

-- Bool

pub true-or-false : (b : Bool) → (b ≡ true) ⊎ (b ≡ false)
true-or-false true = inl refl
true-or-false false = inr refl

pub not-both : {b : Bool} → b ≡ true → b ≡ false → ⊥
not-both t f = true≢false (sym t ∙ f)

pub false_of_not : (b : Bool) → (b ≡ true → ⊥) → b ≡ false
false_of_not true h = absurd (h refl)
false_of_not false h = refl

pub true_of_not : (b : Bool) → (b ≡ false → ⊥) → b ≡ true
true_of_not true h = refl
true_of_not false h = absurd (h refl)

pub and-iff : (a b : Bool) → (a && b) ≡ true ↔ ((a ≡ true) × (b ≡ true))
and-iff true b = (λ e. (refl, e), λ h. h.1)
and-iff false b = (λ e. absurd (not-both e refl), λ h. h.0)

pub and₃-iff : (a b c : Bool) → (a && b && c) ≡ true ↔ ((a ≡ true) × (b ≡ true) × (c ≡ true))
and₃-iff true b c = (λ e. let h = (and-iff b c).0 e in (refl, h.0, h.1), λ h. (and-iff b c).1 (h.1, h.2))
and₃-iff false b c = (λ e. absurd (not-both e refl), λ h. h.0)

pub iff-and₃ : {A B C A' B' C' : Type 0} → A ↔ A' → B ↔ B' → C ↔ C' → (A × B × C) ↔ (A' × B' × C')
iff-and₃ f g h = (λ t. (f.0 t.0, g.0 t.1, h.0 t.2), λ t. (f.1 t.0, g.1 t.1, h.1 t.2))

pub or-iff : (a b : Bool) → (a || b) ≡ true ↔ ((a ≡ true) ⊎ (b ≡ true))
or-iff true b = (λ e. inl refl, λ h. refl)
or-iff false b = (λ e. inr e, λ h. ⊎_elim (λ e. absurd (not-both e refl)) (λ e. e) h)

pub and-or-iff : (a b c : Bool) → (a && b || c) ≡ true ↔ (((a ≡ true) × (b ≡ true)) ⊎ (c ≡ true))
and-or-iff true true c = (λ e. inl (refl, refl), λ h. refl)
and-or-iff true false c = (λ e. inr e, λ h. ⊎_elim (λ i. absurd (not-both i.1 refl)) (λ e. e) h)
and-or-iff false b c = (λ e. inr e, λ h. ⊎_elim (λ i. absurd (not-both i.0 refl)) (λ e. e) h)

pub not_iff : (b : Bool) → not b ≡ true ↔ b ≡ false
not_iff true = (λ e. sym e, λ e. sym e)
not_iff false = (λ e. refl, λ e. refl)

-- a fact of every element

pub each_map : {A : Type 0} {P Q : A → Type 0} → ((x : A) → P x → Q x) → (xs : List A) → Each P xs → Each Q xs
each_map f [] h = tt
each_map f (x ∷ xs) h = (f x h.0, each_map f xs h.1)

pub each-map₂ : {A : Type 0} {P Q R : A → Type 0} → ((x : A) → P x → Q x → R x) → (xs : List A) → Each P xs → Each Q xs → Each R xs
each-map₂ f [] h k = tt
each-map₂ f (x ∷ xs) h k = (f x h.0 k.0, each-map₂ f xs h.1 k.1)

pub each_at : {A : Type 0} (P : A → Type 0) (d : A) (xs : List A) → Each P xs ↔ ((i : ℕ) → i < length xs → P (get_or xs i d))
each_at P d [] = (λ h i b. absurd (omega arith), λ h. tt)
each_at P d (x ∷ xs) = (
  λ h i. elim i as (λ i. i < length (x ∷ xs) → P (get_or (x ∷ xs) i d))
      [ zero ↦ λ b. h.0 | suc j ↦ λ b. (each_at P d xs).0 h.1 j (omega arith) ],
  λ h. (h 0 (omega arith), (each_at P d xs).1 (λ i b. h (suc i) (omega arith))),
)

pub all-each : {A : Type 0} (p : A → Bool) (xs : List A) → all p xs ≡ true ↔ Each (λ x. p x ≡ true) xs
all-each p [] = (λ e. tt, λ h. refl)
all-each p (x ∷ xs) = (
  λ e. let h = (and-iff (p x) (all p xs)).0 e in (h.0, (all-each p xs).0 h.1),
  λ h. (and-iff (p x) (all p xs)).1 (h.0, (all-each p xs).1 h.1),
)

pub each_append : {A : Type 0} (P : A → Type 0) (xs ys : List A) → Each P (xs ++ ys) ↔ (Each P xs × Each P ys)
each_append P [] ys = (λ h. (tt, h), λ h. h.1)
each_append P (x ∷ xs) ys = (
  λ h. let t = (each_append P xs ys).0 h.1 in ((h.0, t.0), t.1),
  λ h. (h.0.0, (each_append P xs ys).1 (h.0.1, h.1)),
)

-- the lowest number below n with a property, and that there is none

lowest-map : {P Q : ℕ → Type 0} (n k : ℕ) → ((i : ℕ) → i < n → P i ↔ Q i) → Lowest P n k → Lowest Q n k
lowest-map n k h l = (l.0, (h k l.0).0 l.1, λ j below q. l.2 j below ((h j (omega (arith, l.0))).1 q))

-- range and first

pub length-range : (k n : ℕ) → length (range k n) ≡ n
length-range k zero = refl
length-range k (suc n) = ap suc (length-range (suc k) n)

pub get_d-range : (k n i d : ℕ) → i < n → get_or (range k n) i d ≡ k + i
get_d-range k zero i d h = absurd (omega arith)
get_d-range k (suc n) zero d h = sym (add-zero k)
get_d-range k (suc n) (suc i) d h = get_d-range (suc k) n i d (omega arith) ∙ omega arith

module _ {A : Type 0} (p : A → Bool) (d : A) where
  skipped : (k : ℕ) (x : A) (xs : List A) → first p k (x ∷ xs) ≡ none → p x ≡ false
  skipped k x xs e = false_of_not (p x) (λ t. let z : ◌≡◌ {A = ℕ} 0 1 = cc in omega arith)

  pub first-none : (k : ℕ) (xs : List A) → first p k xs ≡ none → (i : ℕ) → i < length xs → p (get_or xs i d) ≡ false
  first-none k [] e i h = absurd (omega arith)
  first-none k (x ∷ xs) e zero h = skipped k x xs e
  first-none k (x ∷ xs) e (suc i) h =
      let f : p x ≡ false = skipped k x xs e in
      first-none (suc k) xs (cc) i (omega arith)

  pub none_first : (k : ℕ) (xs : List A) → ((i : ℕ) → i < length xs → p (get_or xs i d) ≡ false) → first p k xs ≡ none
  none_first k [] h = refl
  none_first k (x ∷ xs) h = rw (h 0 (omega arith)) (none_first (suc k) xs (λ i b. h (suc i) (omega arith)))

  pub first_some : (k : ℕ) (xs : List A) (j : ℕ) → first p k xs ≡ some j
      → (i : ℕ) × (j ≡ k + i) × Lowest (λ m. p (get_or xs m d) ≡ true) (length xs) i
  first_some k [] j e = let z : ◌≡◌ {A = ℕ} 0 1 = cc in absurd (omega arith)
  first_some k (x ∷ xs) j e = go (p x) refl (first_some (suc k) xs j)
    where
      Found : ℕ → List A → Type 0
      Found l ys = (i : ℕ) × (j ≡ l + i) × Lowest (λ m. p (get_or ys m d) ≡ true) (length ys) i

      go : (b : Bool) → p x ≡ b → (first p (suc k) xs ≡ some j → Found (suc k) xs) → Found k (x ∷ xs)
      go true t later = (0, let same : j ≡ k = cc in omega arith, (omega arith, t, λ m below q. absurd (omega arith)))
      go false f later =
          let (i, at, (low, holds, lowest)) = later (cc) in (
            suc i,
            omega arith,
            (
              omega arith,
              holds,
              λ m. elim m as (λ m. m < suc i → p (get_or (x ∷ xs) m d) ≡ true → ⊥) [
                | zero ↦ λ below q. not-both q f
                | suc m ↦ λ below q. lowest m (omega arith) q
              ],
            ),
          )

  pub some_first : (k : ℕ) (xs : List A) (i : ℕ) → Lowest (λ m. p (get_or xs m d) ≡ true) (length xs) i
      → first p k xs ≡ some (k + i)
  some_first k [] i l = absurd (omega (arith, l.0))
  some_first k (x ∷ xs) zero l = rw (l.1, add-zero k)
  some_first k (x ∷ xs) (suc i) l =
      let f : p x ≡ false = false_of_not (p x) (λ t. l.2 0 (omega arith) t) in
      let l' : Lowest (λ m. p (get_or xs m d) ≡ true) (length xs) i =
      (omega (arith, l.0), l.1, λ m below q. l.2 (suc m) (omega arith) q) in
      rw f (some_first (suc k) xs i l' ∙ ap {B = Option ℕ} some (omega arith))

-- what `first` finds, where the property P reads the test
module _ {A : Type 0} (p : A → Bool) (d : A) (xs : List A) (n : ℕ) (size : length xs ≡ n)
    (P : ℕ → Type 0) (reads : (i : ℕ) → i < n → p (get_or xs i d) ≡ true ↔ P i) where
  pub first-lowest : (k : ℕ) → first p 0 xs ≡ some k ↔ Lowest P n k
  first-lowest k = (
    λ e. let (m, at, low) = first_some p d 0 xs k e in
        lowest-map n k reads (rw (sym size, at ∙ zero-add m) low),
    λ l. some_first p d 0 xs k (rw size (lowest-map n k (λ i b. Iff.symm (reads i b)) l)) ∙ ap {B = Option ℕ} some (zero-add k),
  )

  pub first-nowhere : first p 0 xs ≡ none ↔ Nowhere P n
  first-nowhere = (
    λ e i b h. not-both ((reads i b).1 h) (first-none p d 0 xs e i (rw size b)),
    λ h. none_first p d 0 xs (λ i b. false_of_not (p (get_or xs i d)) (λ t. let b' : i < n = rw size at b in h i b' ((reads i b').0 t))),
  )

-- the same for the numbers below n
module _ (p : ℕ → Bool) (n : ℕ) (P : ℕ → Type 0) (reads : (i : ℕ) → i < n → p i ≡ true ↔ P i) where
  in-range : (i : ℕ) → i < n → p (get_or (range 0 n) i 0) ≡ true ↔ P i
  in-range i b = rw (get_d-range 0 n i 0 b, zero-add i) (reads i b)

  pub range-lowest : (k : ℕ) → first p 0 (range 0 n) ≡ some k ↔ Lowest P n k
  range-lowest = first-lowest p 0 (range 0 n) n (length-range 0 n) P in-range

  pub range-nowhere : first p 0 (range 0 n) ≡ none ↔ Nowhere P n
  range-nowhere = first-nowhere p 0 (range 0 n) n (length-range 0 n) P in-range
