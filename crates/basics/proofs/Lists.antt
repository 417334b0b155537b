-- Facts of every element of a list: by its members, of a mapped list, of a range, and where a search finds nothing.
-- Assumes nothing.
use mathlib.Core.Path.{◌≡◌, refl}
use mathlib.Core.Logic.{◌↔◌, ⊎_elim}
use mathlib.Core.Bool.{Bool, true, false}
use mathlib.Core.List.Memᴰ
use mathlib.Core.List.{List, [], ◌∷◌, map, Memᴰ}
use mathlib.Core.Option.{none}
use Prim.Native.Nat.{ℕ, zero, suc, ◌+◌, ◌<◌}
use native.Mathlib.Omega.{arith}
use lib.ListN.{length}
use Rattle.basics.specs.Search.{all, Each, first, range, chosen, in_front, tuples}
use Rattle.basics.proofs.Tests.{not-both, each_map, each-map₂}

pub each-iff : {A : Type 0} {P Q : A → Type 0} → ((x : A) → P x ↔ Q x) → (xs : List A) → Each P xs ↔ Each Q xs
each-iff f xs = (each_map (λ x p. (f x).0 p) xs, each_map (λ x q. (f x).1 q) xs)

-- the same where each element has the property F
pub each-iff-given : {A : Type 0} {F P Q : A → Type 0} → ((x : A) → F x → P x ↔ Q x) → (xs : List A) → Each F xs → Each P xs ↔ Each Q xs
each-iff-given f xs given = (each-map₂ (λ x g p. (f x g).0 p) xs given, each-map₂ (λ x g q. (f x g).1 q) xs given)

pub each_both : {A : Type 0} (P Q : A → Type 0) (xs : List A) → Each (λ x. P x × Q x) xs ↔ (Each P xs × Each Q xs)
each_both P Q [] = (λ h. (tt, tt), λ h. tt)
each_both P Q (x ∷ xs) = (
  λ h. let t = (each_both P Q xs).0 h.1 in ((h.0.0, t.0), (h.0.1, t.1)),
  λ h. ((h.0.0, h.1.0), (each_both P Q xs).1 (h.0.1, h.1.1)),
)

-- a family of facts of every element is a family of facts
pub each-forall : {A : Type 0} (P : A → ℕ → Type 0) (n : ℕ) (xs : List A)
    → Each (λ x. (i : ℕ) → i < n → P x i) xs ↔ ((i : ℕ) → i < n → Each (λ x. P x i) xs)
each-forall P n [] = (λ h i b. tt, λ h. tt)
each-forall P n (x ∷ xs) = (
  λ h i b. (h.0 i b, (each-forall P n xs).0 h.1 i b),
  λ h. (λ i b. (h i b).0, (each-forall P n xs).1 (λ i b. (h i b).1)),
)

-- members

pub each_member : {A : Type 0} (xs : List A) → Each (λ x. Memᴰ x xs) xs
each_member [] = tt
each_member (x ∷ xs) = (Memᴰ.head refl, each_map (λ y m. Memᴰ.tail m) xs (each_member xs))

pub member-each : {A : Type 0} (P : A → Type 0) (xs : List A) {y : A} → Each P xs → Memᴰ y xs → P y
member-each P [] h m = absurd (Memᴰ.not-nil m)
member-each P (x ∷ xs) {y} h m = ⊎_elim (λ (e : y ≡ x). rw e h.0) (λ later. member-each P xs h.1 later) (Memᴰ.cases_cons m)

-- mapped lists and ranges

pub each-mapped : {A B : Type 0} (P : B → Type 0) (f : A → B) (xs : List A) → Each P (map f xs) ↔ Each (λ x. P (f x)) xs
each-mapped P f [] = (λ h. h, λ h. h)
each-mapped P f (x ∷ xs) = (λ h. (h.0, (each-mapped P f xs).0 h.1), λ h. (h.0, (each-mapped P f xs).1 h.1))

pub all-mapped : {A B : Type 0} (p : B → Bool) (q : A → Bool) (f : A → B) (xs : List A)
    → Each (λ x. p (f x) ≡ q x) xs → all p (map f xs) ≡ all q xs
all-mapped p q f [] h = refl
all-mapped p q f (x ∷ xs) h = rw (h.0, all-mapped p q f xs h.1)

-- where `at` names the numbers counted from k on
pub each-range : (P : ℕ → Type 0) (k n : ℕ) (at : ℕ → ℕ) → ((i : ℕ) → k + i ≡ at i) → Each P (range k n) ↔ ((i : ℕ) → i < n → P (at i))
each-range P k zero at e = (λ h i b. absurd (omega arith), λ h. tt)
each-range P k (suc n) at e =
    let here : at 0 ≡ k = omega (arith, e 0) in
    let rest = each-range P (suc k) n (λ i. at (suc i)) (λ i. omega (arith, e (suc i))) in (
      λ h i. elim i as (λ i. i < suc n → P (at i)) [ zero ↦ λ b. rw here h.0 | suc j ↦ λ b. rest.0 h.1 j (omega arith) ],
      λ h. (rw here at (h 0 (omega arith)), rest.1 (λ i b. h (suc i) (omega arith))),
    )

-- searches

pub none-iff : {A : Type 0} (p : A → Bool) (k : ℕ) (xs : List A) → first p k xs ≡ none ↔ Each (λ x. p x ≡ false) xs
none-iff p k [] = (λ e. tt, λ h. refl)
none-iff {A} p k (x ∷ xs) = go (p x) refl (none-iff p (suc k) xs)
  where
    go : (b : Bool) → p x ≡ b → (first p (suc k) xs ≡ none ↔ Each (λ y. p y ≡ false) xs)
        → first p k (x ∷ xs) ≡ none ↔ Each (λ y. p y ≡ false) (x ∷ xs)
    go true t rest = (λ e. let z : ◌≡◌ {A = ℕ} 0 1 = cc in absurd (omega arith), λ h. absurd (not-both t h.0))
    go false f rest = (λ e. (f, rest.0 (cc)), λ h. rw f (rest.1 h.1))

-- enumerations

pub chosen-iff : {A : Type 0} (p : A → Bool) (xs : List A) (y : A) → Memᴰ y (chosen p xs) ↔ (Memᴰ y xs × (p y ≡ true))
chosen-iff p [] y = (λ m. absurd (Memᴰ.not-nil m), λ h. h.0)
chosen-iff {A} p (x ∷ xs) y = go (p x) refl (chosen-iff p xs y)
  where
    go : (b : Bool) → p x ≡ b → Memᴰ y (chosen p xs) ↔ (Memᴰ y xs × (p y ≡ true))
        → Memᴰ y (chosen p (x ∷ xs)) ↔ (Memᴰ y (x ∷ xs) × (p y ≡ true))
    go true t rest =
        rw t (
          λ m. ⊎_elim (λ (e : y ≡ x). (Memᴰ.head e, rw e t))
              (λ l. let h = rest.0 l in (Memᴰ.tail h.0, h.1)) (Memᴰ.cases_cons m),
          λ h. ⊎_elim (λ (e : y ≡ x). Memᴰ.head e) (λ l. Memᴰ.tail (rest.1 (l, h.1))) (Memᴰ.cases_cons h.0),
        )
    go false f rest =
        rw f (
          λ m. let h = rest.0 m in (Memᴰ.tail h.0, h.1),
          λ h. ⊎_elim (λ (e : y ≡ x). absurd (not-both h.1 (rw e f))) (λ l. rest.1 (l, h.1)) (Memᴰ.cases_cons h.0),
        )

in-front : {A : Type 0} (elements : List A) (rest : List (List A)) {x : A} {xs : List A} → Memᴰ x elements → Memᴰ xs rest
    → Memᴰ (x ∷ xs) (in_front elements rest)
in-front [] rest m n = absurd (Memᴰ.not-nil m)
in-front {A} (a ∷ more) rest {x} {xs} m n =
    ⊎_elim (λ (e : x ≡ a). rw e (Memᴰ.append_left (in_front more rest) (Memᴰ.map (λ (ys : List A). a ∷ ys) n)))
    (λ l. Memᴰ.append_right (map (λ (ys : List A). a ∷ ys) rest) (in-front more rest l n))
    (Memᴰ.cases_cons m)

-- every list of n of the elements is among the tuples
pub tuples-all : {A : Type 0} (elements : List A) (n : ℕ) (xs : List A) → length xs ≡ n → Each (λ x. Memᴰ x elements) xs
    → Memᴰ xs (tuples elements n)
tuples-all elements zero [] e h = Memᴰ.head refl
tuples-all elements zero (x ∷ xs) e h = absurd (omega arith)
tuples-all elements (suc n) [] e h = absurd (omega arith)
tuples-all elements (suc n) (x ∷ xs) e h = in-front elements (tuples elements n) h.0 (tuples-all elements n xs (omega arith) h.1)
