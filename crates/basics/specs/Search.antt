-- Searching lists and ranges, and facts of every element: words that the definitions of the crates above share.
-- Assumes nothing.
use Rattle.std.specs.Prelude.{Bool, true, cond, ◌&&◌, List, [], ◌∷◌, ◌++◌, map, ℕ, zero, suc, ◌<◌}
use Rattle.std.proofs.Math.Option.{Option, none, some}

-- every element passes the test
abbrev pub all : {A : Type 0} → (A → Bool) → List A → Bool
all p [] = true
all p (x ∷ xs) = p x && all p xs

-- a fact of every element
abbrev pub Each : {A : Type 0} → (A → Type 0) → List A → Type 0
Each P [] = Unit
Each P (x ∷ xs) = P x × Each P xs

-- the place of the first element that passes the test, counted from k
abbrev pub first : {A : Type 0} → (A → Bool) → ℕ → List A → Option ℕ
first p k [] = none
first p k (x ∷ xs) = cond (p x) (some k) (first p (suc k) xs)

-- k, k + 1, .. : n numbers
abbrev pub range : ℕ → ℕ → List ℕ
range k zero = []
range k (suc n) = k ∷ range (suc k) n

-- the elements that pass the test, in their order
abbrev pub chosen : {A : Type 0} → (A → Bool) → List A → List A
chosen p [] = []
chosen p (x ∷ xs) = cond (p x) (x ∷ chosen p xs) (chosen p xs)

-- every list of n of the given elements
abbrev pub in_front : {A : Type 0} → List A → List (List A) → List (List A)
in_front [] rest = []
in_front (a ∷ as') rest = map (λ xs. a ∷ xs) rest ++ in_front as' rest

abbrev pub tuples : {A : Type 0} → List A → ℕ → List (List A)
tuples as' zero = [] ∷ []
tuples as' (suc n) = in_front as' (tuples as' n)

-- k is the lowest number below n with a property
abbrev pub Lowest : (ℕ → Type 0) → ℕ → ℕ → Type 0
Lowest P n k = (k < n) × P k × ((j : ℕ) → j < k → P j → ⊥)

-- no number below n has it
abbrev pub Nowhere : (ℕ → Type 0) → ℕ → Type 0
Nowhere P n = (i : ℕ) → i < n → P i → ⊥
