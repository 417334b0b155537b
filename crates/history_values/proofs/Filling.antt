-- Values that a line marks or fills: in the first of them, outside them, and which are left at 0.
-- Assumes nothing.
use mathlib.Core.Path.{◌≡◌, refl, sym, ap, ◌∙◌}
use mathlib.Core.Bool.{Bool, true, false, cond}
use mathlib.Core.List.{List, [], ◌∷◌, ◌++◌, map}
use Prim.Native.Nat.{ℕ, zero, suc, ◌+◌, ◌-◌, ◌/◌, ◌%◌, ◌≤◌, ◌<◌}
use native.Mathlib.Omega.{arith}
use borrow.Author.Tests.{eqb-true, eqb-false}
use lib.Dec.{eqb, ltb}
use lib.ListN.{length, get_or, take, set, length-set, length-append}
use lib.Seq.{append_snoc, set_out, set_at, get_or_at, get_or-set_same}
use Rattle.history_values.specs.Values.{with_true, with_false, with_literals, or_false, filled}

-- the value of a code's atom, with the code's literal
abbrev with_sign : ℕ → ℕ → ℕ
with_sign c v = cond (eqb (c % 2) 0) (with_true v) (with_false v)

-- the first n values
take-changed : (f : ℕ → ℕ) (n : ℕ) (vs : List ℕ) (at : ℕ)
    → take n (set vs at (f (get_or vs at 0))) ≡ set (take n vs) at (f (get_or (take n vs) at 0))
take-changed f zero vs at = refl
take-changed f (suc n) [] at = refl
take-changed f (suc n) (v ∷ vs) zero = refl
take-changed f (suc n) (v ∷ vs) (suc at) = ap (λ (ws : List ℕ). v ∷ ws) (take-changed f n vs at)

pub take-marked : (n base : ℕ) (vs cs : List ℕ) → take n (with_literals base vs cs) ≡ with_literals base (take n vs) cs
take-marked n base vs [] = refl
take-marked n base vs (c ∷ cs) =
    take-marked n base (set vs (base + c / 2) (with_sign c (get_or vs (base + c / 2) 0))) cs
    ∙ ap (λ ws. with_literals base ws cs) (take-changed (with_sign c) n vs (base + c / 2))

pub take-filled : (n at k : ℕ) (vs : List ℕ) → take n (filled at k vs) ≡ filled at k (take n vs)
take-filled n at zero vs = refl
take-filled n at (suc k) vs =
    take-filled n (suc at) k (set vs at (or_false (get_or vs at 0))) ∙ ap (filled (suc at) k) (take-changed or_false n vs at)

-- places past the values
pub filled-outside : (at k : ℕ) (vs : List ℕ) → length vs ≤ at → vs ≡ filled at k vs
filled-outside at zero vs h = refl
filled-outside at (suc k) vs h =
    filled-outside (suc at) k vs (omega arith) ∙ ap (filled (suc at) k) (sym (set_out vs at (or_false (get_or vs at 0)) h))

-- one turn of the loop, where R is what the filling comes to
pub filled-turn : (base i high : ℕ) (vs : List ℕ) {R : List ℕ} → i < high → filled (base + i) (high - i) vs ≡ R
    → filled (base + (i + 1)) (high - (i + 1)) (set vs (base + i) (or_false (get_or vs (base + i) 0))) ≡ R
filled-turn base i high vs h left =
    let one : high - i ≡ suc (high - (i + 1)) = omega arith in
    let next : base + (i + 1) ≡ suc (base + i) = omega arith in
    rw next (rw one at left)

-- the places behind p
pub filled-middle : (at : ℕ) (p xs zs : List ℕ) → length p ≡ at → filled at (length xs) (p ++ (xs ++ zs)) ≡ p ++ (map or_false xs ++ zs)
filled-middle at p [] zs there = refl
filled-middle at p (x ∷ xs) zs there =
    ap (filled (suc at) (length xs)) (here ∙ sym (append_snoc p (or_false x) (xs ++ zs)))
    ∙ filled-middle (suc at) (p ++ (or_false x ∷ [])) xs zs (omega (arith, length-append p (or_false x ∷ [])))
    ∙ append_snoc p (or_false x) (map or_false xs ++ zs)
  where
    here : set (p ++ x ∷ (xs ++ zs)) at (or_false (get_or (p ++ x ∷ (xs ++ zs)) at 0)) ≡ p ++ or_false x ∷ (xs ++ zs)
    here =
        ap (λ (w : ℕ). set (p ++ x ∷ (xs ++ zs)) at (or_false w)) (get_or_at p x (xs ++ zs) 0 at there)
        ∙ set_at p x (xs ++ zs) (or_false x) at there

-- as many values as before
pub length_marked : (base : ℕ) (vs cs : List ℕ) → length (with_literals base vs cs) ≡ length vs
length_marked base vs [] = refl
length_marked base vs (c ∷ cs) =
    length_marked base (set vs (base + c / 2) (with_sign c (get_or vs (base + c / 2) 0))) cs ∙ length-set vs (base + c / 2) _

pub length-filled : (at k : ℕ) (vs : List ℕ) → length (filled at k vs) ≡ length vs
length-filled at zero vs = refl
length-filled at (suc k) vs = length-filled (suc at) k _ ∙ length-set vs at _

-- a value that is left at 0 was 0 before, where one change keeps that
changed-zero : (f : ℕ → ℕ) → ((v : ℕ) → f v ≡ 0 → v ≡ 0) → (vs : List ℕ) (at i : ℕ)
    → get_or (set vs at (f (get_or vs at 0))) i 0 ≡ 0 → get_or vs i 0 ≡ 0
changed-zero f keeps [] at i e = e
changed-zero f keeps (v ∷ vs) zero zero e = keeps v e
changed-zero f keeps (v ∷ vs) zero (suc i) e = e
changed-zero f keeps (v ∷ vs) (suc at) zero e = e
changed-zero f keeps (v ∷ vs) (suc at) (suc i) e = changed-zero f keeps vs at i e

sign_zero : (c v : ℕ) → with_sign c v ≡ 0 → v ≡ 0
sign_zero c v = go (eqb (c % 2) 0) (eqb (v % 2) 0) (ltb v 2)
  where
    go : (a b d : Bool) → cond a (cond b (v + 1) v) (cond d (v + 2) v) ≡ 0 → v ≡ 0
    go true true d e = omega arith
    go true false d e = e
    go false b true e = omega arith
    go false b false e = e

pub marked-zero : (base : ℕ) (vs cs : List ℕ) (i : ℕ) → get_or (with_literals base vs cs) i 0 ≡ 0 → get_or vs i 0 ≡ 0
marked-zero base vs [] i e = e
marked-zero base vs (c ∷ cs) i e = changed-zero (with_sign c) (sign_zero c) vs (base + c / 2) i
    (marked-zero base (set vs (base + c / 2) (with_sign c (get_or vs (base + c / 2) 0))) cs i e)

-- what is filled is not left at 0
or-false : (v : ℕ) → or_false v ≡ 0 → ⊥
or-false v = go (eqb v 0) refl
  where
    go : (b : Bool) → eqb v 0 ≡ b → cond b 2 v ≡ 0 → ⊥
    go true e f = absurd (omega arith)
    go false e f = eqb-false v 0 e f

pub filled_zero : (at k : ℕ) (vs : List ℕ) (i : ℕ) → get_or (filled at k vs) i 0 ≡ 0 → get_or vs i 0 ≡ 0
filled_zero at zero vs i e = e
filled_zero at (suc k) vs i e = changed-zero or_false (λ v f. absurd (or-false v f)) vs at i (filled_zero (suc at) k _ i e)

pub filled-valued : (at k : ℕ) (vs : List ℕ) (i : ℕ) → at ≤ i → i < at + k → i < length vs → get_or (filled at k vs) i 0 ≡ 0 → ⊥
filled-valued at zero vs i low high inside e = absurd (omega arith)
filled-valued at (suc k) vs i low high inside e =
    go (eqb i at) refl
    (λ later. filled-valued (suc at) k next i later (omega arith) (omega (arith, length-set vs at (or_false (get_or vs at 0)))) e)
  where
    next : List ℕ
    next = set vs at (or_false (get_or vs at 0))

    go : (b : Bool) → eqb i at ≡ b → (suc at ≤ i → ⊥) → ⊥
    go true same behind =
        let here : i ≡ at = eqb-true i at same in
        let kept : get_or next i 0 ≡ 0 = filled_zero (suc at) k next i e in
        or-false (get_or vs at 0) (sym (get_or-set_same vs at (or_false (get_or vs at 0)) 0 (omega arith)) ∙ (rw here at kept))
    go false other behind = behind (omega (arith, eqb-false i at other))

-- a literal past the values marks nothing
pub marked-outside : (base : ℕ) (vs : List ℕ) (c : ℕ) → length vs ≤ base + c / 2 → vs ≡ with_literals base vs (c ∷ [])
marked-outside base vs c h = sym (set_out vs (base + c / 2) _ h)
