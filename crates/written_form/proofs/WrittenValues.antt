-- Marking the codes that a line lists of a run of values, in places that are 0, and filling what an act line leaves out.
-- Assumes nothing.
use mathlib.Core.Path.{◌≡◌, refl, sym, ap, ◌∙◌}
use mathlib.Core.Bool.{Bool, true, false, cond, not, ◌&&◌}
use mathlib.Core.List.{List, [], ◌∷◌, ◌++◌, map, append_assoc}
use Prim.Native.Nat.{ℕ, zero, suc, ◌+◌, ◌*◌, ◌/◌, ◌%◌, ◌≤◌, ◌<◌}
use native.Mathlib.Omega.{arith}
use borrow.Author.Tests.{ne_eqb}
use lib.Dec.{eqb}
use lib.ListN.{length, take, drop, replicate, length-append, length-take, take-append-drop}
use lib.Seq.{append_snoc, get_or_at, set_at, get_or-take, get_or-drop}
use Rattle.basics.specs.Search.{Each}
use Rattle.basics.proofs.Tests.{each_at, each_map, each_append}
use Rattle.history_values.specs.Values.{with_true, with_false, with_literals, or_false, filled, ActionsValued}
use Rattle.history_values.proofs.Filling.{filled-middle}
use Rattle.written_form.specs.HistoryWriting.{listed_at, codes_from, actions_or_false}
use Rattle.written_form.proofs.WrittenLists.{CodesIn}

abbrev pub Values : List ℕ → Type 0
Values vs = Each (λ v. v ≤ 3) vs

-- what holds of 0, 1, 2 and 3 holds of a value, whether it is listed or not
by-listed : (P : Bool → ℕ → Type 0) → ((b : Bool) → P b 0) → ((b : Bool) → P b 1) → P true 2 → P false 2 → ((b : Bool) → P b 3)
    → (b : Bool) (v : ℕ) → v ≤ 3 → P b v
by-listed P p₀ p₁ p₂ q₂ p₃ b zero h = p₀ b
by-listed P p₀ p₁ p₂ q₂ p₃ b (suc zero) h = p₁ b
by-listed P p₀ p₁ p₂ q₂ p₃ true (suc (suc zero)) h = p₂
by-listed P p₀ p₁ p₂ q₂ p₃ false (suc (suc zero)) h = q₂
by-listed P p₀ p₁ p₂ q₂ p₃ b (suc (suc (suc zero))) h = p₃ b
by-listed P p₀ p₁ p₂ q₂ p₃ b (suc (suc (suc (suc v)))) h = absurd (omega arith)

-- what is marked of a value: a false that is not listed stays 0
abbrev marked_at : Bool → ℕ → ℕ
marked_at listed v = cond (eqb v 2 && not listed) 0 v

abbrev pub marked_from : (ℕ → Bool) → ℕ → List ℕ → List ℕ
marked_from listed i [] = []
marked_from listed i (v ∷ vs) = marked_at (listed i) v ∷ marked_from listed (suc i) vs

marked_append : (base : ℕ) (vs xs ys : List ℕ) → with_literals base vs (xs ++ ys) ≡ with_literals base (with_literals base vs xs) ys
marked_append base vs [] ys = refl
marked_append base vs (x ∷ xs) ys = marked_append base (with_literals base vs (x ∷ [])) xs ys

-- one code of the place behind p
module _ (base i : ℕ) (p : List ℕ) (there : length p ≡ base + i) (v : ℕ) (q : List ℕ) where
  mark-true : with_literals base (p ++ v ∷ q) ((2 * i) ∷ []) ≡ p ++ with_true v ∷ q
  mark-true =
      let half : base + (2 * i) / 2 ≡ base + i = omega arith in
      let even : (2 * i) % 2 ≡ 0 = omega arith in
      rw (half, even, get_or_at p v q 0 (base + i) there) (set_at p v q (with_true v) (base + i) there)

  mark-false : with_literals base (p ++ v ∷ q) ((2 * i + 1) ∷ []) ≡ p ++ with_false v ∷ q
  mark-false =
      let half : base + (2 * i + 1) / 2 ≡ base + i = omega arith in
      let odd : (2 * i + 1) % 2 ≡ 1 = omega arith in
      rw (half, odd, get_or_at p v q 0 (base + i) there) (set_at p v q (with_false v) (base + i) there)

mark-value : (base i : ℕ) (p q : List ℕ) → length p ≡ base + i → (b : Bool) (v : ℕ) → v ≤ 3
    → with_literals base (p ++ 0 ∷ q) (listed_at b i v) ≡ p ++ marked_at b v ∷ q
mark-value base i p q there =
    by-listed (λ b v. with_literals base (p ++ 0 ∷ q) (listed_at b i v) ≡ p ++ marked_at b v ∷ q) (λ b. refl)
    (λ b. mark-true base i p there 0 q)
    (mark-false base i p there 0 q) refl
    (
    λ b.
    marked_append base (p ++ 0 ∷ q) ((2 * i) ∷ []) ((2 * i + 1) ∷ [])
    ∙ ap (λ vs. with_literals base vs ((2 * i + 1) ∷ [])) (mark-true base i p there 0 q)
    ∙ mark-false base i p there 1 q
    )

pub mark-values : (f : ℕ → Bool) (base i : ℕ) (p ws ys : List ℕ) → length p ≡ base + i → Values ws
    → with_literals base (p ++ replicate (length (ws ++ ys)) 0) (codes_from f i ws) ≡ p ++ (marked_from f i ws ++ replicate (length ys) 0)
mark-values f base i p [] ys there h = refl
mark-values f base i p (w ∷ ws) ys there h =
    let zeros : List ℕ = replicate (length (ws ++ ys)) 0 in
    let u = marked_at (f i) w in
    marked_append base (p ++ 0 ∷ zeros) (listed_at (f i) i w) (codes_from f (suc i) ws)
    ∙ ap (λ vs. with_literals base vs (codes_from f (suc i) ws))
    (mark-value base i p zeros there (f i) w h.0 ∙ sym (append_snoc p u zeros))
    ∙ mark-values f base (suc i) (p ++ (u ∷ [])) ws ys (omega (arith, length-append p (u ∷ []))) h.1
    ∙ append_snoc p u (marked_from f (suc i) ws ++ replicate (length ys) 0)

-- where all is listed, all is marked
pub marked_all : (i : ℕ) (ws : List ℕ) → marked_from (λ i. true) i ws ≡ ws
marked_all i [] = refl
marked_all i (w ∷ ws) = rw (marked_all (suc i) ws) (ap (λ (v : ℕ). v ∷ ws) (go (eqb w 2)))
  where
    go : (b : Bool) → cond (b && false) 0 w ≡ w
    go true = refl
    go false = refl

-- filling gives the same whether false was listed or not
fill-marked : (b : Bool) (v : ℕ) → v ≤ 3 → or_false (marked_at b v) ≡ or_false v
fill-marked = by-listed (λ b v. or_false (marked_at b v) ≡ or_false v) (λ b. refl) (λ b. refl) refl refl (λ b. refl)

fill-same : (f : ℕ → Bool) (i : ℕ) (ws : List ℕ) → Values ws → map or_false (marked_from f i ws) ≡ map or_false ws
fill-same f i [] h = refl
fill-same f i (w ∷ ws) h = rw (fill-same f (suc i) ws h.1) (ap (λ (v : ℕ). v ∷ map or_false ws) (fill-marked (f i) w h.0))

length-marked-from : (f : ℕ → Bool) (i : ℕ) (ws : List ℕ) → length (marked_from f i ws) ≡ length ws
length-marked-from f i [] = refl
length-marked-from f i (w ∷ ws) = ap suc (length-marked-from f (suc i) ws)

pub fill-values : (f : ℕ → Bool) (at i : ℕ) (p ws zs : List ℕ) → length p ≡ at → Values ws
    → filled at (length ws) (p ++ (marked_from f i ws ++ zs)) ≡ p ++ map or_false ws ++ zs
fill-values f at i p ws zs there h =
    ap (λ (k : ℕ). filled at k (p ++ (marked_from f i ws ++ zs))) (sym (length-marked-from f i ws))
    ∙ filled-middle at p (marked_from f i ws) zs there
    ∙ ap (λ (vs : List ℕ). p ++ (vs ++ zs)) (fill-same f i ws h)
    ∙ sym (append_assoc p (map or_false ws) zs)

or-false-same : (vs : List ℕ) → Each (λ v. v ≡ 0 → ⊥) vs → map or_false vs ≡ vs
or-false-same [] h = refl
or-false-same (v ∷ vs) h = rw (ne_eqb v 0 h.0, or-false-same vs h.1)

-- where no action is 0, these are the values themselves
pub actions-valued : (n m k : ℕ) (vs : List ℕ) → ActionsValued n m k vs → actions_or_false n m k vs ≡ vs
actions-valued n m zero vs h = refl
actions-valued n m (suc k) vs h =
    let ys = drop n vs in
    let acts = take m ys in
    let zs = drop m ys in
    let here : Each (λ v. v ≡ 0 → ⊥) acts = (each_at (λ v. v ≡ 0 → ⊥) 0 acts).1
    (λ i b.
    let inside : i < m = omega (arith, length-take m ys) in
    let atom : n + i ≡ 0 * (n + m) + n + i = omega arith in
    rw (get_or-take m ys i 0 inside, get_or-drop n vs i 0, atom) (h 0 i (omega arith) inside)) in
    let behind : ActionsValued n m k zs =
    λ t i early inside.
    let atom : n + (m + (t * (n + m) + n + i)) ≡ suc t * (n + m) + n + i = omega arith in
    rw (get_or-drop m ys (t * (n + m) + n + i) 0, get_or-drop n vs (m + (t * (n + m) + n + i)) 0, atom)
    (h (suc t) i (omega arith) inside) in
    rw (or-false-same acts here, actions-valued n m k zs behind, take-append-drop m ys) (take-append-drop n vs)

-- the codes are of the values' places, at most two each
codes-at-in : (i high : ℕ) → i < high → (b : Bool) (v : ℕ) → v ≤ 3 → CodesIn i high (listed_at b i v) × (length (listed_at b i v) ≤ 2)
codes-at-in i high h =
    let even : (i ≤ (2 * i) / 2) × (2 * i < 2 * high) = omega arith in
    let odd : (i ≤ (2 * i + 1) / 2) × (2 * i + 1 < 2 * high) = omega arith in
    by-listed (λ b v. CodesIn i high (listed_at b i v) × (length (listed_at b i v) ≤ 2)) (λ b. (tt, omega arith))
    (λ b. ((even, tt), omega arith))
    ((odd, tt), omega arith) (tt, omega arith) (λ b. ((even, (odd, tt)), omega arith))

pub codes-from-in : (f : ℕ → Bool) (i high : ℕ) (ws : List ℕ) → i + length ws ≤ high → Values ws
    → CodesIn i high (codes_from f i ws) × (length (codes_from f i ws) ≤ 2 * length ws)
codes-from-in f i high [] h small = (tt, omega arith)
codes-from-in f i high (w ∷ ws) h small =
    let here = codes-at-in i high (omega arith) (f i) w small.0 in
    let rest = codes-from-in f (suc i) high ws (omega arith) small.1 in (
      (each_append _ (listed_at (f i) i w) (codes_from f (suc i) ws)).1
          (here.0, each_map (λ c b. (omega (arith, b.0), b.1)) (codes_from f (suc i) ws) rest.0),
      omega (arith, here.1, rest.1, length-append (listed_at (f i) i w) (codes_from f (suc i) ws)),
    )
