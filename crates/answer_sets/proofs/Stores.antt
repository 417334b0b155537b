-- The marks of value bytes, filled atom by atom: two bits for each, which are the value's own.
-- Assumes nothing.
use mathlib.Core.Path.{◌≡◌, refl, ◌∙◌, fun_ext}
use mathlib.Core.Bool.{Bool, true, false, cond, ◌&&◌, ◌||◌, or-false}
use mathlib.Core.List.{List}
use mathlib.Core.Logic.{◌≢◌}
use Prim.Native.Nat.{ℕ, zero, suc, ◌+◌, ◌-◌, ◌*◌, ◌/◌, ◌%◌, ◌^◌, ◌≤◌, ◌<◌}
use native.Mathlib.Nat.{mul_assoc, div-eq_of_lt, pow-suc}
use native.Mathlib.Omega.{arith}
use borrow.Author.Tests.{ltb-true, ltb-false, lt-ltb, le-ltb, eqb-true, eqb-false, ne_eqb}
use lib.Bits.{bit_or, or_comm}
use lib.Dec.{eqb, ltb}
use lib.ListN.{length, get_or, set, replicate}
use lib.Pow.{pow-add, pow_mono, shl_exact, shl-shr, shr-shr}
use lib.Seq.{get_or-set_same, get_or-set_other}
use Rattle.logic_programs.specs.Literals.{set_of, holds_true, holds_false}
use Rattle.literal_sets.specs.Marks.{bit, marked}
use Rattle.literal_sets.proofs.Bits.{bit-or, in-clear}
use Rattle.literal_sets.proofs.Lookups.{set_of-past}

-- bits of a number that is shifted up

bit_below : (v j k : ℕ) → k < j → bit (v * 2 ^ j) k ≡ false
bit_below v j k h =
    let m = j - suc k in
    let e : j ≡ suc m + k = omega arith in
    rw (e, pow-add 2 (suc m) k, ← mul_assoc v (2 ^ suc m) (2 ^ k), shl-shr (v * 2 ^ suc m) k, even m)
  where
    even : (m : ℕ) → v * 2 ^ suc m % 2 ≡ 0
    even m = rw (pow-suc 2 m, ← mul_assoc v (2 ^ m) 2) (omega arith)

bit-from : (v j i : ℕ) → bit (v * 2 ^ j) (j + i) ≡ bit v i
bit-from v j i = rw (← shr-shr (v * 2 ^ j) j i, shl-shr v j)

-- of a value: the lower bit says whether it holds true, the upper one whether it holds false, and there are no others
module _ (v : ℕ) (low : v < 4) where
  two-bits : (bit v 0 ≡ holds_true v) × (bit v 1 ≡ holds_false v)
  unfolding holds_true holds_false
  two-bits = go v low
    where
      go : (u : ℕ) → u < 4 → (bit u 0 ≡ (eqb u 1 || eqb u 3)) × (bit u 1 ≡ (eqb u 2 || eqb u 3))
      go zero h = (refl, refl)
      go (suc zero) h = (refl, refl)
      go (suc (suc zero)) h = (refl, refl)
      go (suc (suc (suc zero))) h = (refl, refl)
      go (suc (suc (suc (suc u)))) h = absurd (omega arith)

  no-bit : (i : ℕ) → bit v (2 + i) ≡ false
  no-bit i = let small : v < 2 ^ (2 + i) = omega (arith, pow_mono {i = 2} {j = 2 + i} (omega arith)) in rw (div-eq_of_lt small)

-- the words with the bits of atom a's value v, as the machine stores them
abbrev pub with_value : List ℕ → ℕ → ℕ → List ℕ
with_value ws a v = set ws (a / 32) (bit_or (get_or ws (a / 32) 0) ((v * 2 ^ (2 * (a % 32))) % 2 ^ 64))

abbrev valued : ℕ → ℕ → Bool
valued v c = cond (eqb (c % 2) 0) (holds_true v) (holds_false v)

module _ (ws : List ℕ) (a v : ℕ) (low : v < 4) (c : ℕ) where
  abbrev j : ℕ
  j = 2 * (a % 32)

  -- in the word of atom a
  own-bit : c / 64 ≡ a / 32 → bit (v * 2 ^ j) (c % 64) ≡ (eqb (c / 2) a && valued v c)
  own-bit q = go (eqb (c / 2) a) refl
    where
      at : (i : ℕ) → c % 64 ≡ j + i → bit (v * 2 ^ j) (c % 64) ≡ bit v i
      at i e = rw e (bit-from v j i)

      same : (b : Bool) → eqb (c % 2) 0 ≡ b → c / 2 ≡ a → bit (v * 2 ^ j) (c % 64) ≡ cond b (holds_true v) (holds_false v)
      same true t e = let z : c % 2 ≡ 0 = eqb-true (c % 2) 0 t in at 0 (omega arith) ∙ (two-bits v low).0
      same false f e = let z : c % 2 ≢ 0 = eqb-false (c % 2) 0 f in at 1 (omega arith) ∙ (two-bits v low).1

      other : c / 2 ≢ a → (b : Bool) → ltb (c % 64) j ≡ b → bit (v * 2 ^ j) (c % 64) ≡ false
      other n true t = bit_below v j (c % 64) (ltb-true (c % 64) j t)
      other n false f = let h = ltb-false (c % 64) j f in at (2 + (c % 64 - j - 2)) (omega arith) ∙ no-bit v low (c % 64 - j - 2)

      go : (b : Bool) → eqb (c / 2) a ≡ b → bit (v * 2 ^ j) (c % 64) ≡ (eqb (c / 2) a && valued v c)
      go true t = rw t (same (eqb (c % 2) 0) refl (eqb-true (c / 2) a t))
      go false f = rw f (other (eqb-false (c / 2) a f) (ltb (c % 64) j) refl)

  in-valued : a / 32 < length ws → marked (with_value ws a v) c ≡ ((eqb (c / 2) a && valued v c) || marked ws c)
  unfolding marked
  in-valued h = go (eqb (c / 64) (a / 32)) refl
    where
      exact : (v * 2 ^ j) % 2 ^ 64 ≡ v * 2 ^ j
      exact = shl_exact {a = v} 2 j 64 low (omega arith)

      go : (b : Bool) → eqb (c / 64) (a / 32) ≡ b → marked (with_value ws a v) c ≡ ((eqb (c / 2) a && valued v c) || marked ws c)
      go true t =
          let q : c / 64 ≡ a / 32 = eqb-true (c / 64) (a / 32) t in
          let w = get_or ws (a / 32) 0 in
          rw (
            q,
            get_or-set_same ws (a / 32) (bit_or w ((v * 2 ^ j) % 2 ^ 64)) 0 h,
            exact,
            or_comm w (v * 2 ^ j),
            bit-or (v * 2 ^ j) w (c % 64),
            own-bit q,
          )
      go false f =
          let n : c / 64 ≢ a / 32 = eqb-false (c / 64) (a / 32) f in
          rw (
            get_or-set_other ws (a / 32) (c / 64) (bit_or (get_or ws (a / 32) 0) ((v * 2 ^ j) % 2 ^ 64)) 0 n,
            ne_eqb (c / 2) a (λ r. n (omega arith)),
          )

pub fill_start : (vs marks : List ℕ) → marks ≡ replicate 32 0 → (c : ℕ) → marked marks c ≡ (ltb c 0 && set_of vs c)
fill_start vs marks e c = rw (e, in-clear 32 c, le-ltb c 0 (omega arith))

-- the literals of the next atom are marked, and the others stay as they are
pub fill_step : (vs marks : List ℕ) (a : ℕ) → get_or vs a 0 < 4 → a / 32 < length marks
    → ((c : ℕ) → marked marks c ≡ (ltb c (2 * a) && set_of vs c))
    → (c : ℕ) → marked (with_value marks a (get_or vs a 0)) c ≡ (ltb c (2 * (a + 1)) && set_of vs c)
unfolding set_of
fill_step vs marks a low h inv c = in-valued marks a (get_or vs a 0) low c h ∙ go (eqb (c / 2) a) refl
  where
    below : (b : Bool) → ltb c (2 * a) ≡ b → c / 2 ≢ a → ltb c (2 * (a + 1)) ≡ b
    below true e n = lt-ltb c (2 * (a + 1)) (omega (arith, ltb-true c (2 * a) e))
    below false e n = le-ltb c (2 * (a + 1)) (omega (arith, ltb-false c (2 * a) e))

    go : (b : Bool) → eqb (c / 2) a ≡ b
        → ((eqb (c / 2) a && valued (get_or vs a 0) c) || marked marks c) ≡ (ltb c (2 * (a + 1)) && set_of vs c)
    go true t =
        let q : c / 2 ≡ a = eqb-true (c / 2) a t in
        rw (t, inv c, le-ltb c (2 * a) (omega arith), lt-ltb c (2 * (a + 1)) (omega arith), q) (or-false (valued (get_or vs a 0) c))
    go false f = rw (f, inv c, below (ltb c (2 * a)) refl (eqb-false (c / 2) a f))

pub fill_done : (vs : List ℕ) (a : ℕ) (marks : List ℕ) → length vs ≤ a
    → ((c : ℕ) → marked marks c ≡ (ltb c (2 * a) && set_of vs c)) → marked marks ≡ set_of vs
fill_done vs a marks h inv = fun_ext (λ c. inv c ∙ whole c (ltb c (2 * a)) refl)
  where
    whole : (c : ℕ) (b : Bool) → ltb c (2 * a) ≡ b → (ltb c (2 * a) && set_of vs c) ≡ set_of vs c
    whole c true e = rw e
    whole c false e =
        let past : length vs ≤ c / 2 = omega (arith, ltb-false c (2 * a) e) in
        rw (e, set_of-past vs c past)
