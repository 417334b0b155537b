-- Bits of words: of zero, of a power of two, of an or; and sets of words after a store.
-- Assumes nothing.
use mathlib.Core.Path.{◌≡◌, refl, sym, ◌∙◌, ap}
use mathlib.Core.Bool.{Bool, true, false, ◌||◌}
use mathlib.Core.List.{List}
use mathlib.Core.Logic.{◌≢◌}
use Prim.Native.Nat.{ℕ, zero, suc, ◌+◌, ◌-◌, ◌*◌, ◌/◌, ◌%◌, ◌^◌, ◌<◌, max, ◌≤◌}
use native.Mathlib.Nat.{zero-div, div-eq_of_lt, div_self, pow-suc, one-mul}
use native.Mathlib.Omega.{arith}
use borrow.Author.Tests.{eqb-true, eqb-false, eq-eqb, ne_eqb, ltb-true, ltb-false}
use lib.Bits.{bit_or, or_step, or_shr, or_comm}
use lib.Dec.{eqb, ltb, lit<}
use lib.ListN.{length, get_or, set, replicate, length-set, get_or-eq_default}
use lib.Pow.{pow_pos, pow-lt, pow-add, shl_exact, shl-shr}
use lib.Seq.{get_or-set_same, get_or-set_other}
use Rattle.literal_sets.specs.Marks.{bit, marked}

pub bit-zero : (k : ℕ) → bit 0 k ≡ false
bit-zero k = rw (zero-div (2 ^ k))

-- a bit of an or

either : (x y : ℕ) → x < 2 → y < 2 → eqb (max x y) 1 ≡ (eqb x 1 || eqb y 1)
either zero zero h l = refl
either zero (suc zero) h l = refl
either zero (suc (suc y)) h l = absurd (omega arith)
either (suc zero) zero h l = refl
either (suc zero) (suc zero) h l = refl
either (suc zero) (suc (suc y)) h l = absurd (omega arith)
either (suc (suc x)) y h l = absurd (omega arith)

or-odd : (a b : ℕ) → bit_or a b % 2 ≡ max (a % 2) (b % 2)
or-odd a b = omega (arith, or_step a b)

pub bit-or : (a b k : ℕ) → bit (bit_or a b) k ≡ (bit a k || bit b k)
bit-or a b k = rw (or_shr a b k, or-odd (a / 2 ^ k) (b / 2 ^ k)) (either (a / 2 ^ k % 2) (b / 2 ^ k % 2) (omega arith) (omega arith))

-- a bit of a power of two

pow_even : (j k : ℕ) → k < j → 2 ^ j / 2 ^ k % 2 ≡ 0
pow_even j k h =
    let e : j ≡ suc (j - suc k) + k = omega arith in
    rw (e, pow-add 2 (suc (j - suc k)) k, shl-shr (2 ^ suc (j - suc k)) k, pow-suc 2 (j - suc k)) (omega arith)

pub bit-pow : (j k : ℕ) → bit (2 ^ j) k ≡ eqb k j
bit-pow j k = go (eqb k j) refl
  where
    off : k ≢ j → (b : Bool) → ltb k j ≡ b → 2 ^ j / 2 ^ k % 2 ≡ 0
    off n true e = pow_even j k (ltb-true k j e)
    off n false e = rw (div-eq_of_lt (pow-lt {i = j} {j = k} (omega (arith, ltb-false k j e))))

    go : (b : Bool) → eqb k j ≡ b → bit (2 ^ j) k ≡ eqb k j
    go true e = rw (e, eqb-true k j e, div_self (pow_pos j))
    go false e = rw (e, off (eqb-false k j e) (ltb k j) refl)

-- the power that the machine has for a shift of one
pub one_shl : (k : ℕ) → k < 64 → (1 * 2 ^ k) % 2 ^ 64 ≡ 2 ^ k
one_shl k h = shl_exact {a = 1} 1 k 64 (lit< tt) (omega arith) ∙ one-mul (2 ^ k)

-- sets of words

zeros : (n i : ℕ) → ◌≡◌ {A = ℕ} (get_or (replicate n 0) i 0) 0
zeros zero i = refl
zeros (suc n) zero = refl
zeros (suc n) (suc i) = zeros n i

pub in-clear : (n c : ℕ) → marked (replicate n 0) c ≡ false
unfolding marked
in-clear n c = rw (zeros n (c / 64)) (bit-zero (c % 64))

-- a word with bit k set, as the machine has it
abbrev pub with_bit : ℕ → ℕ → ℕ
with_bit w k = bit_or w ((1 * 2 ^ k) % 2 ^ 64)

pub bit-with : (w j k : ℕ) → j < 64 → bit (with_bit w j) k ≡ (eqb k j || bit w k)
bit-with w j k h = rw (one_shl j h, or_comm w (2 ^ j), bit-or (2 ^ j) w k, bit-pow j k)

-- the words with mark `code` set, as the machine stores it
abbrev pub with_mark : List ℕ → ℕ → List ℕ
with_mark ws code = set ws (code / 64) (with_bit (get_or ws (code / 64) 0) (code % 64))

pub in-stored : (ws : List ℕ) (code : ℕ) → code / 64 < length ws → (d : ℕ) → marked (with_mark ws code) d ≡ (eqb code d || marked ws d)
unfolding marked
in-stored ws code h d = go (eqb (d / 64) (code / 64)) refl
  where
    code_of : d / 64 ≡ code / 64 → (b : Bool) → eqb code d ≡ b → eqb (d % 64) (code % 64) ≡ b
    code_of q true e = eq-eqb (d % 64) (code % 64) (ap (λ (x : ℕ). x % 64) (sym (eqb-true code d e)))
    code_of q false e = ne_eqb (d % 64) (code % 64) (λ r. eqb-false code d e (omega arith))

    go : (b : Bool) → eqb (d / 64) (code / 64) ≡ b → marked (with_mark ws code) d ≡ (eqb code d || marked ws d)
    go true e =
        let q : d / 64 ≡ code / 64 = eqb-true (d / 64) (code / 64) e in
        rw (
          q,
          get_or-set_same ws (code / 64) (with_bit (get_or ws (code / 64) 0) (code % 64)) 0 h,
          bit-with (get_or ws (code / 64) 0) (code % 64) (d % 64) (omega arith),
          code_of q (eqb code d) refl,
        )
    go false e =
        let n : d / 64 ≢ code / 64 = eqb-false (d / 64) (code / 64) e in
        rw (
          get_or-set_other ws (code / 64) (d / 64) (with_bit (get_or ws (code / 64) 0) (code % 64)) 0 n,
          ne_eqb code d (λ r. n (ap (λ (x : ℕ). x / 64) (sym r))),
        )

pub length-with : (ws : List ℕ) (code : ℕ) → length (with_mark ws code) ≡ length ws
length-with ws code = length-set ws (code / 64) (with_bit (get_or ws (code / 64) 0) (code % 64))

-- no literal past the last word is in the set
pub in-past : (ws : List ℕ) (c : ℕ) → length ws ≤ c / 64 → marked ws c ≡ false
unfolding marked
in-past ws c h = rw (get_or-eq_default ws 0 h) (bit-zero (c % 64))
