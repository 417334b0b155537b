-- The values of the halves of a history, and of two histories joined: how many they are, that each has one value, where they lie,
-- and that cutting and joining undo each other.
-- Assumes nothing.
use mathlib.Core.Path.{◌≡◌, sym, ap, ◌∙◌}
use mathlib.Core.List.{List, ◌++◌}
use Prim.Native.Nat.{ℕ, ◌+◌, ◌-◌, ◌*◌}
use native.Mathlib.Omega.{arith}
use native.Mathlib.Nat.{add-mul, zero-add, zero-mul}
use lib.ListN.{length, take, drop, get_or, length-append, length-take, length-drop, take-append-drop}
use lib.Seq.{get_or-take, get_or-drop, drop-drop, take-add, take-append_seam, drop-append_seam, drop-append-le}
use Rattle.basics.specs.Search.{Each}
use Rattle.basics.proofs.Tests.{each_append}
use Rattle.action_language.specs.Atoms.{atom_count}
use Rattle.cut_and_join.specs.Halves.{first_steps, later_steps, last_state, first_state, joined}
use Rattle.cut_and_join.specs.CutAndJoin.{EachUndoesTheOther}
use Rattle.cut_and_join.proofs.Within.{Within}

-- the parts of a list have what its elements have
parts : {A : Type 0} (P : A → Type 0) (k : ℕ) (xs : List A) → Each P xs → Each P (take k xs) × Each P (drop k xs)
parts P k xs each = (each_append P (take k xs) (drop k xs)).0 (rw (take-append-drop k xs) each)

module _ (n m : ℕ) where
  -- A history of k + r steps, cut after k

  module _ (vs : List ℕ) (k r : ℕ) (size : length vs ≡ atom_count n m (k + r)) where
    long : length vs ≡ k * (n + m) + (r * (n + m) + n)
    long = size ∙ rw (add-mul k r (n + m)) (omega arith)

    pub first-size : length (first_steps n m k vs) ≡ atom_count n m k
    first-size = omega (arith, length-take (k * (n + m) + n) vs, long)

    pub later-size : length (later_steps n m k vs) ≡ atom_count n m r
    later-size = omega (arith, length-drop (k * (n + m)) vs, long)

    -- the state at time k ends the one half and begins the other
    halves-meet : last_state n (first_steps n m k vs) ≡ first_state n (later_steps n m k vs)
    halves-meet =
        ap (λ (xs : List ℕ). drop (length (first_steps n m k vs) - n) xs) (take-add (k * (n + m)) n vs)
        ∙ ap (λ (i : ℕ). drop i (take (k * (n + m)) vs ++ take n (drop (k * (n + m)) vs))) place
        ∙ drop-append_seam (take (k * (n + m)) vs) (take n (drop (k * (n + m)) vs))
      where
        place : length (first_steps n m k vs) - n ≡ length (take (k * (n + m)) vs)
        place = omega (arith, first-size, length-take (k * (n + m)) vs, long)

  module _ (P : ℕ → Type 0) (vs : List ℕ) (k : ℕ) (each : Each P vs) where
    pub first-each : Each P (first_steps n m k vs)
    first-each = (parts P (k * (n + m) + n) vs each).0

    pub later-each : Each P (later_steps n m k vs)
    later-each = (parts P (k * (n + m)) vs each).1

  -- where the halves lie
  pub first-within : (vs : List ℕ) (k : ℕ) → Within n m 0 k vs (first_steps n m k vs)
  first-within vs k i b =
      ap (λ (j : ℕ). get_or vs j 0) (rw (zero-mul (n + m)) (zero-add i)) ∙ sym (get_or-take (k * (n + m) + n) vs i 0 b)

  pub later-within : (vs : List ℕ) (k r : ℕ) → Within n m k r vs (later_steps n m k vs)
  later-within vs k r i b = sym (get_or-drop (k * (n + m)) vs i 0)

  joined-again : (vs : List ℕ) (k : ℕ) → joined n (first_steps n m k vs) (later_steps n m k vs) ≡ vs
  joined-again vs k =
      ap (λ (rest : List ℕ). take (k * (n + m) + n) vs ++ rest) (drop-drop n (k * (n + m)) vs) ∙ take-append-drop (k * (n + m) + n) vs

  -- A history of j steps, joined with one of k

  module _ (vs ws : List ℕ) (j k : ℕ) (size : length vs ≡ atom_count n m j) (size' : length ws ≡ atom_count n m k) where
    pub joined-size : length (joined n vs ws) ≡ atom_count n m (j + k)
    joined-size = rw (add-mul j k (n + m)) (omega (arith, length-append vs (drop n ws), length-drop n ws, size, size'))

    first-of-join : first_steps n m j (joined n vs ws) ≡ vs
    first-of-join = ap (λ (i : ℕ). take i (joined n vs ws)) (sym size) ∙ take-append_seam vs (drop n ws)

    later-of-join : last_state n vs ≡ first_state n ws → later_steps n m j (joined n vs ws) ≡ ws
    later-of-join same =
        drop-append-le (j * (n + m)) vs (drop n ws) (omega (arith, size))
        ∙ ap (λ (xs : List ℕ). xs ++ drop n ws) (ap (λ (i : ℕ). drop i vs) place ∙ same)
        ∙ take-append-drop n ws
      where
        place : j * (n + m) ≡ length vs - n
        place = omega (arith, size)

    pub join-begins : Within n m 0 j (joined n vs ws) vs
    join-begins = rw first-of-join at (first-within (joined n vs ws) j)

    pub join-goes-on : last_state n vs ≡ first_state n ws → Within n m j k (joined n vs ws) ws
    join-goes-on same = rw (later-of-join same) at (later-within (joined n vs ws) j k)

  pub joined-each : (P : ℕ → Type 0) (vs ws : List ℕ) → Each P vs → Each P ws → Each P (joined n vs ws)
  joined-each P vs ws first second = (each_append P vs (drop n ws)).1 (first, (parts P n ws second).1)

  pub each-undoes-the-other : EachUndoesTheOther n m
  each-undoes-the-other = record {
    halves-meet = λ vs T k size b. let e : T ≡ k + (T - k) = omega arith in halves-meet vs k (T - k) (rw e at size);
    joined-again = joined-again;
    cut_again = λ vs ws j k size size' same. (first-of-join vs ws j k size size', later-of-join vs ws j k size size' same);
  }
