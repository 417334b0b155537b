-- Where the first rule of a table is that does not fit, in steps; and when a rule fits.
-- Assumes nothing.
use mathlib.Core.Path.{◌≡◌, refl, ap}
use mathlib.Core.Logic.{◌↔◌}
use mathlib.Core.Bool.{true, cond, ◌&&◌}
use mathlib.Core.List.{List, [], ◌∷◌}
use mathlib.Core.Option.{Option, none, some}
use Prim.Native.Nat.{ℕ, zero, suc, ◌+◌, ◌*◌, ◌≤◌, ◌<◌}
use native.Mathlib.Omega.{arith}
use borrow.Author.Tests.{ltb-true, lt-ltb, leb-true, le-leb}
use lib.Dec.{ltb, leb}
use lib.ListN.{length, get_or, take, drop, length-drop}
use Rattle.basics.specs.Search.{Each}
use Rattle.basics.proofs.Tests.{and₃-iff, each_map, all-each}
use Rattle.logic_programs.specs.Words.{rule_size, head_fits, parts_fit, rule_fits, bad_rule_in, bad_rule}

-- the words after the first rule
abbrev pub after_rule : List ℕ → List ℕ
after_rule ws = drop (rule_size ws) ws

pub fewer : (w : ℕ) (ws : List ℕ) (k : ℕ) → length (w ∷ ws) ≤ suc k → length (after_rule (w ∷ ws)) ≤ k
fewer w ws k h = omega (arith, length-drop (rule_size (w ∷ ws)) (w ∷ ws))

-- Any fuel is enough that is not less than the words

bad_rule_in-same : (n f g k at : ℕ) (ws : List ℕ) → length ws ≤ f → length ws ≤ g → bad_rule_in f n k at ws ≡ bad_rule_in g n k at ws
bad_rule_in-same n zero zero k at ws p q = refl
bad_rule_in-same n zero (suc g) k at [] p q = refl
bad_rule_in-same n zero (suc g) k at (w ∷ ws) p q = absurd (omega arith)
bad_rule_in-same n (suc f) zero k at [] p q = refl
bad_rule_in-same n (suc f) zero k at (w ∷ ws) p q = absurd (omega arith)
bad_rule_in-same n (suc f) (suc g) k at [] p q = refl
bad_rule_in-same n (suc f) (suc g) k at (w ∷ ws) p q =
    ap {B = Option ℕ} (λ o. cond (ltb k 4096 && rule_fits n (w ∷ ws)) o (some at))
    (bad_rule_in-same n f g (suc k) (at + rule_size (w ∷ ws)) (after_rule (w ∷ ws)) (fewer w ws f p) (fewer w ws g q))

pub bad_rule_in-enough : (f n k at : ℕ) (ws : List ℕ) → length ws ≤ f → bad_rule_in f n k at ws ≡ bad_rule_in (length ws) n k at ws
bad_rule_in-enough f n k at ws h = bad_rule_in-same n f (length ws) k at ws h (omega arith)

unfoldable pub bad_rule_from : ℕ → ℕ → ℕ → List ℕ → Option ℕ
bad_rule_from n k at ws = bad_rule_in (length ws) n k at ws

pub bad_rule_from-cons : (n k at w : ℕ) (ws : List ℕ) → bad_rule_from n k at (w ∷ ws)
    ≡ cond (ltb k 4096 && rule_fits n (w ∷ ws))
    (bad_rule_from n (suc k) (at + rule_size (w ∷ ws)) (drop (rule_size (w ∷ ws)) (w ∷ ws)))
    (some at)
unfolding bad_rule_from
bad_rule_from-cons n k at w ws =
    ap {B = Option ℕ} (λ o. cond (ltb k 4096 && rule_fits n (w ∷ ws)) o (some at))
    (bad_rule_in-enough (length ws) n (suc k) (at + rule_size (w ∷ ws)) (after_rule (w ∷ ws)) (fewer w ws (length ws) (omega arith)))

pub bad_rule_from-nil : (n k at : ℕ) → bad_rule_from n k at [] ≡ none
unfolding bad_rule_from
bad_rule_from-nil n k at = refl

pub bad_rule-from : (n : ℕ) (ws : List ℕ) → bad_rule n ws ≡ bad_rule_from n 0 0 ws
unfolding bad_rule bad_rule_from
bad_rule-from n ws = refl

parts_fit-iff : (n : ℕ) (cs : List ℕ) → parts_fit n cs ≡ true ↔ Each (λ c. c < 2 * n) cs
parts_fit-iff n cs = (
  λ e. each_map (λ c t. ltb-true c (2 * n) t) cs ((all-each (λ c. ltb c (2 * n)) cs).0 e),
  λ h. (all-each (λ c. ltb c (2 * n)) cs).1 (each_map (λ c b. lt-ltb c (2 * n) b) cs h),
)

-- a rule fits: it does not run past the end, its head is in range, and so are its parts
pub rule_fits-iff : (n : ℕ) (ws : List ℕ) → rule_fits n ws ≡ true
    ↔ ((rule_size ws ≤ length ws) × (head_fits n (get_or ws 0 0) ≡ true)
    × Each (λ c. c < 2 * n) (take (get_or ws 1 0 + get_or ws 2 0) (drop 3 ws)))
rule_fits-iff n ws = (
  λ e. let h = both.0 e in (leb-true _ _ h.0, h.1, (parts_fit-iff n parts).0 h.2),
  λ h. both.1 (le-leb _ _ h.0, h.1, (parts_fit-iff n parts).1 h.2),
)
  where
    parts : List ℕ
    parts = take (get_or ws 1 0 + get_or ws 2 0) (drop 3 ws)

    both : rule_fits n ws ≡ true
        ↔ ((leb (rule_size ws) (length ws) ≡ true) × (head_fits n (get_or ws 0 0) ≡ true) × (parts_fit n parts ≡ true))
    both = and₃-iff (leb (rule_size ws) (length ws)) (head_fits n (get_or ws 0 0)) (parts_fit n parts)
