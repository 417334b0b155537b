-- The rule at the front of a run of words: what the parts that the code takes of it are, and what is left behind it.
-- Assumes nothing.
use mathlib.Core.Path.{◌≡◌, refl, sym, ◌∙◌, ap}
use mathlib.Core.Bool.{Bool, true, false, cond, not, ◌&&◌, and-false}
use mathlib.Core.List.{List, [], ◌∷◌}
use mathlib.Core.Option.{Option, none, some}
use Prim.Native.Nat.{ℕ, suc, ◌+◌, ◌-◌, ◌*◌, ◌/◌, ◌≤◌, ◌<◌}
use native.Mathlib.Numerals.{add-one}
use native.Mathlib.Omega.{arith}
use borrow.Author.Tests.{lt-leb, le-leb, not-true, not-false, ltb-true, ltb-false, lt-ltb, le-ltb, eqb-true, eqb-false}
use lib.Dec.{eqb, ltb}
use lib.ListN.{length, take, drop, length-drop}
use Rattle.basics.specs.Search.{all}
use Rattle.basics.proofs.Loops.{to_the_end}
use Rattle.logic_programs.specs.Literals.{Lits}
use Rattle.logic_programs.specs.Words.{rule_size, rule_at, rule_fits}
use Rattle.rule_tables.specs.Bodies.{applies, front_negated, front_plain, front_applies}
use Rattle.rule_tables.proofs.Fitting.{bad_rule_from, bad_rule_from-cons, bad_rule_from-nil, rule_fits-iff}

-- of a rule that runs past the end the code takes no parts, and of a whole one its own
module _ (ws : List ℕ) where
  pub negated-short : length ws < rule_size ws → [] ≡ front_negated ws
  unfolding front_negated
  negated-short h = rw (lt-leb (rule_size ws) (length ws) h)

  pub plain-short : length ws < rule_size ws → [] ≡ front_plain ws
  unfolding front_plain
  plain-short h = rw (lt-leb (rule_size ws) (length ws) h)

  pub negated-whole : rule_size ws ≤ length ws → (rule_at ws).negated ≡ front_negated ws
  unfolding front_negated
  negated-whole h = rw (le-leb (rule_size ws) (length ws) h)

  pub plain-whole : rule_size ws ≤ length ws → (rule_at ws).plain ≡ front_plain ws
  unfolding front_plain
  plain-whole h = rw (le-leb (rule_size ws) (length ws) h)

-- a rule that runs past the end does not apply; of a whole one, its body decides
module _ (X Y : Lits) (ws : List ℕ) where
  pub applies-short : length ws < rule_size ws → false ≡ front_applies X Y ws
  unfolding front_applies
  applies-short h = rw (lt-leb (rule_size ws) (length ws) h)

  pub whole-applies : {r : Bool} → rule_size ws ≤ length ws → r ≡ front_applies X Y ws → r ≡ applies X Y (rule_at ws)
  unfolding front_applies
  whole-applies h e = rw (le-leb (rule_size ws) (length ws) h) at e

-- a rule applies: first its negated parts are looked at, then its plain ones
module _ (X Y : Lits) (ws : List ℕ) (r : Bool) (is : r ≡ all (λ c. not (X c)) (rule_at ws).negated) where
  pub applies-stop : rule_size ws ≤ length ws → r ≡ false → r ≡ front_applies X Y ws
  unfolding front_applies
  applies-stop h e = rw (le-leb (rule_size ws) (length ws) h, ← is, e)

  pub applies-go : (q : Bool) → rule_size ws ≤ length ws → r ≡ true → q ≡ all Y (rule_at ws).plain → q ≡ front_applies X Y ws
  unfolding front_applies
  applies-go q h e plain = rw (le-leb (rule_size ws) (length ws) h, ← is, e) plain

-- a code is below 2 × atoms where its atom is below atoms
pub half-below : (c n : ℕ) → ltb (c / 2) n ≡ ltb c (2 * n)
half-below c n = go (ltb (c / 2) n) refl
  where
    go : (b : Bool) → ltb (c / 2) n ≡ b → b ≡ ltb c (2 * n)
    go true t = sym (lt-ltb c (2 * n) (omega (arith, ltb-true (c / 2) n t)))
    go false f = sym (le-ltb c (2 * n) (omega (arith, ltb-false (c / 2) n f)))

-- the search for the first rule that does not fit
pub bad-front : (n k at : ℕ) (ws : List ℕ) → 0 < length ws → bad_rule_from n k at ws
    ≡ cond (ltb k 4096 && rule_fits n ws) (bad_rule_from n (suc k) (at + rule_size ws) (drop (rule_size ws) ws)) (some at)
bad-front n k at [] h = absurd (omega arith)
bad-front n k at (w ∷ ws) h = bad_rule_from-cons n k at w ws

module _ (n k at : ℕ) (ws : List ℕ) {R : Option ℕ} where
  pub bad-many : 0 < length ws → bad_rule_from n k at ws ≡ R → 4096 ≤ k → some at ≡ R
  bad-many h inv many = rw (bad-front n k at ws h, le-ltb k 4096 many) at inv

  pub bad-stop : (r : Bool) → 0 < length ws → bad_rule_from n k at ws ≡ R → r ≡ rule_fits n ws → not r ≡ true → some at ≡ R
  bad-stop r h inv is e = rw (bad-front n k at ws h, ← is, not-true r e, and-false (ltb k 4096)) at inv

  pub bad-go : (r : Bool) (size : ℕ) → size ≡ rule_size ws → 0 < length ws → bad_rule_from n k at ws ≡ R → k < 4096 → r ≡ rule_fits n ws
      → not r ≡ false → bad_rule_from n (k + 1) (at + size) (drop (rule_size ws) ws) ≡ R
  bad-go r size s h inv few is e =
      rw (add-one k, s) (rw (bad-front n k at ws h, lt-ltb k 4096 few, ← is, not-false r e) at inv)

  pub bad-end : length ws ≤ 0 → bad_rule_from n k at ws ≡ R → none ≡ R
  bad-end h inv = done ws h inv
    where
      done : (l : List ℕ) → length l ≤ 0 → bad_rule_from n k at l ≡ R → none ≡ R
      done [] b e = rw (bad_rule_from-nil n k at) at e
      done (x ∷ xs) b e = absurd (omega arith)

pub fits-size : (n : ℕ) (ws : List ℕ) (r : Bool) → r ≡ rule_fits n ws → not r ≡ false → rule_size ws ≤ length ws
fits-size n ws r is e = ((rule_fits-iff n ws).0 (sym is ∙ not-false r e)).0

-- what the code takes to be left behind the rule at the front
pub left_behind : (ws : List ℕ) (size : ℕ) → size ≡ rule_size ws → take (length ws - size) (drop size ws) ≡ drop (rule_size ws) ws
left_behind ws size e = to_the_end size ws ∙ ap (λ (k : ℕ). drop k ws) e

-- words are left, or none are
pub some_left : {r : Bool} (ws : List ℕ) → r ≡ eqb (length ws) 0 → r ≡ false → 0 < length ws
some_left ws is e = let n = eqb-false (length ws) 0 (sym is ∙ e) in omega (arith, n)

pub none-left : {r : Bool} (ws : List ℕ) → r ≡ eqb (length ws) 0 → r ≡ true → length ws ≤ 0
none-left ws is e = let n = eqb-true (length ws) 0 (sym is ∙ e) in omega (arith, n)

pub shorter : (ws : List ℕ) → 0 < length ws → length (drop (rule_size ws) ws) < length ws
shorter ws h = omega (arith, length-drop (rule_size ws) ws)
