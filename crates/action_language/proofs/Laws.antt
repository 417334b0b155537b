-- What acceptance gives: the limits of the counts, of each law's codes and lists, and of the horizon.
-- Assumes nothing.
use mathlib.Core.Path.{◌≡◌, refl}
use mathlib.Core.Bool.{Bool, true, false, cond, not, ◌&&◌, and-eq-true_iff}
use mathlib.Core.List.{List, [], ◌∷◌}
use mathlib.Core.Option.{Option, none, some}
use Prim.Native.Nat.{ℕ, suc, ◌+◌, ◌*◌, ◌≤◌}
use native.Mathlib.Omega.{arith}
use lib.Dec.{eqb, leb}
use lib.ListN.{length, length-take}
use borrow.Author.Tests.{eqb-true, leb-true, le-leb}
use Rattle.basics.specs.Search.{Each}
use Rattle.action_language.specs.declared.Kind.{Kind}
use Rattle.action_language.specs.declared.Kind.TheVariants.{Static, Dynamic}
use Rattle.action_language.specs.declared.Law.{Law}
use Rattle.action_language.specs.declared.Description.{Description}
use Rattle.action_language.specs.Laws.{if_list, after_list, laws_of}
use Rattle.action_language.specs.Atoms.{wrong_length}
use Rattle.action_language.specs.Acceptance.{counts_fit, codes_below, head_fits, after_fits, law_fits, bad_law, bad_record, bad_horizon}

-- Counts and horizon

-- the last test of a row of tests, and those before it
last : (a : Bool) {b : Bool} → (a && b) ≡ true → (a ≡ true) × (b ≡ true)
last a {b} h = (and-eq-true_iff a b).0 h

pub counts-limits : (d : Description) (lent : ℕ) → counts_fit d lent ≡ true
    → (1 ≤ d.fluents) × (d.fluents ≤ 24) × (d.actions ≤ 8) × (d.laws ≤ 64) × (d.laws ≤ lent)
counts-limits d lent h =
    let e = last _ h in
    let l = last _ e.0 in
    let a = last _ l.0 in
    let f = last _ a.0 in
    (leb-true _ _ f.0, leb-true _ _ f.1, leb-true _ _ a.1, leb-true _ _ l.1, leb-true _ _ e.1)

-- no place where there is a fault: the test passed
passed : (b : Bool) (x : Option ℕ) (k : ℕ) → cond b x (some k) ≡ none → (b ≡ true) × (x ≡ none)
passed true x k h = (refl, h)
passed false x k h = let z : ◌≡◌ {A = ℕ} 0 1 = cc in absurd (omega arith)

pub accepted-counts : (d : Description) (ls : List Law) (lent : ℕ) → bad_record d ls lent ≡ none
    → (1 ≤ d.fluents) × (d.fluents ≤ 24) × (d.actions ≤ 8) × (d.laws ≤ 64) × (d.laws ≤ lent)
unfolding bad_record
accepted-counts d ls lent h = counts-limits d lent (passed _ _ 64 h).0

pub accepted-few : (d : Description) (ls : List Law) (lent : ℕ) → bad_record d ls lent ≡ none → length (laws_of d ls) ≤ 64
accepted-few d ls lent h = omega (arith, length-take d.laws ls, accepted-counts d ls lent h)

pub accepted-horizon : (T : ℕ) → bad_horizon T ≡ none → (1 ≤ T) × (T ≤ 30)
unfolding bad_horizon
accepted-horizon T h = let e = last _ (passed _ none 0 h).0 in (leb-true _ _ e.0, leb-true _ _ e.1)

pub horizon-taken : (T : ℕ) → 1 ≤ T → T ≤ 30 → bad_horizon T ≡ none
unfolding bad_horizon
horizon-taken T one few = simp (le-leb 1 T one, le-leb T 30 few)

-- a history's values are as many as its atoms where 10 does not come
pub right-length : (atoms count : ℕ) → wrong_length atoms count ≡ none → count ≡ atoms
right-length atoms count h = eqb-true count atoms (passed (eqb count atoms) none count h).0

-- Laws

-- each law is within the limits
abbrev pub AllFit : ℕ → ℕ → List Law → Type 0
AllFit n m ls = Each (λ l. law_fits n m l ≡ true) ls

-- none is found: the test of the one at the front passed
unfound : (b : Bool) (x : Option ℕ) (k : ℕ) → cond (not b) (some k) x ≡ none → (b ≡ true) × (x ≡ none)
unfound true x k h = (refl, h)
unfound false x k h = let z : ◌≡◌ {A = ℕ} 0 1 = cc in absurd (omega arith)

all_fit : (n m k : ℕ) (ls : List Law) → bad_law n m k ls ≡ none → AllFit n m ls
all_fit n m k [] h = tt
all_fit n m k (l ∷ ls) h = let e = unfound (law_fits n m l) _ k h in (e.0, all_fit n m (suc k) ls e.1)

pub accepted-law : (d : Description) (ls : List Law) (lent : ℕ) → bad_record d ls lent ≡ none
    → AllFit d.fluents d.actions (laws_of d ls)
unfolding bad_record
accepted-law d ls lent h = all_fit d.fluents d.actions 0 (laws_of d ls) (passed (counts_fit d lent) _ 64 h).1

-- One law within the limits

module _ (n m : ℕ) (l : Law) (fits : law_fits n m l ≡ true) where
  -- the tests of the head and the if-list
  before : ((head_fits n l.head && leb l.if_count 6) ≡ true) × (codes_below (2 * n) (if_list l) ≡ true)
  before = last _ (last _ fits).0

  pub fits-if : (l.if_count ≤ 6) × (codes_below (2 * n) (if_list l) ≡ true)
  fits-if = (leb-true _ _ (last (head_fits n l.head) before.0).1, before.1)

  pub fits_after : l.kind ≡ Dynamic → (l.after_count ≤ 6) × (codes_below (2 * (n + m)) (after_list l) ≡ true)
  fits_after e = after-limits l.kind e (last (head_fits n l.head && leb l.if_count 6 && codes_below (2 * n) (if_list l)) fits).1
    where
      after-limits : (k : Kind) → k ≡ Dynamic → after_fits n m k l ≡ true
          → (l.after_count ≤ 6) × (codes_below (2 * (n + m)) (after_list l) ≡ true)
      after-limits Static e h = let z : ◌≡◌ {A = ℕ} 0 1 = cc in absurd (omega arith)
      after-limits Dynamic e h = let t = last (leb l.after_count 6) h in (leb-true _ _ t.0, t.1)

-- and a horizon past the limits is refused
pub horizon-refused : (T : ℕ) → ((1 ≤ T) × (T ≤ 30) → ⊥) → bad_horizon T ≡ some 0
unfolding bad_horizon
horizon-refused T out = go (leb 1 T && leb T 30) refl
  where
    go : (b : Bool) → (leb 1 T && leb T 30) ≡ b → cond {A = Option ℕ} b none (some 0) ≡ some 0
    go true e = let t = last (leb 1 T) e in absurd (out (leb-true _ _ t.0, leb-true _ _ t.1))
    go false e = refl

-- within the limits the counts fit
pub counts-true : (d : Description) (lent : ℕ) → 1 ≤ d.fluents → d.fluents ≤ 24 → d.actions ≤ 8 → d.laws ≤ 64 → d.laws ≤ lent
    → counts_fit d lent ≡ true
counts-true d lent one few actions laws held =
    simp (
      le-leb 1 d.fluents one,
      le-leb d.fluents 24 few,
      le-leb d.actions 8 actions,
      le-leb d.laws 64 laws,
      le-leb d.laws lent held,
    )

-- and past them they do not
pub counts-false : (d : Description) (lent : ℕ)
    → ((1 ≤ d.fluents) × (d.fluents ≤ 24) × (d.actions ≤ 8) × (d.laws ≤ 64) × (d.laws ≤ lent) → ⊥) → counts_fit d lent ≡ false
counts-false d lent out = go (counts_fit d lent) refl
  where
    go : (b : Bool) → counts_fit d lent ≡ b → b ≡ false
    go true e = absurd (out (counts-limits d lent e))
    go false e = refl
