-- A table of keys, searched from its start, finds the key of the number that the definition finds.
-- Assumes nothing.
use mathlib.Core.Path.{◌≡◌, refl, sym, ap, ◌∙◌}
use mathlib.Core.Bool.{Bool, true, false, cond}
use mathlib.Core.List.{List, [], ◌∷◌, map}
use mathlib.Core.Option as found
use Prim.Native.Nat.{ℕ, suc, ◌+◌, ◌<◌}
use native.Mathlib.Nat.{zero-add}
use native.Mathlib.Numerals.{add-one}
use native.Mathlib.Omega.{arith}
use denote.Ref.{Bor}
use lib.ListN.{length, get_or, drop}
use lib.Seq.{drop-cons}
use Rattle.std.specs.Prelude.{Option, Some, None}
use Rattle.std.specs.List.{zip}
use Rattle.basics.specs.Search.{first}
use Rattle.spelling.specs.Letters.{same}
use Rattle.text_forms.specs.declared.Key.{Key}
use Rattle.text_forms.specs.Lines.{keys, key_number}
use Rattle.text_forms.specs.Keys.{key_numbered, key_by, keys_in_order}

-- the key of the first entry that has some bytes
abbrev pub key_among : List ℕ → List (List ℕ × Key) → Option Key
key_among front [] = None
key_among front (e ∷ es) = cond (same front e.0) (Some e.1) (key_among front es)

by-number : (front : List ℕ) (es : List (List ℕ × Key)) (k : ℕ)
    → ((i : ℕ) → key_numbered (k + i) ≡ get_or (map {B = Option Key} (λ e. Some e.1) es) i None)
    → key_among front es ≡ key_by (first (same front) k (map (λ e. e.0) es))
by-number front [] k numbered = refl
by-number front (e ∷ es) k numbered =
    go (same front e.0) (by-number front es (suc k) (λ i. ap key_numbered (omega arith) ∙ numbered (suc i)))
  where
    go : (b : Bool) → key_among front es ≡ key_by (first (same front) (suc k) (map (λ e. e.0) es))
        → cond b (Some e.1) (key_among front es) ≡ key_by (cond b (found.some k) (first (same front) (suc k) (map (λ e. e.0) es)))
    go true later = sym (ap key_numbered (omega arith) ∙ numbered 0)
    go false later = later

pub among-keys : (front : List ℕ) → key_among front (zip keys keys_in_order) ≡ key_by (key_number front)
unfolding key_number
among-keys front = by-number front (zip keys keys_in_order) 0 (λ i. ap key_numbered (zero-add i))

-- the same over the code's entries, and one turn of its search
abbrev pub Entry : Type 0
Entry = Bor (List ℕ) × Key

abbrev pub key_found : List ℕ → List Entry → Option Key
key_found front es = key_among front (map (λ e. (e.0.now, e.1)) es)

module _ (front : List ℕ) (es : List Entry) (i : ℕ) (d : Entry) (h : i < length es) {R : Option Key}
    (left : key_found front (drop i es) ≡ R)
    {bs : List ℕ} (is : bs ≡ (get_or es i d).0.now) {r : Bool} (tested : r ≡ same front bs) where
  pub found_here : r ≡ true → Some (get_or es i d).1 ≡ R
  found_here e = let same-now : same front (get_or es i d).0.now ≡ true = rw (← is, ← tested) e in rw (drop-cons es i d h, same-now) at left

  pub found-later : r ≡ false → key_found front (drop (i + 1) es) ≡ R
  found-later e =
      let other : same front (get_or es i d).0.now ≡ false = rw (← is, ← tested) e in
      rw add-one (rw (drop-cons es i d h, other) at left)
