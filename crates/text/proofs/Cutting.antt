-- Runs cut at their first byte of a kind, by places: lines and items.
-- Assumes nothing.
use mathlib.Core.Path.{◌≡◌, refl, sym, ap}
use mathlib.Core.Bool.{Bool}
use mathlib.Core.List.{List, [], ◌∷◌}
use mathlib.Core.Option.{none, some}
use Prim.Native.Nat.{ℕ, zero, suc, ◌+◌, ◌-◌, ◌<◌}
use native.Mathlib.Omega.{arith}
use lib.Dec.{eqb}
use lib.ListN.{length, take, drop, length-drop, length-take}
use lib.Seq.{take-nil, take_all}
use Prim.Native.Nat.{min}
use Rattle.std.specs.Option.{unwrap_or}
use Rattle.basics.specs.Refusals.{place_of}
use Rattle.basics.specs.Search.{first}
use Rattle.basics.proofs.Tests.{first_some}
use Rattle.text_forms.specs.declared.LineAt.{LineAt}
use Rattle.text_forms.specs.Bytes.{newline, comma, equals_sign}
use Rattle.text_forms.specs.Lines.{key_number}
use Rattle.text_forms.specs.Places.{no_line, line_at}
use Rattle.text_forms.specs.declared.Key.{Key}
use Rattle.text_forms.specs.Keys.{key_by}
use Rattle.std.specs.Prelude as code
use Rattle.text.specs.Internal.{item_at, next_at}

-- what is found stands inside
pub first-inside : (p : ℕ → Bool) (xs : List ℕ) (j : ℕ) → first p 0 xs ≡ some j → j < length xs
first-inside p xs j e = let (i, at, low) = first_some p 0 0 xs j e in omega (arith, low.0)

pub drop-take : (j n : ℕ) (xs : List ℕ) → drop j (take n xs) ≡ take (n - j) (drop j xs)
drop-take zero n xs = let e : n - 0 ≡ n = omega arith in rw e
drop-take (suc j) zero xs = let e : 0 - suc j ≡ 0 = omega arith in rw e
drop-take (suc j) (suc n) [] = rw (take-nil (suc n - suc j))
drop-take (suc j) (suc n) (x ∷ xs) = let e : suc n - suc j ≡ n - j = omega arith in rw e (drop-take j n xs)

-- the line at a place of a text, where `rest` is the text from there on
module _ (text : List ℕ) (at : ℕ) (rest : List ℕ) (is : rest ≡ drop at text) where
  pub line-none : first (eqb newline) 0 rest ≡ none → no_line (length text) ≡ line_at text at
  unfolding line_at
  line-none e = rw (← is, e) refl

  module _ (size : ℕ) (ends : first (eqb newline) 0 rest ≡ some size) where
    pub line-bare : first (eqb equals_sign) 0 (take size rest) ≡ none → no_line (length text) ≡ line_at text at
    unfolding line_at
    line-bare e = rw (← is, ends, ← is, e) refl

    pub line-inside : at + size < length text
    line-inside = omega (arith, first-inside (eqb newline) rest size ends, ap length is, length-drop at text)

    module _ (sign : ℕ) (splits : first (eqb equals_sign) 0 (take size rest) ≡ some sign) where
      pub sign-inside : sign < size
      sign-inside = omega (arith, first-inside (eqb equals_sign) (take size rest) sign splits, length-take size rest)

      pub line-whole : (k : code.Option Key) → k ≡ key_by (key_number (take sign (take size rest)))
          → ◌≡◌ {A = LineAt} (record { key = k; from = at + sign + 1; to = at + size; next = at + size + 1 }) (line_at text at)
      unfolding line_at
      line-whole k is_key = rw (← is, ends, ← is, splits, ← is, is_key) refl

-- the item at a place of a list, and the place of the next, by what the search for a comma answers
module _ (list : List ℕ) (from : ℕ) (rest : List ℕ) (is : rest ≡ drop from list) where
  pub item-size : (o : code.Option ℕ) → place_of o ≡ first (eqb comma) 0 rest
      → (take (unwrap_or o (length rest)) rest ≡ item_at list from)
      × (min from (length list) + unwrap_or o (length rest) + 1 ≡ next_at list from)
  unfolding item_at next_at
  item-size code.None e = (
    rw (← is, ← e, take_all (length rest) rest (omega arith)),
    rw (← is, ← e) (omega (arith, ap length is, length-drop from list)),
  )
  item-size (code.Some size) e =
      let inside = first-inside (eqb comma) rest size (sym e) in
      (rw (← is, ← e), rw (← is, ← e) (omega (arith, ap length is, length-drop from list)))
