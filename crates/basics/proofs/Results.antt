-- What the code's results say of the searches and the replies that they stand for, and what the library's searches over a list find.
-- Assumes nothing.
use mathlib.Core.Path.{◌≡◌, refl, sym, ◌∙◌, ap}
use mathlib.Core.Bool.{Bool, true, false}
use mathlib.Core.List.{List, [], ◌∷◌}
use mathlib.Core.Option as found
use Prim.Native.Nat.{ℕ, suc, ◌+◌, ◌<◌}
use Rattle.std.specs.Prelude.{Option, Some, None, Result, Ok, Err, get_or}
use native.Mathlib.Numerals.{add-one}
use native.Mathlib.Omega.{arith}
use mathlib.Core.Bool.{cond}
use Rattle.std.specs.List.{list_all, position, position_from}
use Rattle.std.proofs.lemmas.Iterator.Adapters.{position_from-zero}
use Rattle.basics.specs.declared.Reason.{Reason}
use Rattle.basics.specs.declared.Reason.TheVariants.{LongText, WrongLine, BadHorizon, BadName, NoRoom, BadLiteral, MoreBytes}
use Rattle.basics.specs.declared.Reason.TheVariants.{BadRecord, ShortTable, WrongCount, BadValue, BadRule, BadLevels, Own}
use Rattle.basics.specs.declared.Refusal.{Refusal}
use Rattle.basics.specs.Search.{all, first}
use Rattle.basics.specs.Replies.{refused, answered, refusal}
use Rattle.basics.specs.Refusals.{place_of, number_of, tested_of, is_own}

-- what a search's answer says of the search
pub at_place : {r : Option ℕ} {o : found.Option ℕ} {k : ℕ} → place_of r ≡ o → r ≡ Some k → o ≡ found.some k
at_place is e = sym is ∙ ap place_of e

pub no_place : {r : Option ℕ} {o : found.Option ℕ} → place_of r ≡ o → r ≡ None → o ≡ found.none
no_place is e = sym is ∙ ap place_of e

-- and what a test's answer says of the search for something to refuse
pub refused-at : (number : ℕ) {r : Result Unit Refusal} {o : found.Option ℕ} {e : Refusal}
    → tested_of r ≡ refusal number o → r ≡ Err e → (o ≡ found.some e.place) × (number_of e.reason ≡ number)
refused-at number {r} {o} {e} is was = place o (sym is ∙ ap tested_of was)
  where
    place : (o : found.Option ℕ) → refusal number o ≡ refused (number_of e.reason) e.place
        → (o ≡ found.some e.place) × (number_of e.reason ≡ number)
    place (found.some p) q = (cc, cc)
    place found.none q = cc

pub not-refused : (number : ℕ) {r : Result Unit Refusal} {o : found.Option ℕ} {u : Unit}
    → tested_of r ≡ refusal number o → r ≡ Ok u → o ≡ found.none
not-refused number {r} {o} is was = place o (sym is ∙ ap tested_of was)
  where
    place : (o : found.Option ℕ) → refusal number o ≡ answered tt → o ≡ found.none
    place (found.some p) q = cc
    place found.none q = refl

-- where no reason is a caller's own, its number tells which it is
numbered_at : ℕ → Reason
numbered_at number = get_or (LongText ∷ LongText ∷ WrongLine ∷ BadHorizon ∷ BadName ∷ NoRoom ∷ BadLiteral ∷ MoreBytes
    ∷ BadRecord ∷ ShortTable ∷ WrongCount ∷ BadValue ∷ BadRule ∷ BadLevels ∷ []) number LongText

again : (reason : Reason) → is_own reason ≡ false → numbered_at (number_of reason) ≡ reason
unfolding numbered_at
again LongText e = refl
again WrongLine e = refl
again BadHorizon e = refl
again BadName e = refl
again NoRoom e = refl
again BadLiteral e = refl
again MoreBytes e = refl
again BadRecord e = refl
again ShortTable e = refl
again WrongCount e = refl
again BadValue e = refl
again BadRule e = refl
again BadLevels e = refl
again (Own number) e = cc

pub same-reason : {a b : Reason} → is_own a ≡ false → is_own b ≡ false → number_of a ≡ number_of b → a ≡ b
same-reason {a} {b} p q e = sym (again a p) ∙ ap numbered_at e ∙ again b q

-- and its number is above 0
pub number-above-0 : (reason : Reason) → is_own reason ≡ false → 0 < number_of reason
number-above-0 LongText e = omega arith
number-above-0 WrongLine e = omega arith
number-above-0 BadHorizon e = omega arith
number-above-0 BadName e = omega arith
number-above-0 NoRoom e = omega arith
number-above-0 BadLiteral e = omega arith
number-above-0 MoreBytes e = omega arith
number-above-0 BadRecord e = omega arith
number-above-0 ShortTable e = omega arith
number-above-0 WrongCount e = omega arith
number-above-0 BadValue e = omega arith
number-above-0 BadRule e = omega arith
number-above-0 BadLevels e = omega arith
number-above-0 (Own number) e = let wrong : ◌≡◌ {A = ℕ} 0 1 = cc in absurd (omega (arith, wrong))

-- the library's words over a list, as the words of this repository
pub list_all_all : {A : Type 0} (p : A → Bool) (xs : List A) → list_all p xs ≡ all p xs
list_all_all p [] = refl
list_all_all p (x ∷ xs) = rw (list_all_all p xs) refl

from : {A : Type 0} (p : A → Bool) (k : ℕ) (xs : List A) → place_of (position_from p k xs) ≡ first p k xs
from p k [] = refl
from p k (x ∷ xs) =
    elim (p x) as (λ b. place_of (cond b (Some k) (position_from p (k + 1) xs)) ≡ cond b (found.some k) (first p (suc k) xs)) [
      | true ↦ refl
      | false ↦ rw (add-one k) (from p (suc k) xs)
    ]

pub position_first : {A : Type 0} (p : A → Bool) (xs : List A) → place_of (position p xs) ≡ first p 0 xs
position_first p xs = ap place_of (position_from-zero p xs) ∙ from p 0 xs
