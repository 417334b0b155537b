-- Lists: empty, or literals between single commas.
-- Assumes nothing.
use Rattle.std.specs.Prelude.{cond, List, [], ◌∷◌, ◌++◌, ℕ, zero, suc, ltb, length}
use Rattle.std.proofs.Math.Option.{Option, none, some}
use Rattle.text_forms.specs.Bytes.{comma, Cut, cut}
use Rattle.text_forms.specs.Names.{literal}

-- the items between commas; each takes a comma or the end, so one step more than there are bytes is enough
abbrev pub items_cut : List ℕ → Option Cut → (List ℕ → List (List ℕ)) → List (List ℕ)
items_cut bs none next = bs ∷ []
items_cut bs (some c) next = c.front ∷ next c.back

abbrev pub items_in : ℕ → List ℕ → List (List ℕ)
items_in zero bs = []
items_in (suc k) bs = items_cut bs (cut comma bs) (λ back. items_in k back)

-- an empty value is the empty list
unfoldable pub items : List ℕ → List (List ℕ)
items [] = []
items (b ∷ bs) = items_in (suc (length (b ∷ bs))) (b ∷ bs)

-- a list's codes, or refusal 5 or 6
pub data Listed : Type 0 where
  refused : ℕ → Listed
  codes : List ℕ → Listed

abbrev pub added : List ℕ → Option ℕ → (List ℕ → Listed) → Listed
added done none next = refused 6
added done (some c) next = next (done ++ (c ∷ []))

-- item by item, 5 before 6 at each; `most` literals are taken
abbrev pub list_from : List (List ℕ) → ℕ → ℕ → ℕ → List ℕ → List (List ℕ) → Listed
list_from names low high most done [] = codes done
list_from names low high most done (x ∷ xs) =
    cond (ltb (length done) most) (added done (literal names low high x) (λ more. list_from names low high most more xs)) (refused 5)

unfoldable pub list_of : List (List ℕ) → ℕ → ℕ → ℕ → List ℕ → Listed
list_of names low high most value = list_from names low high most [] (items value)
