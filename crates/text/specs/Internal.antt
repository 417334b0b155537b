-- Internal: what the functions of the readers' crates promise each other. No promise of the readers themselves rests on it; a reader may
-- pass it over.
-- Assumes nothing.
use Rattle.std.specs.Prelude.{cond, List, [], map, ℕ, suc, ◌+◌, ◌<◌, eqb, leb, length, get_or, take, drop}
use Rattle.std.proofs.Math.Option.{Option, none, some}
use Rattle.basics.specs.Search.{first, range}
use Rattle.text_forms.specs.declared.Name.{Name}
use Rattle.text_forms.specs.declared.Names.{Names}
use Rattle.text_forms.specs.Bytes.{comma}
use Rattle.text_forms.specs.Lists.{items_in}
use Rattle.text_forms.specs.NamePlaces.{no_name}

-- the names that stand at some places of a text
abbrev pub at_place : List ℕ → Name → List ℕ
at_place text place = take place.length (drop place.start text)

abbrev pub name_at : List ℕ → Names → ℕ → List ℕ
name_at text names i = at_place text (get_or names.places i no_name)

unfoldable pub spelled : List ℕ → Names → List (List ℕ)
spelled text names = map (λ i. name_at text names i) (range 0 names.count)

-- the item of a list at a place, where the next begins, and the items from a place on
abbrev pub item_up_to : List ℕ → Option ℕ → List ℕ
item_up_to rest none = rest
item_up_to rest (some size) = take size rest

unfoldable pub item_at : List ℕ → ℕ → List ℕ
item_at list from = item_up_to (drop from list) (first (eqb comma) 0 (drop from list))

abbrev pub next_from : ℕ → ℕ → Option ℕ → ℕ
next_from size from none = size + 1
next_from size from (some i) = from + i + 1

unfoldable pub next_at : List ℕ → ℕ → ℕ
next_at list from = next_from (length list) from (first (eqb comma) 0 (drop from list))

unfoldable pub items_at : List ℕ → ℕ → List (List ℕ)
items_at list from = cond (leb from (length list)) (items_in (suc (length (drop from list))) (drop from list)) []

-- a literal's code fits in a byte
abbrev pub CodeFits : Option ℕ → Type 0
CodeFits none = Unit
CodeFits (some c) = c < 256
