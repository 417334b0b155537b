-- Internal: what the crate's functions promise by places. No promise of the reader rests on it; a reader may pass it over.
-- Assumes nothing.
use Rattle.std.specs.Prelude.{List, [], ◌∷◌, ℕ, length}
use Rattle.action_language.specs.declared.Head.{Head}
use Rattle.action_language.specs.declared.Kind.{Kind}
use Rattle.action_language.specs.declared.Law.{Law}
use Rattle.action_language.specs.Laws.{padded}
use Rattle.line_values.specs.declared.law_forms.Places.{Places}

-- the places of a list, of none and of one code
abbrev pub places_of : List ℕ → Places
places_of cs = record { count = length cs; codes = padded cs }

abbrev pub no_places : Places
no_places = places_of []

abbrev pub one_place : ℕ → Places
one_place c = places_of (c ∷ [])

-- a law by the places of its lists
abbrev pub law_with : Kind → Head → Places → Places → Law
law_with kind head ifs afters =
    record {
      kind = kind;
      head = head;
      if_count = ifs.count;
      if_codes = ifs.codes;
      after_count = afters.count;
      after_codes = afters.codes;
    }
