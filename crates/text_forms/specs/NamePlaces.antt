-- Where the names stand that a text declares: each fluent or action line declares one, its value.
-- Assumes nothing.
use Rattle.std.specs.Prelude.{Bool, cond, ◌||◌, List, ℕ, zero, suc, ◌+◌, ◌-◌, eqb, set, replicate}
use Rattle.text_forms.specs.declared.Name.{Name}
use Rattle.text_forms.specs.declared.Names.{Names}
use Rattle.text_forms.specs.declared.LineAt.{LineAt}
use Rattle.text_forms.specs.Keys.{number_or}
use Rattle.text_forms.specs.Lines.{fluent_key, action_key}
use Rattle.text_forms.specs.Places.{start_of_line, line_at}

-- no names: all places are 0
abbrev pub no_name : Name
no_name = record { start = 0; length = 0 }

abbrev pub no_names : Names
no_names = record { places = replicate 32 no_name; count = 0 }

-- one more name, by where it begins and how long it is
abbrev pub with_name : Names → ℕ → ℕ → Names
with_name names start size =
    record {
      places = set names.places names.count (record { start = start; length = size });
      count = names.count + 1;
    }

-- a value joins the names where its line declares one
abbrev pub declares_name : ℕ → Bool
declares_name key = eqb key fluent_key || eqb key action_key

abbrev pub joined : Bool → ℕ → ℕ → Names → Names
joined declares start size names = cond declares (with_name names start size) names

abbrev pub joined_by : LineAt → Names → Names
joined_by l names = joined (declares_name (number_or l.key)) l.from (l.to - l.from) names

-- the names that the first n lines declare
abbrev pub names_in : ℕ → List ℕ → Names
names_in zero text = no_names
names_in (suc n) text = joined_by (line_at text (start_of_line n text)) (names_in n text)
