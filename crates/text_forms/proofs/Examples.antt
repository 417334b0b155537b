-- Small worked examples of the definitions: the keys by their names, a text of two lines, lines that are none, and a list of the one
-- name a.
-- Assumes nothing.
use mathlib.Core.Path.{◌≡◌, refl}
use mathlib.Core.List.{List, [], ◌∷◌, map}
use mathlib.Core.Option.{Option, some}
use Prim.Native.Nat.{ℕ}
use lib.ListN.{replicate}
use Rattle.basics.specs.Quoted.{bytes}
use Rattle.text_forms.specs.Bytes.{cut}
use Rattle.text_forms.specs.Lines.{keys, horizon_key, fluent_key, action_key, static_key, dynamic_key, if_key, after_key}
use Rattle.text_forms.specs.Lines.{state_key, act_key, end_key, default_key, inertial_key, causes_key, by_key}
use Rattle.text_forms.specs.Lines.{nonexecutable_key, key_number, first_line}
use Rattle.text_forms.specs.Places.{line_size, start_of_line, line_at, value_of_line, start_of_value}
use Rattle.text_forms.specs.NamePlaces.{names_in}
use Rattle.text_forms.specs.Names.{literal}
use Rattle.text_forms.specs.Lists.{refused, codes, items, list_of}

-- horizon, fluent, action, static, dynamic, if, after, state, act, end, default, inertial, causes, by, nonexecutable
pub keys-numbered : map key_number keys
    ≡ map {B = Option ℕ} some (horizon_key ∷ fluent_key ∷ action_key ∷ static_key ∷ dynamic_key
    ∷ if_key ∷ after_key ∷ state_key ∷ act_key ∷ end_key
    ∷ default_key ∷ inertial_key ∷ causes_key ∷ by_key ∷ nonexecutable_key ∷ [])
unfolding key_number
keys-numbered = refl

abbrev two-lines : List ℕ
two-lines = bytes "if=a=b\nact=\n"

-- split at the first equals sign, ended by byte 10
pub line_read : first_line two-lines ≡ some (record { key = if_key; value = bytes "a=b"; rest = bytes "act=\n" })
unfolding first_line cut key_number
line_read = refl

-- line 1 begins at byte 7, its value at byte 11; behind the last line nothing follows
pub line-placed : (start_of_line 1 two-lines ≡ 7) × (start_of_value 0 two-lines ≡ 3) × (start_of_value 1 two-lines ≡ 11)
    × (start_of_line 3 two-lines ≡ 12)
unfolding line_size line_at
line-placed = (refl, refl, refl, refl)

-- a value whatever its key; nothing, at the text's end, where the ending byte is lacking
pub line-valued : (value_of_line 0 (bytes "foo=bar\n") ≡ bytes "bar") × (value_of_line 0 (bytes "if=a") ≡ [])
    × (start_of_value 0 (bytes "if=a") ≡ 4)
unfolding line_at
line-valued = (refl, refl, refl)

-- three lines, of which two declare a name: a stands at byte 17, b at byte 26
pub names-placed : names_in 3 (bytes "horizon=1\nfluent=a\naction=b\n")
    ≡ record {
      places = record { start = 17; length = 1 } ∷ record { start = 26; length = 1 } ∷ replicate 30 (record { start = 0; length = 0 });
      count = 2;
    }
unfolding line_size line_at key_number
names-placed = refl

abbrev names : List (List ℕ)
names = bytes "a" ∷ []

pub both-signs : list_of names 0 1 2 (bytes "a,-a") ≡ codes (0 ∷ 1 ∷ [])
unfolding list_of items literal cut
both-signs = refl

-- a,b where one literal is taken: 5 of the second item, before its spelling
pub five-before-six : list_of names 0 1 1 (bytes "a,b") ≡ refused 5
unfolding list_of items literal cut
five-before-six = refl

-- b,a where one is taken: 6 of the first item
pub left-to-right : list_of names 0 1 1 (bytes "b,a") ≡ refused 6
unfolding list_of items literal cut
left-to-right = refl
