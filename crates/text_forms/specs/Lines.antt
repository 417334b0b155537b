-- Lines: key=value, split at the first equals sign and ended by byte 10.
-- Assumes nothing.
use Rattle.std.specs.Prelude.{List, [], ◌∷◌, ℕ}
use Rattle.std.proofs.Math.Option.{Option, none, some}
use Rattle.basics.specs.Search.{first}
use Rattle.basics.specs.Quoted.{bytes}
use Rattle.spelling.specs.Letters.{same}
use Rattle.text_forms.specs.Bytes.{newline, equals_sign, Cut, cut}

-- the fifteen keys in their order; a key's number is its place in this list
abbrev pub keys : List (List ℕ)
keys =
    bytes "horizon"
    ∷ bytes "fluent"
    ∷ bytes "action"
    ∷ bytes "static"
    ∷ bytes "dynamic"
    ∷ bytes "if"
    ∷ bytes "after"
    ∷ bytes "state"
    ∷ bytes "act"
    ∷ bytes "end"
    ∷ bytes "default"
    ∷ bytes "inertial"
    ∷ bytes "causes"
    ∷ bytes "by"
    ∷ bytes "nonexecutable"
    ∷ []

abbrev pub horizon_key : ℕ
horizon_key = 0

abbrev pub fluent_key : ℕ
fluent_key = 1

abbrev pub action_key : ℕ
action_key = 2

abbrev pub static_key : ℕ
static_key = 3

abbrev pub dynamic_key : ℕ
dynamic_key = 4

abbrev pub if_key : ℕ
if_key = 5

abbrev pub after_key : ℕ
after_key = 6

abbrev pub state_key : ℕ
state_key = 7

abbrev pub act_key : ℕ
act_key = 8

abbrev pub end_key : ℕ
end_key = 9

abbrev pub default_key : ℕ
default_key = 10

abbrev pub inertial_key : ℕ
inertial_key = 11

abbrev pub causes_key : ℕ
causes_key = 12

abbrev pub by_key : ℕ
by_key = 13

abbrev pub nonexecutable_key : ℕ
nonexecutable_key = 14

-- the number of no key
abbrev pub no_key : ℕ
no_key = 15

unfoldable pub key_number : List ℕ → Option ℕ
key_number bs = first (same bs) 0 keys

-- a line's key by its number, its value, and the text behind the line
pub record Line : Type 0 where
  pub key : ℕ
  pub value : List ℕ
  pub rest : List ℕ

abbrev pub keyed : Option ℕ → List ℕ → List ℕ → Option Line
keyed none value rest = none
keyed (some k) value rest = some (record { key = k; value = value; rest = rest })

abbrev pub valued : Option Cut → List ℕ → Option Line
valued none rest = none
valued (some c) rest = keyed (key_number c.front) c.back rest

abbrev pub ended : Option Cut → Option Line
ended none = none
ended (some c) = valued (cut equals_sign c.front) c.back

-- the first line of a text; none where the ending byte, the equals sign or one of the keys is lacking
unfoldable pub first_line : List ℕ → Option Line
first_line text = ended (cut newline text)
