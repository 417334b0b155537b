-- What the code's keys stand for: their numbers.
-- Assumes nothing.
use Rattle.std.proofs.Math.Option as found
use Rattle.std.specs.Prelude.{List, [], ◌∷◌, map, ℕ, Option, Some, None, get_or}
use Rattle.text_forms.specs.declared.Key.{Key}
use Rattle.text_forms.specs.declared.Key.TheVariants.{Horizon, Fluent, Action, Static, Dynamic, If, After, State, Act, End}
use Rattle.text_forms.specs.declared.Key.TheVariants.{Default, Inertial, Causes, By, Nonexecutable}
use Rattle.text_forms.specs.Lines.{horizon_key, fluent_key, action_key, static_key, dynamic_key, if_key, after_key}
use Rattle.text_forms.specs.Lines.{state_key, act_key, end_key, default_key, inertial_key, causes_key, by_key}
use Rattle.text_forms.specs.Lines.{nonexecutable_key, no_key}

abbrev pub number_of_key : Key → ℕ
number_of_key Horizon = horizon_key
number_of_key Fluent = fluent_key
number_of_key Action = action_key
number_of_key Static = static_key
number_of_key Dynamic = dynamic_key
number_of_key If = if_key
number_of_key After = after_key
number_of_key State = state_key
number_of_key Act = act_key
number_of_key End = end_key
number_of_key Default = default_key
number_of_key Inertial = inertial_key
number_of_key Causes = causes_key
number_of_key By = by_key
number_of_key Nonexecutable = nonexecutable_key

-- a key's number, or that of no key
abbrev pub number_or : Option Key → ℕ
number_or None = no_key
number_or (Some key) = number_of_key key

-- the keys in the order of their numbers
abbrev pub keys_in_order : List Key
keys_in_order =
    Horizon ∷ Fluent ∷ Action ∷ Static ∷ Dynamic ∷ If ∷ After ∷ State ∷ Act ∷ End ∷ Default ∷ Inertial ∷ Causes ∷ By ∷ Nonexecutable ∷ []

-- the key that a number stands for
abbrev pub key_numbered : ℕ → Option Key
key_numbered k = get_or (map {B = Option Key} Some keys_in_order) k None

abbrev pub key_by : found.Option ℕ → Option Key
key_by found.none = None
key_by (found.some k) = key_numbered k
