-- The name shown to an editor for a fluent's or an action's number: that part of the description text where it was declared.
-- Assumes nothing.
use Rattle.std.specs.Prelude.{cond, List, [], ℕ, suc, ◌+◌, ltb, length, get_or}
use Rattle.text_forms.specs.Places.{start_of_value}
use Rattle.description_lines.specs.LineSteps.{Draft}
use Rattle.basics.specs.Replies.{Reply, refused, answered}
use Rattle.description_lines.specs.Descriptions.{Taken, read, described}

abbrev pub fluent_name : Draft → ℕ → List ℕ
fluent_name d f = cond (ltb f d.fluents) (get_or d.names f []) []

-- a number that nothing declares shows an empty part
abbrev pub action_name : Draft → ℕ → List ℕ
action_name d k = get_or d.names (d.fluents + k) []

-- and so does every number in a text that is refused
abbrev pub shown_by : (Draft → ℕ → List ℕ) → Reply Taken → ℕ → List ℕ
shown_by name (refused k place) i = []
shown_by name (answered (read d rest line)) i = name d i

unfoldable pub shown_fluent : List ℕ → ℕ → List ℕ
shown_fluent text f = shown_by fluent_name (described 64 text) f

unfoldable pub shown_action : List ℕ → ℕ → List ℕ
shown_action text k = shown_by action_name (described 64 text) k

-- where the part begins, in bytes from the text's start: line 0 has the horizon, each line behind it declares one name, fluents
-- first, and the name is its value. An empty part lies at the text's start
abbrev pub fluent_start : List ℕ → Draft → ℕ → ℕ
fluent_start text d f = cond (ltb f d.fluents) (start_of_value (suc f) text) 0

abbrev pub action_start : List ℕ → Draft → ℕ → ℕ
action_start text d k = cond (ltb (d.fluents + k) (length d.names)) (start_of_value (suc (d.fluents + k)) text) 0

abbrev pub start_by : (Draft → ℕ → ℕ) → Reply Taken → ℕ → ℕ
start_by start (refused k place) i = 0
start_by start (answered (read d rest line)) i = start d i

unfoldable pub shown_fluent_start : List ℕ → ℕ → ℕ
shown_fluent_start text f = start_by (fluent_start text) (described 64 text) f

unfoldable pub shown_action_start : List ℕ → ℕ → ℕ
shown_action_start text k = start_by (action_start text) (described 64 text) k
