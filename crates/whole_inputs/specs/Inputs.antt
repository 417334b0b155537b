-- A whole input: a description, and behind its end line a history of it (01, "One recipe in full").
-- Assumes nothing.
use Rattle.std.specs.Prelude.{cond, ◌||◌, List, ℕ, ◌+◌, eqb}
use Rattle.basics.specs.Replies.{Reply, refused, answered}
use Rattle.description_lines.specs.Descriptions.{Taken, read, described}
use Rattle.history_reader.specs.Histories.{atoms, read_history}

-- lines count over the whole input: a line of the history is moved up by the description's lines; place 0 and lengths are not
abbrev pub moved_up : ℕ → ℕ → ℕ → ℕ
moved_up lines number place = cond (eqb number 1 || eqb number 10) place (lines + place)

abbrev pub moved_by : {A : Type 0} → ℕ → Reply A → Reply A
moved_by lines (refused number place) = refused number (moved_up lines number place)
moved_by lines (answered a) = answered a

-- the history is what stands behind the description's end line; there is a value for each atom
abbrev pub after_description : List ℕ → Reply Taken → Reply (List ℕ)
after_description input (refused number place) = refused number place
after_description input (answered (read d rest lines)) = moved_by lines (read_history input rest (atoms d))

-- the values of a whole input's history, or the first refusal
unfoldable pub recorded_in : List ℕ → Reply (List ℕ)
recorded_in input = after_description input (described 64 input)
