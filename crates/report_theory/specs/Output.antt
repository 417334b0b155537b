-- The output for an input, composed from what the readers, the translation, the history check and the causal reading say.
-- Assumes nothing.
use Rattle.std.specs.Prelude.{List, [], ℕ}
use Rattle.basics.specs.Replies.{Reply, refused, answered}
use Rattle.action_language.specs.declared.Law.{Law}
use Rattle.action_language.specs.declared.Description.{Description}
use Rattle.translation_rules.specs.Translated.{Written, written, outcome}
use Rattle.history_check.specs.Checks.{checked}
use Rattle.causal_reading.specs.Readings.{reading}
use Rattle.description_lines.specs.Descriptions.{Taken, read, described}
use Rattle.description_lines.specs.Answers.{record_of}
use Rattle.whole_inputs.specs.Inputs.{recorded_in}
use Rattle.printed_lines.specs.Printed.{refusal_lines, count_lines, checked_lines}

-- room for the largest table
abbrev pub room : ℕ
room = 30912

abbrev pub after_outcome : List ℕ → Description → List Law → List ℕ → Reply Written → List ℕ
after_outcome input d ls vs (refused number place) = refusal_lines number place
after_outcome input d ls vs (answered (written atoms rules words)) =
    checked_lines input (count_lines d.horizon atoms rules words) (checked d ls 64 vs room) (reading d ls 64 vs)

-- the laws of a description that is taken; one that is refused has none
abbrev pub laws_taken : Reply Taken → List Law
laws_taken (refused number place) = []
laws_taken (answered (read d rest lines)) = d.laws

abbrev pub after_input : List ℕ → Reply Taken → Reply (List ℕ) → List ℕ
after_input input o (refused number place) = refusal_lines number place
after_input input o (answered vs) =
    after_outcome input (record_of o) (laws_taken o) vs (outcome (record_of o) (laws_taken o) 64 room)

unfoldable pub output : List ℕ → List ℕ
output input = after_input input (described 64 input) (recorded_in input)
