-- What the functions that take a text answer and leave behind.
-- Assumes nothing.
use Rattle.std.specs.Prelude.{List, ℕ}
use Rattle.basics.specs.Replies.{Reply, left_after}
use Rattle.translation_rules.specs.Translated as translated
use Rattle.history_check.specs.Checks as history
use Rattle.causal_reading.specs.Readings as causal
use Rattle.description_lines.specs.Descriptions.{Taken, read, described, description_of}
use Rattle.description_lines.specs.Answers.{record_of}
use Rattle.whole_inputs.specs.Inputs.{recorded_in}
use Rattle.report_theory.specs.Output.{laws_taken}
use Rattle.answer_codes.specs.Codes.{reply_code, written_code, finding_code, causal_code}

-- the description's own refusal, or the translation of what was read
abbrev pub translated_taken : ℕ → Taken → ℕ
translated_taken room (read d rest lines) = reply_code written_code (translated.outcome (description_of d) d.laws 64 room)

unfoldable pub translated_text : List ℕ → ℕ → ℕ
translated_text text room = reply_code (translated_taken room) (described 64 text)

abbrev pub table_taken : List ℕ → Taken → List ℕ
table_taken table (read d rest lines) = translated.table_after (description_of d) d.laws 64 table

unfoldable pub table_of_text : List ℕ → List ℕ → List ℕ
table_of_text text table = left_after (described 64 text) (table_taken table) table

-- the same for the history check
abbrev pub checked_taken : List ℕ → ℕ → Taken → ℕ
checked_taken vs room (read d rest lines) = reply_code finding_code (history.checked (description_of d) d.laws 64 vs room)

unfoldable pub checked_text : List ℕ → List ℕ → ℕ → ℕ
checked_text text vs room = reply_code (checked_taken vs room) (described 64 text)

abbrev pub table_checked : List ℕ → List ℕ → Taken → List ℕ
table_checked vs table (read d rest lines) = history.table_after (description_of d) d.laws 64 vs table

unfoldable pub table_of_check : List ℕ → List ℕ → List ℕ → List ℕ
table_of_check text vs table = left_after (described 64 text) (table_checked vs table) table

-- the causal reading of the values of what was read
abbrev pub reading_of : Reply Taken → List ℕ → ℕ
reading_of o vs = reply_code causal_code (causal.reading (record_of o) (laws_taken o) 64 vs)

-- the readers' refusal, its line counted over the whole input, or that reading
unfoldable pub reading_of_input : List ℕ → ℕ
reading_of_input input = reply_code (reading_of (described 64 input)) (recorded_in input)
