-- The answers of the description reader's code.
-- Assumes nothing.
use Rattle.std.specs.Prelude.{Result}
use Rattle.basics.specs.Refusals.{reply_by}
use Rattle.basics.specs.Replies.{Reply}
use Rattle.basics.specs.declared.Refusal.{Refusal}
use Rattle.description_lines.specs.Answers.{Behind, behind}
use Rattle.description_reader.specs.declared.Read.{Read}

-- how many bytes and lines the description takes, and the reply of the call that reads it
abbrev pub behind_of : Read → Behind
behind_of read = behind read.bytes read.lines

abbrev pub reply_of : Result Read Refusal → Reply Behind
reply_of = reply_by behind_of
