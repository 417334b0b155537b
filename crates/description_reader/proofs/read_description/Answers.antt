-- `read_description` meets its contract: the record of a description that was read.
-- Assumes nothing.
use mathlib.Core.Path.{◌∙◌, ap}
use Rattle.description_lines.specs.Answers.{record_of}
use Rattle.description_reader.proofs.Answering.{read-record}
use Rattle.description_reader.proofs.read_description.Goals as goal

pub returns-clause-description : goal.returns-clause-description
returns-clause-description c =
    read-record c.args.text.now c.in_ok-end.end ∙ ap record_of c.in_ok-end.ensures.answers
