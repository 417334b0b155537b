-- What is read is accepted, with the whole run lent.
-- Assumes nothing.
use Rattle.std.proofs.lemmas.Result.{IfOk-weaker}
use Rattle.description_reader.specs.Answers.{reply_of}
use Rattle.reader_bounds.proofs.Taking.{takes-accepted}
use Rattle.lent_laws.proofs.read_description.Goals as goal

pub returns-clause-accepted : goal.returns-clause-accepted
returns-clause-accepted c =
    let r = c.read_description in
    IfOk-weaker r.result _ _
    (λ read is. takes-accepted c.args.laws.now c.args.text.now (reply_of r.result) read.description r.new.laws r.ensures.answers is
    r.ensures.leaves)
    r.ensures.description
