-- What the description reader takes is accepted: the record and the run that it leaves are refused neither by 8 nor by 3.
-- Assumes nothing.
use Rattle.std.specs.Prelude.{◌≡◌, List, length}
use Rattle.std.proofs.Math.Option.{none}
use Rattle.basics.specs.Replies.{Reply, refused, answered}
use Rattle.action_language.specs.declared.Law.{Law}
use Rattle.action_language.specs.declared.Description.{Description}
use Rattle.action_language.specs.Acceptance.{bad_record, bad_horizon}
use Rattle.description_lines.specs.Answers.{Behind}

-- of a reader's reply, the record that it gives and the run that it leaves, all of which is lent on
abbrev pub TakesAccepted : Reply Behind → Description → List Law → Type 0
TakesAccepted (refused number place) d ls = Unit
TakesAccepted (answered end) d ls = (bad_record d ls (length ls) ≡ none) × (bad_horizon d.horizon ≡ none)
