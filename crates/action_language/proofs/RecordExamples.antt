-- The worked examples of acceptance and of atom numbers.
-- Assumes nothing.
use mathlib.Core.Path.{refl}
use Rattle.action_language.specs.Acceptance.{bad_record, bad_horizon}
use Rattle.action_language.specs.RecordExamples.{AcceptanceExamples, AtomExamples, RecordsHold}

acceptance-examples : AcceptanceExamples
unfolding bad_record bad_horizon
acceptance-examples = record {
  recipe-accepted = refl;
  five-lent = refl;
  eight-actions = refl;
  nine-actions = refl;
  action-in-an-if-list = refl;
  action-in-an-after-list = refl;
  head-past-the-fluents = refl;
  horizon-0 = refl;
  horizon-1 = refl;
  horizon-30 = refl;
  horizon-31 = refl;
  three-steps = refl;
}

atom-examples : AtomExamples
atom-examples = record {
  flowed-at-0 = refl;
  reflow-at-0 = refl;
  locked-at-1 = refl;
  recipe-atoms = refl;
  most-atoms = refl;
  five-values = refl;
  four-values = refl;
}

pub records-hold : RecordsHold
records-hold = record { acceptance = acceptance-examples; atoms = atom-examples }
