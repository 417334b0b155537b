-- What the engine's answers stand for.
-- Assumes nothing.
use Rattle.std.specs.Prelude.{Result}
use Rattle.basics.specs.declared.Refusal.{Refusal}
use Rattle.basics.specs.Replies.{Reply}
use Rattle.basics.specs.Refusals.{reply_by}
use Rattle.answer_set_theory.specs.Verdicts.{clash, broken, unfounded, passes}
use Rattle.answer_set_theory.specs.Verdicts as definitions
use Rattle.answer_sets.specs.declared.Verdict.{Verdict}
use Rattle.answer_sets.specs.declared.Verdict.TheVariants.{Clash, Broken, Unfounded, Passes}

-- the verdict that each case of the code's verdict stands for
abbrev pub verdict_of : Verdict → definitions.Verdict
verdict_of (Clash atom) = clash atom
verdict_of (Broken rule) = broken rule
verdict_of (Unfounded code) = unfounded code
verdict_of Passes = passes

abbrev pub reply_of : Result Verdict Refusal → Reply definitions.Verdict
reply_of = reply_by verdict_of
