-- The answers of the translation's code.
-- Assumes nothing.
use Rattle.std.specs.Prelude.{Result}
use Rattle.basics.specs.declared.Refusal.{Refusal}
use Rattle.basics.specs.Refusals.{reply_by}
use Rattle.basics.specs.Replies.{Reply}
use Rattle.translation_rules.specs.Translated as translated
use Rattle.translation.specs.declared.Written.{Written}

-- the counts that the code's answer stands for
abbrev pub written_of : Written → translated.Written
written_of counts = translated.written counts.atoms counts.rules counts.words

-- the number and the values that each case of the code's answer stands for
abbrev pub outcome_of : Result Written Refusal → Reply translated.Written
outcome_of = reply_by written_of
