-- What the history check answers and leaves in the lent table: missing or clash at the lowest atom without one value, or what the
-- engine says of the words just written.
-- Assumes nothing.
use Rattle.std.specs.Prelude.{List, ℕ, length, Result}
use Rattle.basics.specs.declared.Refusal.{Refusal}
use Rattle.basics.specs.Refusals.{reply_by}
use Rattle.basics.specs.Replies.{Reply, refused, answered, left_after}
use Rattle.logic_programs.specs.ValueFaults.{value_fault, or_fault}
use Rattle.literal_sets.specs.declared.values.Fault.{Fault}
use Rattle.literal_sets.specs.declared.values.Fault.TheVariants as faults
use Rattle.answer_set_theory.specs.Verdicts.{Verdict, clash, broken, unfounded, passes}
use Rattle.answer_set_theory.specs.Answers as engine
use Rattle.action_language.specs.declared.Law.{Law}
use Rattle.action_language.specs.declared.Description.{Description}
use Rattle.translation_rules.specs.Translated as translated
use Rattle.history_check.specs.declared.Finding as declared
use Rattle.history_check.specs.declared.Finding.TheVariants.{Missing, Clash, Broken, Unfounded, Passes}

-- an atom that has no value, or a verdict of the engine's kind
pub data Finding : Type 0 where
  missing : ℕ → Finding
  judged : Verdict → Finding

-- what the code's finding stands for
abbrev pub finding_of : declared.Finding → Finding
finding_of (Missing atom) = missing atom
finding_of (Clash atom) = judged (clash atom)
finding_of (Broken rule) = judged (broken rule)
finding_of (Unfounded code) = judged (unfounded code)
finding_of Passes = judged passes

-- what is found at an atom without one value
abbrev pub of_fault : Fault → Finding
of_fault (faults.Missing atom) = missing atom
of_fault (faults.Clash atom) = judged (clash atom)

-- the number and the values that each case of the code's answer stands for
abbrev pub reply_of : Result declared.Finding Refusal → Reply Finding
reply_of = reply_by finding_of

abbrev pub of_engine : Reply Verdict → Reply Finding
of_engine (refused number place) = refused number place
of_engine (answered v) = answered (judged v)

-- the lowest atom without one value decides; else the engine's verdict on these words
abbrev pub finding : List ℕ → List ℕ → Reply Finding
finding vs ws =
    or_fault (value_fault vs) (λ atom. answered (missing atom)) (λ atom. answered (judged (clash atom)))
    (of_engine (engine.answer vs ws))

-- 8, 3 and 9 are the translation's refusals; 10 and 11 come before anything is written
unfoldable pub checked : Description → List Law → ℕ → List ℕ → ℕ → Reply Finding
checked d ls lent vs room = translated.after_translation (translated.outcome d ls lent room) vs (finding vs (translated.table_for d ls))

-- every verdict leaves the whole translation in the table, a refusal the table as it was
unfoldable pub table_after : Description → List Law → ℕ → List ℕ → List ℕ → List ℕ
table_after d ls lent vs table =
    left_after (checked d ls lent vs (length table)) (λ found. translated.overwritten (translated.table_for d ls) table) table
