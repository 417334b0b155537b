-- What the causal reading answers to a description, laws of which some number is lent, and values.
-- Assumes nothing.
use Rattle.std.specs.Prelude.{Bool, Result, not, ◌||◌, List, ℕ, eqb, length}
use Rattle.basics.specs.Search.{first}
use Rattle.basics.specs.declared.Refusal.{Refusal}
use Rattle.basics.specs.Replies.{Reply, answered, or_refuse}
use Rattle.basics.specs.Refusals.{reply_by}
use Rattle.action_language.specs.declared.Law.{Law}
use Rattle.action_language.specs.declared.Description.{Description}
use Rattle.action_language.specs.Laws.{laws_of}
use Rattle.action_language.specs.Atoms.{atom_count, wrong_length}
use Rattle.action_language.specs.Acceptance.{bad_record, bad_horizon}
use Rattle.causal_reading.specs.Verdicts.{Causal, contradicted, uncaused, path, causal_verdict}
use Rattle.causal_reading.specs.declared.Reading.{Reading}
use Rattle.causal_reading.specs.declared.Reading.TheVariants.{Contradicted, Uncaused, Path}

-- the verdict that the code's answer stands for
abbrev pub verdict_of : Reading → Causal
verdict_of (Contradicted time law) = contradicted time law
verdict_of (Uncaused time fluent) = uncaused time fluent
verdict_of Path = path

abbrev pub reply_of : Result Reading Refusal → Reply Causal
reply_of = reply_by verdict_of

-- refusal 11, here for values 0 and 3 too
abbrev pub not_one_value : ℕ → Bool
not_one_value v = not (eqb v 1 || eqb v 2)

unfoldable pub reading : Description → List Law → ℕ → List ℕ → Reply Causal
reading d ls lent vs =
    or_refuse (bad_record d ls lent) 8
    (or_refuse (bad_horizon d.horizon) 3
    (or_refuse (wrong_length (atom_count d.fluents d.actions d.horizon) (length vs)) 10
    (or_refuse (first not_one_value 0 vs) 11
    (answered (causal_verdict d.fluents d.actions d.horizon (laws_of d ls) vs)))))
