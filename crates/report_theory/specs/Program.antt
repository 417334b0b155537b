-- The program as a whole: what the output for every input says, by the meaning of C.
-- Assumes nothing.
use Rattle.std.specs.Prelude.{◌≡◌, ◌↔◌, ◌⊎◌, Bool, true, false, List, ◌++◌, ℕ, ◌-◌, ◌≤◌, ◌<◌, length}
use Rattle.std.proofs.Math.Option.{Option, none, some}
use Rattle.logic_programs.specs.Literals.{OneValue, NoValue, BothValues, NoneOrBoth, set_of}
use Rattle.basics.specs.Search.{Each, Lowest}
use Rattle.basics.specs.Replies.{refused, answered}
use Rattle.answer_set_theory.specs.Verdicts.{Verdict, clash, broken, unfounded, passes}
use Rattle.answer_set_theory.specs.Demand2.{RightVerdict}
use Rattle.action_language.specs.declared.Law.{Law}
use Rattle.action_language.specs.declared.Description.{Description}
use Rattle.action_language.specs.Laws.{laws_of}
use Rattle.translation_rules.specs.Translated.{rules_for, table_for}
use Rattle.history_check.specs.Checks.{Finding, missing, judged}
use Rattle.causal_reading.specs.Verdicts.{Causal, path}
use Rattle.causal_reading.specs.Readings.{reading}
use Rattle.correctness.specs.Demand3.{PathOf}
use Rattle.correctness.specs.CausalFaults.{FaultNamed}
use Rattle.description_lines.specs.LineSteps.{Draft}
use Rattle.description_lines.specs.Descriptions.{read, described, description_of}
use Rattle.history_values.specs.Values.{ActionsValued}
use Rattle.history_reader.specs.Histories.{atoms}
use Rattle.whole_inputs.specs.Inputs.{recorded_in}
use Rattle.printed_lines.specs.Printed.{refusal_lines, count_lines, finding_lines, causal_lines, no_causal}

-- the refusal of the input, by one of 1 to 7
pub record Refused (input out : List ℕ) : Type 0 where
  pub number : ℕ
  pub place : ℕ
  pub recorded-so : recorded_in input ≡ refused number place
  -- where the description is refused, it is that refusal; else it is the history's
  pub of-description : (k p : ℕ) → described 64 input ≡ refused k p → (number ≡ k) × (place ≡ p)
  pub low : 1 ≤ number
  pub high : number ≤ 7
  pub printed : out ≡ refusal_lines number place

-- the causal lines: none, or a verdict
abbrev pub causal_shown : List ℕ → Option Causal → List ℕ
causal_shown input none = no_causal
causal_shown input (some v) = causal_lines input v

-- the nine lines for a description, an answer and a causal verdict or none
abbrev pub nine_lines : List ℕ → Draft → Finding → Option Causal → List ℕ
nine_lines input d found causal =
    count_lines d.horizon (atoms d) (length (rules_for (description_of d) d.laws)) (length (table_for (description_of d) d.laws))
    ++ (finding_lines found ++ causal_shown input causal)

-- the answer is missing or clash
abbrev pub missing_or_clash : Finding → Bool
missing_or_clash (missing a) = true
missing_or_clash (judged (clash a)) = true
missing_or_clash (judged (broken r)) = false
missing_or_clash (judged (unfounded c)) = false
missing_or_clash (judged passes) = false

-- a verdict of the engine is printed: which one, by answer sets and the reduct of the published rules
pub record EngineTold (d : Description) (ls : List Law) (vs : List ℕ) (found : Finding) : Type 0 where
  pub told : Verdict
  pub found-so : found ≡ judged told
  pub right : RightVerdict (length vs) (rules_for d ls) (set_of vs) (answered told)

-- a causal verdict is shown: what the causal reading says of a complete history, and which fault, in the words of the meaning of C
pub record CausalTold (d : Description) (ls : List Law) (vs : List ℕ) (shown : Option Causal) : Type 0 where
  pub told : Causal
  pub shown-so : shown ≡ some told
  pub read-so : reading d ls 64 vs ≡ answered told
  pub fault : FaultNamed d.fluents d.actions d.horizon (laws_of d ls) vs (answered told)

-- the verdict on the input, whose values are read
pub record VerdictPrinted (input out : List ℕ) : Type 0 where
  -- the description read
  pub draft : Draft
  pub rest : List ℕ
  pub lines : ℕ
  pub described-so : described 64 input ≡ answered (read draft rest lines)
  -- the values read: one for each atom, 0 none, 1 true, 2 false, 3 both
  pub values : List ℕ
  pub recorded-so : recorded_in input ≡ answered values
  pub size : length values ≡ atoms draft
  pub each : Each (λ v. v ≤ 3) values
  -- an action that its act line does not list is false: none is left at 0
  pub acted : ActionsValued draft.fluents (length draft.names - draft.fluents) draft.horizon values
  -- what is printed of them
  pub found : Finding
  pub causal : Option Causal
  pub printed : out ≡ nine_lines input draft found causal
  -- where an atom has no value or both: the lowest such atom decides
  pub lowest-decides : (a : ℕ) → Lowest (NoneOrBoth values) (length values) a
      → (NoValue values a → found ≡ missing a) × (BothValues values a → found ≡ judged (clash a))
  pub incomplete : (a : ℕ) → a < length values → NoneOrBoth values a → (missing_or_clash found ≡ true) × (causal ≡ none)
  -- where every atom has one value: passes and path exactly for a path, else the causal fault of the first time that has one
  pub passes-exactly : Each OneValue values → found ≡ judged passes ↔ PathOf (description_of draft) draft.laws values
  pub path-exactly : Each OneValue values → causal ≡ some path ↔ PathOf (description_of draft) draft.laws values
  pub engine-told : Each OneValue values → EngineTold (description_of draft) draft.laws values found
  pub causal-told : Each OneValue values → CausalTold (description_of draft) draft.laws values causal

-- of an input and its output: a refusal exactly where reading the input comes to one (`recorded_in`), else a verdict
unfoldable pub Program : List ℕ → List ℕ → Type 0
Program input out = Refused input out ⊎ VerdictPrinted input out
