-- Demand 3 as a function open to callers promises it of its own answer, or of the table that it leaves: for an accepted
-- description and a set with one value for each atom, passes (or path) exactly if the set is a path. And which missing or clash a
-- history check names, whatever the values.
-- Assumes nothing.
use Rattle.std.specs.Prelude.{◌≡◌, ◌↔◌, List, ℕ, ◌≤◌, length, take, Result}
use Rattle.std.proofs.Math.Option.{none}
use Rattle.basics.specs.Search.{Each}
use Rattle.basics.specs.declared.Refusal.{Refusal}
use Rattle.basics.specs.Replies.{answered}
use Rattle.answer_set_theory.specs.Verdicts.{passes}
use Rattle.answer_set_theory.specs.Answers as engine
use Rattle.completion_theory.specs.Findings.{holds}
use Rattle.completion_theory.specs.Answers as completion
use Rattle.action_language.specs.declared.Law.{Law}
use Rattle.action_language.specs.declared.Description.{Description}
use Rattle.action_language.specs.Atoms.{atom_count}
use Rattle.action_language.specs.Acceptance.{bad_record, bad_horizon}
use Rattle.translation_rules.specs.Translated.{table_for}
use Rattle.history_check.specs.declared.Finding.{Finding}
use Rattle.history_check.specs.Checks as history
use Rattle.causal_reading.specs.declared.Reading.{Reading}
use Rattle.causal_reading.specs.Verdicts.{path}
use Rattle.causal_reading.specs.Readings as causal
use Rattle.correctness.specs.Demand3.{Complete, PathOf}
use Rattle.correctness.specs.MissingAndClash.{ByValues}

-- of a translation that found the old table and left the new one: on the words in front the engine passes a set exactly if it
-- is a path, and the completion formulas hold exactly then; for a table that was long enough, else the refusal is 9
unfoldable pub TranslatesExactly : Description → List Law → ℕ → List ℕ → List ℕ → Type 0
TranslatesExactly d ls lent old new =
    (vs : List ℕ) → Complete d ls lent vs → length (table_for d ls) ≤ length old
    → (engine.answer vs (take (length (table_for d ls)) new) ≡ answered passes ↔ PathOf d ls vs)
    × (completion.answer vs (take (length (table_for d ls)) new) ≡ answered holds ↔ PathOf d ls vs)

-- of a history check's answer: passes exactly if the set is a path, and exactly if the completion formulas hold on the words
-- that it leaves; for a table that is long enough, else the refusal is 9
unfoldable pub PassesExactly : Description → List Law → ℕ → List ℕ → ℕ → Result Finding Refusal → Type 0
PassesExactly d ls lent vs room r =
    Complete d ls lent vs → length (table_for d ls) ≤ room
    → (history.reply_of r ≡ answered (history.judged passes) ↔ PathOf d ls vs)
    × (history.reply_of r ≡ answered (history.judged passes) ↔ completion.answer vs (table_for d ls) ≡ answered holds)

-- a history check refuses nothing: the description is accepted, the table is long enough, and there are as many bytes as atoms, each at
-- most 3
pub record NothingRefused (d : Description) (ls : List Law) (lent : ℕ) (vs : List ℕ) (room : ℕ) : Type 0 where
  pub records : bad_record d ls lent ≡ none
  pub horizon : bad_horizon d.horizon ≡ none
  pub enough : length (table_for d ls) ≤ room
  pub size : length vs ≡ atom_count d.fluents d.actions d.horizon
  pub bytes : Each (λ v. v ≤ 3) vs

-- of a history check's answer then
unfoldable pub SaysByValues : Description → List Law → ℕ → List ℕ → ℕ → Result Finding Refusal → Type 0
SaysByValues d ls lent vs room r = NothingRefused d ls lent vs room → ByValues vs (history.reply_of r)

-- of a causal reading's answer
unfoldable pub PathExactly : Description → List Law → ℕ → List ℕ → Result Reading Refusal → Type 0
PathExactly d ls lent vs r = Complete d ls lent vs → causal.reply_of r ≡ answered path ↔ PathOf d ls vs
