-- Demand 3 on the numbers for C: what the words that huntyghai_translate left, and the answers of huntyghai_check_history and
-- huntyghai_causal_reading, say of a set with one value for each atom of the description that was read. Besides, which missing or clash
-- the check names, whatever the values, and which fault the causal reading names.
-- Assumes nothing.
use Rattle.std.specs.Prelude.{◌≡◌, ◌↔◌, List, ℕ, ◌≤◌, ◌<◌, length, take}
use Rattle.basics.specs.Search.{Each}
use Rattle.basics.specs.Replies.{answered}
use Rattle.logic_programs.specs.Literals.{OneValue}
use Rattle.answer_set_theory.specs.Answers as engine
use Rattle.completion_theory.specs.Answers as completion
use Rattle.action_language.specs.declared.Law.{Law}
use Rattle.action_language.specs.Laws.{laws_of}
use Rattle.translation_rules.specs.Translated.{table_for}
use Rattle.description_lines.specs.LineSteps.{Draft}
use Rattle.description_lines.specs.Descriptions.{read, described, description_of}
use Rattle.history_reader.specs.Histories.{atoms}
use Rattle.whole_inputs.specs.Inputs.{recorded_in}
use Rattle.correctness.specs.Demand3.{PathOf}
use Rattle.correctness.specs.CausalFaults.{ContradictedFirst, UncausedFirst}
use Rattle.answer_codes.specs.Codes.{coded, pair, reply_code, verdict_code}
use Rattle.answer_codes.specs.FormulaCodes.{formula_code}
use Rattle.huntyghai_theory.specs.FormulaNumbers.{NumberedByValues}

-- the words of what was read
abbrev pub words_for : Draft → List ℕ
words_for d = table_for (description_of d) d.laws

-- the set is a path of what was read
abbrev pub IsPath : Draft → List ℕ → Type 0
IsPath d vs = PathOf (description_of d) d.laws vs

-- of a text, the table before and the table after: on the words in front huntyghai_check_set answers 64 exactly if the set is a path, and
-- huntyghai_check_completion 72 exactly then; for a table that was long enough
unfoldable pub TextTranslates : List ℕ → List ℕ → List ℕ → Type 0
TextTranslates text old new =
    (d : Draft) (rest : List ℕ) (lines : ℕ) → described 64 text ≡ answered (read d rest lines)
    → (vs : List ℕ) → length vs ≡ atoms d → Each OneValue vs → length (words_for d) ≤ length old
    → (reply_code verdict_code (engine.answer vs (take (length (words_for d)) new)) ≡ coded 64 0 ↔ IsPath d vs)
    × (reply_code formula_code (completion.answer vs (take (length (words_for d)) new)) ≡ coded 72 0 ↔ IsPath d vs)

-- of a text, values, the room in the table and the number answered: 64 exactly if the set is a path, and exactly if
-- huntyghai_check_completion answers 72 on the words that are left
unfoldable pub TextChecks : List ℕ → List ℕ → ℕ → ℕ → Type 0
TextChecks text vs room number =
    (d : Draft) (rest : List ℕ) (lines : ℕ) → described 64 text ≡ answered (read d rest lines)
    → length vs ≡ atoms d → Each OneValue vs → length (words_for d) ≤ room
    → (number ≡ coded 64 0 ↔ IsPath d vs)
    × (number ≡ coded 64 0 ↔ reply_code formula_code (completion.answer vs (words_for d)) ≡ coded 72 0)

-- of the same, where the bytes are as many as the atoms and each at most 3: which missing or clash the number names
unfoldable pub TextSaysValues : List ℕ → List ℕ → ℕ → ℕ → Type 0
TextSaysValues text vs room number =
    (d : Draft) (rest : List ℕ) (lines : ℕ) → described 64 text ≡ answered (read d rest lines)
    → length vs ≡ atoms d → Each (λ v. v ≤ 3) vs → length (words_for d) ≤ room → NumberedByValues vs number

-- of an input and the number answered, where a description and a history with one value for each atom are read: 80 exactly if the set is
-- a path
unfoldable pub InputReads : List ℕ → ℕ → Type 0
InputReads input number =
    (d : Draft) (rest : List ℕ) (lines : ℕ) → described 64 input ≡ answered (read d rest lines)
    → (vs : List ℕ) → recorded_in input ≡ answered vs
    → Each OneValue vs → number ≡ coded 80 0 ↔ IsPath d vs

-- what the number says where it names a fault: 81 the time and the law that contradicts, 82 the time and the uncaused fluent, each in 16
-- bits
pub record FaultNumbered (n m T : ℕ) (ls : List Law) (vs : List ℕ) (number : ℕ) : Type 0 where
  pub contradicted-exactly : (t i : ℕ) → t < 65536 → i < 65536 → number ≡ coded 81 (pair t i) ↔ ContradictedFirst n m T ls vs t i
  pub uncaused-exactly : (t f : ℕ) → t < 65536 → f < 65536 → number ≡ coded 82 (pair t f) ↔ UncausedFirst n m T ls vs t f

-- of an input and the number answered, as above
unfoldable pub InputFault : List ℕ → ℕ → Type 0
InputFault input number =
    (d : Draft) (rest : List ℕ) (lines : ℕ) → described 64 input ≡ answered (read d rest lines)
    → (vs : List ℕ) → recorded_in input ≡ answered vs
    → Each OneValue vs
    → FaultNumbered d.fluents (description_of d).actions d.horizon (laws_of (description_of d) d.laws) vs number
