-- Which refusals can come: the numbers by which each reader, and each function behind the readers, refuses.
-- Assumes nothing.
use Rattle.std.specs.Prelude.{◌≡◌, Bool, true, false, ◌||◌, List, [], ◌∷◌, ℕ, ◌≤◌, eqb}
use Rattle.basics.specs.Replies.{Reply, refused, answered}
use Rattle.answer_set_theory.specs.Answers.{answer}
use Rattle.completion_theory.specs.Answers as completed
use Rattle.translation_rules.specs.Translated.{outcome}
use Rattle.history_check.specs.Checks.{checked}
use Rattle.causal_reading.specs.Readings.{reading}
use Rattle.description_lines.specs.LineSteps.{Draft}
use Rattle.description_lines.specs.Descriptions.{read, described, description_of}
use Rattle.history_reader.specs.Histories.{read_history}
use Rattle.whole_inputs.specs.Inputs.{recorded_in}

abbrev pub among : ℕ → List ℕ → Bool
among k [] = false
among k (number ∷ numbers) = eqb k number || among k numbers

-- a reply is an answer, or a refusal by one of these numbers
abbrev pub RefusedBy : {A : Type 0} → List ℕ → Reply A → Type 0
RefusedBy numbers (refused number place) = among number numbers ≡ true
RefusedBy numbers (answered a) = Unit

pub record WhichRefusals : Type 0 where
  pub engine : (values table : List ℕ) → RefusedBy (10 ∷ 11 ∷ 12 ∷ []) (answer values table)
  pub completion : (values table : List ℕ) → RefusedBy (10 ∷ 11 ∷ 12 ∷ []) (completed.answer values table)
  pub levels : (values table levels : List ℕ) → RefusedBy (10 ∷ 11 ∷ 12 ∷ 13 ∷ []) (completed.answer_by_levels values table levels)
  pub description : (lent : ℕ) (text : List ℕ) → RefusedBy (1 ∷ 2 ∷ 3 ∷ 4 ∷ 5 ∷ 6 ∷ []) (described lent text)
  pub history : (text behind : List ℕ) (room : ℕ) → RefusedBy (1 ∷ 2 ∷ 3 ∷ 4 ∷ 5 ∷ 6 ∷ 7 ∷ 10 ∷ []) (read_history text behind room)
  -- of a whole input: the buffer is as long as the atoms are many
  pub input : (bytes : List ℕ) → RefusedBy (1 ∷ 2 ∷ 3 ∷ 4 ∷ 5 ∷ 6 ∷ 7 ∷ []) (recorded_in bytes)
  -- the same behind a description that was taken: the history's own lines come, and none is refused by 5, since its lists are of
  -- any number; of a whole input not even 1, since what stands behind the description is shorter than the input
  pub taken-history : (text : List ℕ) (d : Draft) (rest : List ℕ) (lines : ℕ) (behind : List ℕ) (room : ℕ)
      → described 64 text ≡ answered (read d rest lines)
      → RefusedBy (1 ∷ 2 ∷ 6 ∷ 7 ∷ 10 ∷ []) (read_history text behind room)
  pub taken-input : (bytes : List ℕ) (d : Draft) (rest : List ℕ) (lines : ℕ) → described 64 bytes ≡ answered (read d rest lines)
      → RefusedBy (2 ∷ 6 ∷ 7 ∷ []) (recorded_in bytes)
  -- behind a description that was taken neither 8 nor 3 comes, and 9 only for a table of fewer than 30,912 words
  pub translation : (text : List ℕ) (d : Draft) (rest : List ℕ) (lines room : ℕ) → described 64 text ≡ answered (read d rest lines)
      → RefusedBy (9 ∷ []) (outcome (description_of d) d.laws 64 room)
  pub large-table : (text : List ℕ) (d : Draft) (rest : List ℕ) (lines room : ℕ) → described 64 text ≡ answered (read d rest lines)
      → 30912 ≤ room → RefusedBy [] (outcome (description_of d) d.laws 64 room)
  pub check : (text : List ℕ) (d : Draft) (rest : List ℕ) (lines : ℕ) (values : List ℕ) (room : ℕ)
      → described 64 text ≡ answered (read d rest lines)
      → RefusedBy (9 ∷ 10 ∷ 11 ∷ []) (checked (description_of d) d.laws 64 values room)
  pub causal : (bytes : List ℕ) (d : Draft) (rest : List ℕ) (lines : ℕ) (values : List ℕ)
      → described 64 bytes ≡ answered (read d rest lines)
      → recorded_in bytes ≡ answered values → RefusedBy (11 ∷ []) (reading (description_of d) d.laws 64 values)
