-- Which answers changed with 02, §5: exactly those where an atom with both values lies below the first atom with none. They were
-- missing and became clash.
-- Assumes nothing.
use Rattle.std.specs.Prelude.{◌≡◌, ◌↔◌, List, ℕ, ◌<◌, length}
use Rattle.basics.specs.Search.{Lowest}
use Rattle.basics.specs.Replies.{Reply, refused, answered}
use Rattle.answer_set_theory.specs.Verdicts.{clash}
use Rattle.action_language.specs.declared.Law.{Law}
use Rattle.action_language.specs.declared.Description.{Description}
use Rattle.completion_theory.specs.Findings as formulas
use Rattle.completion_theory.specs.Answers as completion
use Rattle.logic_programs.specs.Literals.{NoValue, BothValues}
use Rattle.history_check.specs.Checks as history
use Rattle.former_answers.specs.Former.{former_checked, former_answer, former_answer_by_levels}

-- some atom with both values lies below the first atom with none
abbrev pub BothBelowNone : List ℕ → Type 0
BothBelowNone vs = (a : ℕ) × Lowest (NoValue vs) (length vs) a × ((b : ℕ) × (b < a) × BothValues vs b)

-- the reply is no refusal
abbrev pub Answers : {A : Type 0} → Reply A → Type 0
Answers {A} reply = (said : A) × (reply ≡ answered said)

-- the former and the present reply to the same values, by what is said of an atom with none and of one with both
pub record Changed {A : Type 0} (missing both : ℕ → A) (vs : List ℕ) (former present : Reply A) : Type 0 where
  -- refusals stayed
  pub refused-same : (number place : ℕ) → former ≡ refused number place ↔ present ≡ refused number place
  pub differ-exactly : (former ≡ present → ⊥) ↔ (Answers present × BothBelowNone vs)
  -- at the first atom with none, and at the lowest with both
  pub became : Answers present → (a b : ℕ) → Lowest (NoValue vs) (length vs) a → Lowest (BothValues vs) (length vs) b → b < a
      → (former ≡ answered (missing a)) × (present ≡ answered (both b))

abbrev pub HistoryChanged : Type 0
HistoryChanged =
    (d : Description) (ls : List Law) (lent : ℕ) (vs : List ℕ) (room : ℕ)
    → Changed history.missing (λ b. history.judged (clash b)) vs (former_checked d ls lent vs room) (history.checked d ls lent vs room)

abbrev pub FormulasChanged : Type 0
FormulasChanged = (vs ws : List ℕ) → Changed formulas.missing formulas.clash vs (former_answer vs ws) (completion.answer vs ws)

abbrev pub LevelsChanged : Type 0
LevelsChanged =
    (vs ws levels : List ℕ)
    → Changed formulas.missing formulas.clash vs (former_answer_by_levels vs ws levels) (completion.answer_by_levels vs ws levels)
