-- What the history reader takes is one value, 0 to 3, for each atom of the description, and never 0 for an action.
-- Assumes nothing.
use Rattle.std.specs.Prelude.{◌≡◌, List, ℕ, ◌-◌, ◌≤◌, length}
use Rattle.basics.specs.Search.{Each}
use Rattle.basics.specs.Replies.{answered}
use Rattle.description_lines.specs.LineSteps.{Draft}
use Rattle.description_lines.specs.Descriptions.{read, described}
use Rattle.history_values.specs.Values.{ActionsValued}
use Rattle.history_reader.specs.Histories.{atoms, read_history}

pub record Valued (description : List ℕ) (room : ℕ) (values : List ℕ) : Type 0 where
  -- the description that the names are taken from
  pub draft : Draft
  pub rest : List ℕ
  pub lines : ℕ
  pub is : described 64 description ≡ answered (read draft rest lines)
  -- as many values as atoms, in a buffer of that length
  pub fills : room ≡ atoms draft
  pub count : length values ≡ atoms draft
  -- 0 none, 1 true, 2 false, 3 both
  pub each : Each (λ v. v ≤ 3) values
  -- no action atom is left at 0
  pub acted : ActionsValued draft.fluents (length draft.names - draft.fluents) draft.horizon values

-- for every history that the reader takes
abbrev pub TakenValued : Type 0
TakenValued =
    (description text : List ℕ) (room : ℕ) (values : List ℕ) → read_history description text room ≡ answered values
    → Valued description room values
