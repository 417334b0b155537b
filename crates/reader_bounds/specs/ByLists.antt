-- A second reading of a history's values: by which literals each line lists, and not by marking one after another (01, "Atoms and
-- values"; 02, §2).
-- Assumes nothing.
use Rattle.std.specs.Prelude.{◌≡◌, Bool, false, cond, ◌||◌, List, [], ◌∷◌, ◌++◌, ℕ, zero, suc, ◌+◌, ◌-◌, ◌*◌, eqb, length}
use Rattle.std.proofs.Math.Option.{some}
use Rattle.basics.specs.Replies.{answered}
use Rattle.text_forms.specs.Lines.{state_key, act_key, Line, first_line}
use Rattle.text_forms.specs.Lists.{codes, list_of}
use Rattle.description_lines.specs.LineSteps.{Draft}
use Rattle.description_lines.specs.Descriptions.{read, described}
use Rattle.history_reader.specs.Histories.{most, read_history}

-- whether a code is listed
abbrev pub lists : List ℕ → ℕ → Bool
lists [] c = false
lists (x ∷ xs) c = eqb x c || lists xs c

-- the value of a fluent by whether its state line lists its positive and its negative literal
abbrev pub fluent_value : Bool → Bool → ℕ
fluent_value pos neg = cond pos (cond neg 3 1) (cond neg 2 0)

-- the value of an action by its act line: listed as a fluent is, absent it is false
abbrev pub action_value : Bool → Bool → ℕ
action_value pos neg = cond pos (cond neg 3 1) 2

-- the values of k names from place i on, by which codes are listed
abbrev pub values_by : (Bool → Bool → ℕ) → (ℕ → Bool) → ℕ → ℕ → List ℕ
values_by value has i zero = []
values_by value has i (suc k) = value (has (2 * i)) (has (2 * i + 1)) ∷ values_by value has (suc i) k

-- the values of n fluents and m actions by the lists of a history: state, act, state, .., act, state
abbrev pub values_of : ℕ → ℕ → List (List ℕ) → List ℕ
values_of n m [] = []
values_of n m (state ∷ []) = values_by fluent_value (lists state) 0 n
values_of n m (state ∷ act ∷ more) =
    values_by fluent_value (lists state) 0 n ++ (values_by action_value (lists act) n m ++ values_of n m more)

-- a text begins with a line of this key, which lists these codes of the names from low up to, not including, high
pub record LineLists (d : Draft) (key low high : ℕ) (text cs rest : List ℕ) : Type 0 where
  pub line : Line
  pub is : first_line text ≡ some line
  pub due : line.key ≡ key
  pub list : list_of d.names low high most line.value ≡ codes cs
  pub behind : line.rest ≡ rest

-- a text begins with the lines of a history of k steps, which have these lists
pub data HistoryLists (d : Draft) : ℕ → List ℕ → List (List ℕ) → Type 0 where
  last : (text state rest : List ℕ) → LineLists d state_key 0 d.fluents text state rest → HistoryLists d zero text (state ∷ [])
  step : (k : ℕ) (text state rest act rest' : List ℕ) (more : List (List ℕ)) → LineLists d state_key 0 d.fluents text state rest
      → LineLists d act_key d.fluents (length d.names) rest act rest' → HistoryLists d k rest' more
      → HistoryLists d (suc k) text (state ∷ act ∷ more)

-- the values are those of the lists that the text's lines have
pub record ByLists (d : Draft) (text values : List ℕ) : Type 0 where
  pub lines : List (List ℕ)
  pub has : HistoryLists d d.horizon text lines
  pub are : values ≡ values_of d.fluents (length d.names - d.fluents) lines

-- for every history that the reader takes, by whatever description its names are taken from
abbrev pub ReadByLists : Type 0
ReadByLists =
    (description text : List ℕ) (room : ℕ) (values : List ℕ) (d : Draft) (rest : List ℕ) (lines : ℕ)
    → described 64 description ≡ answered (read d rest lines) → read_history description text room ≡ answered values → ByLists d text values
