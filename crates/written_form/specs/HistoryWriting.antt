-- Writing a history: each line lists the literals that a run of values holds, in atom order, positive before negative. An action that
-- is false need not be listed (02, §2): a choice tells of each time and action whether it is. Each use of a name has a spelling (02, §3).
-- Assumes nothing.
use Rattle.std.specs.Prelude.{Bool, true, false, cond, not, ◌&&◌, List, [], ◌∷◌, ◌++◌, map, ℕ, zero, suc, ◌+◌, ◌*◌, ◌%◌}
use Rattle.std.specs.Prelude.{eqb, ltb, length, take, drop}
use Rattle.text_forms.specs.Lines.{state_key, act_key, end_key}
use Rattle.history_values.specs.Values.{or_false}
use Rattle.written_form.specs.Writing.{Spelling, line_text, list_text}

-- the codes of place i that a value holds: 0 none, 1 true, 2 false, 3 both
abbrev pub codes_at : ℕ → ℕ → List ℕ
codes_at i v = cond (eqb (v % 2) 1) ((2 * i) ∷ []) [] ++ cond (ltb 1 v) ((2 * i + 1) ∷ []) []

-- the codes listed: false is left out unless the choice lists it
abbrev pub listed_at : Bool → ℕ → ℕ → List ℕ
listed_at listed i v = cond (eqb v 2 && not listed) [] (codes_at i v)

-- the codes listed of values, the first of them at place i, by a choice for each place
abbrev pub codes_from : (ℕ → Bool) → ℕ → List ℕ → List ℕ
codes_from listed i [] = []
codes_from listed i (v ∷ vs) = listed_at (listed i) i v ++ codes_from listed (suc i) vs

-- a state line lists all that its values hold
abbrev pub state_text : List (List ℕ) → (ℕ → List ℕ → List ℕ) → List ℕ → List ℕ
state_text names spell vs = line_text state_key (list_text names spell (codes_from (λ i. true) 0 vs))

-- an act line behind n fluents
abbrev pub act_text : List (List ℕ) → (ℕ → List ℕ → List ℕ) → (ℕ → Bool) → ℕ → List ℕ → List ℕ
act_text names spell listed n vs = line_text act_key (list_text names spell (codes_from listed n vs))

-- the values of a state of n fluents at time t and of k further steps with m actions each, then the end line
abbrev pub steps_text : List (List ℕ) → Spelling → (ℕ → ℕ → Bool) → ℕ → ℕ → ℕ → ℕ → List ℕ → List ℕ
steps_text names spell listed n m t zero vs = state_text names (spell t 0) (take n vs) ++ line_text end_key []
steps_text names spell listed n m t (suc k) vs =
    state_text names (spell t 0) (take n vs)
    ++ (act_text names (spell t 1) (listed t) n (take m (drop n vs)) ++ steps_text names spell listed n m (suc t) k (drop m (drop n vs)))

-- `listed t i` tells whether the name at place i, an action, is listed at time t where it is false
unfoldable pub values_text : ℕ → List (List ℕ) → List (List ℕ) → Spelling → (ℕ → ℕ → Bool) → List ℕ → List ℕ
values_text T fluents actions spell listed vs = steps_text (fluents ++ actions) spell listed (length fluents) (length actions) 0 T vs

-- every action is listed, and the actions done alone
abbrev pub every_action : ℕ → ℕ → Bool
every_action t i = true

abbrev pub only_done : ℕ → ℕ → Bool
only_done t i = false

-- what a history of k steps is read back as, for n fluents and m actions: an action without a value is false, all else is as it is
abbrev pub actions_or_false : ℕ → ℕ → ℕ → List ℕ → List ℕ
actions_or_false n m zero vs = vs
actions_or_false n m (suc k) vs = take n vs ++ (map or_false (take m (drop n vs)) ++ actions_or_false n m k (drop m (drop n vs)))
