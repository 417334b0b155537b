-- Reading a history: state, act, state, .., act, state, then end (01, "Text"; 02, §2).
-- Assumes nothing.
use Rattle.std.specs.Prelude.{◌≡◌, cond, List, [], ◌∷◌, ℕ, zero, suc, ◌+◌, ◌-◌, ◌*◌, eqb, ltb, length, replicate, Result, Ok, Err}
use Rattle.std.proofs.Math.Option.{Option, none, some}
use Rattle.basics.specs.Replies.{Reply, refused, answered, or_refuse, left_after}
use Rattle.action_language.specs.Atoms.{atom_count, wrong_length}
use Rattle.basics.specs.declared.Refusal.{Refusal}
use Rattle.basics.specs.Refusals.{tested_of}
use Rattle.text_forms.specs.Lines.{state_key, act_key, end_key, Line, first_line}
use Rattle.text_forms.specs.Lists as lists
use Rattle.text_forms.specs.Lists.{Listed, codes, list_of}
use Rattle.description_lines.specs.LineSteps.{Draft}
use Rattle.description_lines.specs.Descriptions.{Taken, read, described}
use Rattle.history_values.specs.Values.{with_literals, filled, ActionsValued}

-- where bytes remain behind the end line: 7 at the next line
abbrev pub at_end : List ℕ → ℕ → List ℕ → Reply (List ℕ)
at_end vs line [] = answered vs
at_end vs line (b ∷ bs) = refused 7 (suc line)

abbrev pub history_end : Option Line → ℕ → List ℕ → Reply (List ℕ)
history_end none line vs = refused 2 line
history_end (some l) line vs =
    cond (eqb l.key end_key) (emptied l.value (at_end vs line l.rest)) (refused 2 line)
  where
    emptied : List ℕ → Reply (List ℕ) → Reply (List ℕ)
    emptied [] next = next
    emptied (b ∷ bs) next = refused 2 line

-- a line of literals with the key that is due; the places of its sort are from low up to, not including, high. `most` is more
-- than a text can hold, since state and act lists are of any number
abbrev pub most : ℕ
most = 65536

abbrev pub listed : Listed → ℕ → ℕ → List ℕ → (List ℕ → Reply (List ℕ)) → Reply (List ℕ)
listed (lists.refused k) line base vs go = refused k line
listed (codes cs) line base vs go = go (with_literals base vs cs)

abbrev pub list_line : Draft → ℕ → ℕ → ℕ → Option Line → ℕ → ℕ → List ℕ → (List ℕ → List ℕ → Reply (List ℕ)) → Reply (List ℕ)
list_line d key low high none line base vs go = refused 2 line
list_line d key low high (some l) line base vs go =
    cond (eqb l.key key)
    (listed (list_of d.names low high most l.value) line base vs (λ vs'. go vs' l.rest))
    (refused 2 line)

abbrev pub state_line : Draft → Option Line → ℕ → ℕ → List ℕ → (List ℕ → List ℕ → Reply (List ℕ)) → Reply (List ℕ)
state_line d first line t vs go = list_line d state_key 0 d.fluents first line (t * length d.names) vs go

-- an action absent from its act line has value false (02, §2)
abbrev pub undone_false : Draft → ℕ → List ℕ → List ℕ
undone_false d t vs = filled (t * length d.names + d.fluents) (length d.names - d.fluents) vs

abbrev pub act_line : Draft → Option Line → ℕ → ℕ → List ℕ → (List ℕ → List ℕ → Reply (List ℕ)) → Reply (List ℕ)
act_line d first line t vs go =
    list_line d act_key d.fluents (length d.names) first line (t * length d.names) vs
    (λ vs' rest. go (undone_false d t vs') rest)

-- the state at time t, and k more steps: two lines a step
abbrev pub states_from : ℕ → Draft → ℕ → ℕ → List ℕ → List ℕ → Reply (List ℕ)
states_from zero d t line vs text =
    state_line d (first_line text) line t vs (λ vs' rest. history_end (first_line rest) (suc line) vs')
states_from (suc k) d t line vs text =
    state_line d (first_line text) line t vs
    (λ vs' rest.
    act_line d (first_line rest) (suc line) t vs' (λ vs'' rest'. states_from k d (suc t) (suc (suc line)) vs'' rest'))

abbrev pub atoms : Draft → ℕ
atoms d = atom_count d.fluents (length d.names - d.fluents) d.horizon

-- 10 before 1
abbrev pub recorded : Draft → List ℕ → ℕ → Reply (List ℕ)
recorded d text room =
    or_refuse (wrong_length (atoms d) room) 10
    (cond (ltb 65535 (length text)) (refused 1 0) (states_from d.horizon d 0 1 (replicate (atoms d) 0) text))

abbrev pub by_names : Reply Taken → List ℕ → ℕ → Reply (List ℕ)
by_names (refused number place) text room = refused number place
by_names (answered (read d rest lines)) text room = recorded d text room

-- the history text is read by the names of the description text, whose own refusal comes first; no law run counts there
unfoldable pub read_history : List ℕ → List ℕ → ℕ → Reply (List ℕ)
read_history description text room = by_names (described 64 description) text room

-- what the values buffer holds afterwards
abbrev pub values_left : Reply (List ℕ) → List ℕ → List ℕ
values_left reply old = left_after reply (λ vs. vs) old

-- the reply that the code's answer stands for
abbrev pub history_reply_of : Result Unit Refusal → Reply Unit
history_reply_of = tested_of

abbrev pub history_replied : Reply (List ℕ) → Reply Unit
history_replied (refused number place) = refused number place
history_replied (answered vs) = answered tt

-- unless the reader refuses, no action atom is left at 0: for whatever description the names are taken from
abbrev pub ActionsFilled : List ℕ → Result Unit Refusal → List ℕ → Type 0
ActionsFilled description (Err refusal) vs = Unit
ActionsFilled description (Ok read_whole) vs =
    (d : Draft) (rest : List ℕ) (lines : ℕ) → described 64 description ≡ answered (read d rest lines)
    → ActionsValued d.fluents (length d.names - d.fluents) d.horizon vs
