-- Internal: what the crate's own functions promise each other. No public promise rests on it; a reader may pass it over.
-- Assumes nothing.
use Rattle.std.specs.Prelude.{Bool, cond, List, ℕ, zero, suc, ◌+◌, ◌-◌, ◌*◌, ◌/◌, ◌%◌, eqb, ltb, length, Result, Ok, Err}
use Rattle.basics.specs.declared.Reason.{Reason}
use Rattle.basics.specs.declared.Refusal.{Refusal}
use Rattle.basics.specs.Refusals.{number_of}
use Rattle.basics.specs.Replies.{Reply, refused, answered}
use Rattle.action_language.specs.Atoms.{atom_count}
use Rattle.history_reader.specs.declared.histories.Wanted.{Wanted}
use Rattle.description_reader.specs.declared.declarations.Declarations.{Declarations}
use Rattle.text_forms.specs.declared.Key.{Key}
use Rattle.text_forms.specs.declared.Key.TheVariants.{State, Act}
use Rattle.text_forms.specs.Lines.{first_line, state_key, act_key}
use Rattle.description_lines.specs.LineSteps.{Draft}
use Rattle.history_values.specs.Values.{filled}
use Rattle.history_reader.specs.Histories.{history_end, list_line}

-- odd lines are states, even ones acts; two lines a time
abbrev pub is_state : ℕ → Bool
is_state line = eqb (line % 2) 1

abbrev pub key_at : ℕ → ℕ
key_at line = cond (is_state line) state_key act_key

abbrev pub low_at : ℕ → ℕ → ℕ
low_at fluents line = cond (is_state line) 0 fluents

abbrev pub high_at : ℕ → ℕ → ℕ → ℕ
high_at fluents count line = cond (is_state line) fluents count

abbrev pub base_at : ℕ → ℕ → ℕ
base_at count line = (line - 1) / 2 * count

-- the actions that a line does not list: between the fluents and the end of the line's sort, which is none in a state line
abbrev pub filled_at : ℕ → ℕ → ℕ → List ℕ → List ℕ
filled_at fluents count line vs = filled (base_at count line + fluents) (high_at fluents count line - fluents) vs

-- n more lines of literals, then the end line
abbrev pub record_from : ℕ → Draft → ℕ → List ℕ → List ℕ → Reply (List ℕ)
record_from zero d line vs text = history_end (first_line text) line vs
record_from (suc n) d line vs text =
    list_line d (key_at line) (low_at d.fluents line) (high_at d.fluents (length d.names) line) (first_line text)
    line (base_at (length d.names) line) vs
    (λ vs' rest. record_from n d (suc line) (filled_at d.fluents (length d.names) line vs') rest)

abbrev pub due_key : ℕ → Key
due_key line = cond (is_state line) State Act

abbrev pub wanted_at : ℕ → ℕ → ℕ → Wanted
wanted_at fluents count line =
    record { key = due_key line; low = low_at fluents line; high = high_at fluents count line; base = base_at count line }

abbrev pub place_from : ℕ → ℕ
place_from size = cond (ltb 0 size) 0 (size + 1)

-- what a list that was read says of its line: what comes next, or the refusal
abbrev pub marked_by : Result Unit Reason → ℕ → Reply (List ℕ) → Reply (List ℕ)
marked_by (Ok read_whole) line next = next
marked_by (Err reason) line next = refused (number_of reason) line

-- what a history that was read says of the values that it marked
abbrev pub read_as : Result Unit Refusal → List ℕ → Reply (List ℕ)
read_as (Ok read_whole) vs = answered vs
read_as (Err refusal) vs = refused (number_of refusal.reason) refusal.place

abbrev pub atoms_of : Declarations → ℕ
atoms_of r = atom_count r.fluents (r.names.count - r.fluents) r.horizon
