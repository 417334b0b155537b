-- Internal: what the crate's own functions promise each other, and what `read_alone` promises the history reader. No promise of
-- `read_description`, nor of the history reader, rests on it; a reader may pass it over.
-- Assumes nothing.
use Rattle.std.proofs.Math.Option as found
use Rattle.std.specs.Prelude.{◌≡◌, Bool, false, cond, ◌&&◌, ◌||◌, List, [], ℕ, ◌+◌, ◌≤◌, eqb, ltb, length, take, drop}
use Rattle.std.specs.Prelude.{Option, Some, None, Result, Ok, Err, IfErr}
use Rattle.basics.specs.declared.Reason.{Reason}
use Rattle.basics.specs.declared.Reason.TheVariants.{BadLiteral}
use Rattle.basics.specs.Refusals.{number_of, is_own}
use Rattle.action_language.specs.declared.Law.{Law}
use Rattle.description_reader.specs.declared.states.ReaderState.{ReaderState}
use Rattle.description_reader.specs.declared.states.Line.{Line}
use Rattle.description_reader.specs.declared.declarations.Declarations.{Declarations}
use Rattle.description_reader.specs.declared.descriptions.Ending.{Ending}
use Rattle.description_reader.specs.declared.states.Due as code
use Rattle.description_reader.specs.declared.states.Due.TheVariants as code-due
use Rattle.description_reader.specs.declared.codes.Codes.{Codes}
use Rattle.text_forms.specs.Lines.{horizon_key, fluent_key, action_key, static_key, dynamic_key, if_key, after_key}
use Rattle.text_forms.specs.Lines.{default_key, inertial_key, causes_key, by_key, nonexecutable_key}
use Rattle.text_forms.specs.Lists as lists
use Rattle.text_forms.specs.Lists.{Listed, codes, added}
use Rattle.text.specs.Internal.{spelled}
use Rattle.text_forms.specs.NamePlaces.{names_in}
use Rattle.description_lines.specs.LineSteps.{Due, horizon_due, first_fluent_due, fluent_due, action_due, law_due}
use Rattle.description_lines.specs.LineSteps.{if_due, after_due, by_due, Draft, allowed}
use Rattle.description_lines.specs.LineSteps as step
use Rattle.description_lines.specs.LineSteps.{Step, next, finish, horizon_line, fluent_line, action_line, law_line}
use Rattle.description_lines.specs.LineSteps.{if_line, after_line, literal_line, whole_by_list, nonexecutable_line}
use Rattle.description_lines.specs.LineSteps.{end_line, law_in}
use Rattle.line_values.specs.HorizonText.{horizon_of}
use Rattle.line_values.specs.ShortLaws.{default_law, inertial_law, causes_law}
use Rattle.action_language.specs.declared.Kind.TheVariants.{Static, Dynamic}
use Rattle.action_language.specs.Laws.{law_of}
use Rattle.basics.specs.Replies.{answered}
use Rattle.description_lines.specs.Descriptions.{Taken, read, described}

-- the codes gathered so far, and a list's codes or its refusal
abbrev pub codes_in : Codes → List ℕ
codes_in list = take list.places.count list.places.codes

abbrev pub listed_of : Result Unit Reason → Codes → Listed
listed_of (Ok taken) list = codes (codes_in list)
listed_of (Err reason) list = lists.refused (number_of reason)

-- a line's refusal has a reason of its own number: none is a caller's own
abbrev pub NumberedReason : {R : Type 0} → Result R Reason → Type 0
NumberedReason result = IfErr result (λ reason. is_own reason ≡ false)

-- one more item behind those of a list: refusal 5 of a seventh, then 6
abbrev pub one_more : List ℕ → found.Option ℕ → Listed
one_more done code = cond (ltb (length done) 6) (added done code codes) (lists.refused 5)

-- what is due
abbrev pub due_of : code.Due → Due
due_of code-due.Horizon = horizon_due
due_of code-due.FirstFluent = first_fluent_due
due_of code-due.Fluent = fluent_due
due_of code-due.Action = action_due
due_of code-due.NewLaw = law_due
due_of (code-due.If kind head) = if_due (law_of kind head [] [])
due_of (code-due.After law) = after_due law
due_of (code-due.By head) = by_due (law_of Dynamic head [] [])

-- the draft that the reader's state stands for, and the step that a line's answer and the state behind it do
abbrev pub draft_of : List ℕ → ReaderState → Draft
draft_of text s =
    record {
      horizon = s.horizon;
      fluents = s.fluents;
      names = spelled text s.names;
      laws = take s.count s.laws;
    }

abbrev pub goes_on : Option code.Due → Draft → Step
goes_on None d = finish d
goes_on (Some due) d = next (due_of due) d

abbrev pub step_of : List ℕ → Result Unit Reason → ReaderState → Step
step_of text (Ok done) s = goes_on s.due (draft_of text s)
step_of text (Err reason) s = step.refused (number_of reason)

-- what no line changes: how many laws are lent; and what every line keeps that declares no name
pub record Keeps (s r : ReaderState) : Type 0 where
  pub lent : r.lent ≡ s.lent
  pub names : r.names ≡ s.names

-- a line's value
abbrev pub value_in : Line → List ℕ
value_in line = take line.place.length (drop line.place.start line.text.now)

-- what was read, or refusal 6
abbrev pub read_or : {A : Type 0} → found.Option A → Result A Reason
read_or found.none = Err BadLiteral
read_or (found.some value) = Ok value

-- a line that is a name, a new law or the end, by its key
abbrev pub later_line : ℕ → Draft → ℕ → List ℕ → Listed → Step
later_line lent d key value list =
    cond (eqb key fluent_key) (fluent_line d value)
    (cond (eqb key action_key) (action_line d value)
    (cond (eqb key static_key) (law_line lent if_due d Static value)
    (cond (eqb key dynamic_key) (law_line lent if_due d Dynamic value)
    (cond (eqb key default_key) (literal_line lent d default_law value)
    (cond (eqb key inertial_key) (literal_line lent d inertial_law value)
    (cond (eqb key causes_key) (law_line lent by_due d Dynamic value)
    (cond (eqb key nonexecutable_key) (nonexecutable_line lent d list) (end_line d value))))))))

-- a line's step where its list, if it has one, is read already
unfoldable pub step_with : ℕ → Due → Draft → ℕ → List ℕ → Listed → Step
step_with lent due d key value list =
    cond (allowed due key)
    (cond (eqb key if_key) (if_line d (law_in due) list)
    (cond (eqb key after_key) (after_line d (law_in due) list)
    (cond (eqb key by_key) (whole_by_list d (causes_law (law_in due).head) list)
    (cond (eqb key horizon_key) (horizon_line d (horizon_of value)) (later_line lent d key value list)))))
    (step.refused 2)

-- whether a line has a list to be read: a law that is a list has none where there is no room for the law
abbrev pub is_list_key : ℕ → Bool → Bool
is_list_key key room = eqb key if_key || eqb key after_key || eqb key by_key || (eqb key nonexecutable_key && room)

-- where a line's items begin: behind the end where there are none to read
unfoldable pub items_from : Due → ℕ → Bool → ℕ → ℕ
items_from due key room size = cond (ltb 0 size && (allowed due key && is_list_key key room)) 0 (size + 1)

abbrev pub high_for : ℕ → ReaderState → ℕ
high_for key s = cond (eqb key if_key) s.fluents s.names.count

-- what the reader's ending stands for
abbrev pub taken_by : List ℕ → Ending → Taken
taken_by text e = read (draft_of text e.state) (drop e.at text) e.line

pub record Ended (most : ℕ) (text : List ℕ) (e : Ending) : Type 0 where
  pub within : e.at ≤ length text
  pub lent : e.state.lent ≡ most
  pub names : e.state.names ≡ names_in e.line text

-- the draft that declarations make with some laws
abbrev pub draft_by : List ℕ → List Law → Declarations → Draft
draft_by text laws r = record { horizon = r.horizon; fluents = r.fluents; names = spelled text r.names; laws = laws }

-- what is read alone is what the text declares, with some laws
pub record Declares (text : List ℕ) (r : Declarations) : Type 0 where
  pub laws : List Law
  pub rest : List ℕ
  pub is : described 64 text ≡ answered (read (draft_by text laws r) rest r.lines)
