-- Writing a description: the text that 01's "Text" and 02, §1 and §3, give for its names, horizon and laws.
-- Assumes nothing.
use Rattle.std.specs.Prelude.{Bool, true, false, not, cond, ◌&&◌, List, [], ◌∷◌, ◌++◌, ℕ, suc, ◌+◌, ◌/◌, ◌%◌, eqb, ltb, get_or}
use Rattle.action_language.specs.declared.Head.{Head}
use Rattle.action_language.specs.declared.Head.TheVariants.{Lit, False}
use Rattle.action_language.specs.declared.Kind.{Kind}
use Rattle.action_language.specs.declared.Kind.TheVariants.{Static, Dynamic}
use Rattle.action_language.specs.declared.Law.{Law}
use Rattle.action_language.specs.Laws.{is_static, if_list, after_list}
use Rattle.spelling.specs.Letters.{same}
use Rattle.text_forms.specs.Bytes.{newline, comma, hyphen, equals_sign}
use Rattle.text_forms.specs.Lines.{keys, horizon_key, fluent_key, action_key, static_key, dynamic_key, if_key, after_key, end_key}
use Rattle.text_forms.specs.Lines.{default_key, inertial_key, causes_key, by_key, nonexecutable_key}
use Rattle.spelling.specs.Spelling.{false_bytes}

abbrev pub line_text : ℕ → List ℕ → List ℕ
line_text key value = get_or keys key [] ++ (equals_sign ∷ []) ++ value ++ (newline ∷ [])

-- a number below 100, without a leading zero
abbrev pub horizon_text : ℕ → List ℕ
horizon_text k = cond (ltb k 10) ((48 + k) ∷ []) ((48 + k / 10) ∷ (48 + k % 10) ∷ [])

-- how a name is spelled where it is used: by the law (in a history, the time), the line of that law (0 for state, 1 for act) and the
-- place in that line's list, all counted from 0. A use of `false` is spelled too
abbrev pub Spelling : Type 0
Spelling = ℕ → ℕ → ℕ → List ℕ → List ℕ

-- each use as the name was declared
abbrev pub as_declared : Spelling
as_declared law line place name = name

-- the literal of code 2i or 2i + 1 has the name at place i, fluents first
abbrev pub literal_text : List (List ℕ) → (List ℕ → List ℕ) → ℕ → List ℕ
literal_text names spell c = cond (eqb (c % 2) 0) (spell (get_or names (c / 2) [])) (hyphen ∷ spell (get_or names (c / 2) []))

abbrev pub list_text : List (List ℕ) → (ℕ → List ℕ → List ℕ) → List ℕ → List ℕ
list_text names spell [] = []
list_text names spell (c ∷ []) = literal_text names (spell 0) c
list_text names spell (c ∷ d ∷ cs) = literal_text names (spell 0) c ++ (comma ∷ []) ++ list_text names (λ place. spell (suc place)) (d ∷ cs)

abbrev pub head_text : List (List ℕ) → (ℕ → List ℕ → List ℕ) → Head → List ℕ
head_text names spell (Lit c) = literal_text names (spell 0) c
head_text names spell False = spell 0 false_bytes

-- how a law is written: in full, or by the short lines of 02, §1
pub data Form : Type 0 where
  in_full as_default as_inertial as_causes as_nonexecutable : Form

-- a list that holds the head and nothing else; no list holds false
abbrev pub only_head : Head → List ℕ → Bool
only_head (Lit c) cs = same cs (c ∷ [])
only_head False cs = false

abbrev pub is_false : Head → Bool
is_false (Lit c) = false
is_false False = true

-- whether a form stands for a law. Default: static, the if-list is the head L alone. Inertial: dynamic, and so are both lists.
-- Causes: dynamic, with an empty if-list. Nonexecutable: that with head false. A static law's after-list is not looked at
abbrev pub has_form : Form → Law → Bool
has_form in_full l = true
has_form as_default l = is_static l.kind && only_head l.head (if_list l)
has_form as_inertial l = not (is_static l.kind) && only_head l.head (if_list l) && only_head l.head (after_list l)
has_form as_causes l = not (is_static l.kind) && same (if_list l) []
has_form as_nonexecutable l = not (is_static l.kind) && same (if_list l) [] && is_false l.head

-- the chosen form where the law has it, else in full
abbrev pub written_as : Form → Law → Form
written_as form l = cond (has_form form l) form in_full

-- the text of a law in full, by its kind
abbrev pub full_text : List (List ℕ) → (ℕ → ℕ → List ℕ → List ℕ) → Kind → Law → List ℕ
full_text names spell Static l =
    line_text static_key (head_text names (spell 0) l.head) ++ line_text if_key (list_text names (spell 1) (if_list l))
full_text names spell Dynamic l =
    line_text dynamic_key (head_text names (spell 0) l.head)
    ++ line_text if_key (list_text names (spell 1) (if_list l))
    ++ line_text after_key (list_text names (spell 2) (after_list l))

-- the text of a law that has a form
abbrev pub form_text : List (List ℕ) → (ℕ → ℕ → List ℕ → List ℕ) → Form → Law → List ℕ
form_text names spell in_full l = full_text names spell l.kind l
form_text names spell as_default l = line_text default_key (head_text names (spell 0) l.head)
form_text names spell as_inertial l = line_text inertial_key (head_text names (spell 0) l.head)
form_text names spell as_causes l =
    line_text causes_key (head_text names (spell 0) l.head) ++ line_text by_key (list_text names (spell 1) (after_list l))
form_text names spell as_nonexecutable l = line_text nonexecutable_key (list_text names (spell 0) (after_list l))

abbrev pub law_text : List (List ℕ) → (ℕ → ℕ → List ℕ → List ℕ) → Form → Law → List ℕ
law_text names spell form l = form_text names spell (written_as form l) l

-- law number i and those behind it, each in the form and by the spellings chosen for its number
abbrev pub laws_text : List (List ℕ) → (ℕ → Form) → Spelling → ℕ → List Law → List ℕ
laws_text names forms spell i [] = []
laws_text names forms spell i (l ∷ ls) = law_text names (spell i) (forms i) l ++ laws_text names forms spell (suc i) ls

abbrev pub names_text : ℕ → List (List ℕ) → List ℕ
names_text key [] = []
names_text key (x ∷ xs) = line_text key x ++ names_text key xs

unfoldable pub description_text : ℕ → List (List ℕ) → List (List ℕ) → (ℕ → Form) → Spelling → List Law → List ℕ
description_text T fluents actions forms spell ls =
    line_text horizon_key (horizon_text T) ++ names_text fluent_key fluents ++ names_text action_key actions
    ++ laws_text (fluents ++ actions) forms spell 0 ls
    ++ line_text end_key []
