-- What one line of a description does (01, "Text" and "Where a call can be turned down"; 02, §1).
-- Assumes nothing.
use Rattle.std.specs.Prelude.{Bool, cond, ◌||◌, List, [], ◌∷◌, ◌++◌, ℕ, suc, ◌+◌, min, eqb, ltb, length}
use Rattle.std.proofs.Math.Option.{Option, none, some}
use Rattle.action_language.specs.declared.Head.{Head}
use Rattle.action_language.specs.declared.Head.TheVariants.{Lit, False}
use Rattle.action_language.specs.declared.Kind.{Kind}
use Rattle.action_language.specs.declared.Kind.TheVariants.{Static, Dynamic}
use Rattle.action_language.specs.declared.Law.{Law}
use Rattle.action_language.specs.Laws.{padded, law_of, no_law}
use Rattle.text_forms.specs.Lines.{horizon_key, fluent_key, action_key, static_key, dynamic_key, if_key, after_key, end_key}
use Rattle.text_forms.specs.Lines.{default_key, inertial_key, causes_key, by_key, nonexecutable_key}
use Rattle.spelling.specs.Spelling.{same_name, false_bytes}
use Rattle.text_forms.specs.Names.{is_new, literal}
use Rattle.text_forms.specs.Lists as lists
use Rattle.text_forms.specs.Lists.{Listed, codes, list_of}
use Rattle.line_values.specs.HorizonText.{horizon_of}
use Rattle.line_values.specs.ShortLaws.{default_law, inertial_law, causes_law, nonexecutable_law}

-- what is due: the horizon, the first fluent, a further fluent or what follows, an action or what follows, a law or the end,
-- the if-list of a law that has begun, its after-list, the list of what causes its head
pub data Due : Type 0 where
  horizon_due first_fluent_due fluent_due action_due law_due : Due
  if_due after_due by_due : Law → Due

-- what has been read: the horizon, how many of the names are fluents, the names (fluents first), and the laws
pub record Draft : Type 0 where
  pub horizon : ℕ
  pub fluents : ℕ
  pub names : List (List ℕ)
  pub laws : List Law

-- a law starts with one of these, in full or short
abbrev pub starts_law : ℕ → Bool
starts_law k =
    eqb k static_key || eqb k dynamic_key || eqb k default_key || eqb k inertial_key || eqb k causes_key || eqb k nonexecutable_key

-- the keys that may stand where something is due
abbrev pub allowed : Due → ℕ → Bool
allowed horizon_due k = eqb k horizon_key
allowed first_fluent_due k = eqb k fluent_key
allowed fluent_due k = eqb k fluent_key || eqb k action_key || starts_law k || eqb k end_key
allowed action_due k = eqb k action_key || starts_law k || eqb k end_key
allowed law_due k = starts_law k || eqb k end_key
allowed (if_due l) k = eqb k if_key
allowed (after_due l) k = eqb k after_key
allowed (by_due l) k = eqb k by_key

-- what a line comes to: a refusal's number, what is due next, or the end of the description
pub data Step : Type 0 where
  refused : ℕ → Step
  next : Due → Draft → Step
  finish : Draft → Step

abbrev pub horizon_line : Draft → Option ℕ → Step
horizon_line d none = refused 3
horizon_line d (some T) =
    next first_fluent_due (record { horizon = T; fluents = d.fluents; names = d.names; laws = d.laws })

-- a new name: 5 before its spelling, then 4. `fits`: there is a place for it; `fluents`: how many there are behind it
abbrev pub name_line : Bool → Due → ℕ → Draft → List ℕ → Step
name_line fits due fluents d value =
    cond fits
    (cond (is_new d.names value)
    (next due (record { horizon = d.horizon; fluents = fluents; names = d.names ++ (value ∷ []); laws = d.laws }))
    (refused 4))
    (refused 5)

abbrev pub fluent_line : Draft → List ℕ → Step
fluent_line d value = name_line (ltb d.fluents 24) fluent_due (suc d.fluents) d value

abbrev pub action_line : Draft → List ℕ → Step
action_line d value = name_line (ltb (length d.names) (d.fluents + 8)) action_due d.fluents d value

-- a law's head: false, in any mix of capitals, or a fluent literal
abbrev pub lit_head : Option ℕ → Option Head
lit_head none = none
lit_head (some c) = some (Lit c)

unfoldable pub read_head : List (List ℕ) → ℕ → List ℕ → Option Head
read_head names fluents value = cond (same_name value false_bytes) (some False) (lit_head (literal names 0 fluents value))

-- a law begins, and the list that follows its head is due
abbrev pub begun : (Law → Due) → Draft → Kind → Option Head → Step
begun due d kind none = refused 6
begun due d kind (some h) = next (due (law_of kind h [] [])) d

-- there is a place for a new law, of at most 64 and of those lent
abbrev pub room_for : ℕ → Draft → Bool
room_for lent d = ltb (length d.laws) (min 64 lent)

-- a new law: 5 before its head's spelling
abbrev pub law_line : ℕ → (Law → Due) → Draft → Kind → List ℕ → Step
law_line lent due d kind value = cond (room_for lent d) (begun due d kind (read_head d.names d.fluents value)) (refused 5)

-- a law is whole behind its if-list if it is static, else behind its after-list
abbrev pub whole : Draft → Law → Draft
whole d l = record { horizon = d.horizon; fluents = d.fluents; names = d.names; laws = d.laws ++ (l ∷ []) }

abbrev pub with_if : Draft → Kind → Head → List ℕ → Step
with_if d Static head cs = next law_due (whole d (law_of Static head cs []))
with_if d Dynamic head cs = next (after_due (law_of Dynamic head cs [])) d

abbrev pub if_line : Draft → Law → Listed → Step
if_line d l (lists.refused k) = refused k
if_line d l (codes cs) = with_if d l.kind l.head cs

abbrev pub with_after : Law → List ℕ → Law
with_after l cs =
    record {
      kind = l.kind;
      head = l.head;
      if_count = l.if_count;
      if_codes = l.if_codes;
      after_count = length cs;
      after_codes = padded cs;
    }

abbrev pub after_line : Draft → Law → Listed → Step
after_line d l (lists.refused k) = refused k
after_line d l (codes cs) = next law_due (whole d (with_after l cs))

-- the short laws, each whole behind its last line: of a fluent literal, or of a list
abbrev pub whole_by_literal : Draft → (ℕ → Law) → Option ℕ → Step
whole_by_literal d law none = refused 6
whole_by_literal d law (some c) = next law_due (whole d (law c))

abbrev pub whole_by_list : Draft → (List ℕ → Law) → Listed → Step
whole_by_list d law (lists.refused k) = refused k
whole_by_list d law (codes cs) = next law_due (whole d (law cs))

-- a new law of a fluent literal: 5 before its spelling
abbrev pub literal_line : ℕ → Draft → (ℕ → Law) → List ℕ → Step
literal_line lent d law value = cond (room_for lent d) (whole_by_literal d law (literal d.names 0 d.fluents value)) (refused 5)

-- a new law of a list: 5 before the list's items
abbrev pub nonexecutable_line : ℕ → Draft → Listed → Step
nonexecutable_line lent d list = cond (room_for lent d) (whole_by_list d nonexecutable_law list) (refused 5)

abbrev pub end_line : Draft → List ℕ → Step
end_line d [] = finish d
end_line d (b ∷ bs) = refused 2

-- the law that has begun; no list is allowed where none has
abbrev pub law_in : Due → Law
law_in horizon_due = no_law
law_in first_fluent_due = no_law
law_in fluent_due = no_law
law_in action_due = no_law
law_in law_due = no_law
law_in (if_due l) = l
law_in (after_due l) = l
law_in (by_due l) = l

-- a list of fluent literals, and one of literals of either sort: a fluent literal's place is below the number of fluents
abbrev pub fluent_list : Draft → List ℕ → Listed
fluent_list d value = list_of d.names 0 d.fluents 6 value

abbrev pub any_list : Draft → List ℕ → Listed
any_list d value = list_of d.names 0 (length d.names) 6 value

-- a line whose key is allowed, by its key
abbrev pub key_line : ℕ → Due → Draft → ℕ → List ℕ → Step
key_line lent due d key value =
    cond (eqb key horizon_key) (horizon_line d (horizon_of value))
    (cond (eqb key fluent_key) (fluent_line d value)
    (cond (eqb key action_key) (action_line d value)
    (cond (eqb key static_key) (law_line lent if_due d Static value)
    (cond (eqb key dynamic_key) (law_line lent if_due d Dynamic value)
    (cond (eqb key if_key) (if_line d (law_in due) (fluent_list d value))
    (cond (eqb key after_key) (after_line d (law_in due) (any_list d value))
    (cond (eqb key default_key) (literal_line lent d default_law value)
    (cond (eqb key inertial_key) (literal_line lent d inertial_law value)
    (cond (eqb key causes_key) (law_line lent by_due d Dynamic value)
    (cond (eqb key by_key) (whole_by_list d (causes_law (law_in due).head) (any_list d value))
    (cond (eqb key nonexecutable_key) (nonexecutable_line lent d (any_list d value)) (end_line d value))))))))))))

unfoldable pub line_step : ℕ → Due → Draft → ℕ → List ℕ → Step
line_step lent due d key value = cond (allowed due key) (key_line lent due d key value) (refused 2)
