-- The shorthand theorem: each short law against its long lines.
-- Assumes nothing.
use mathlib.Core.Path.{◌≡◌, refl, sym, ap, subst, ◌∙◌}
use mathlib.Core.Bool.{Bool, true, false, cond}
use mathlib.Core.List.{List, [], ◌∷◌, ◌++◌}
use mathlib.Core.Option.{Option, none, some}
use Prim.Native.Nat.{ℕ, suc, ◌+◌, ◌≤◌}
use native.Mathlib.Omega.{arith}
use lib.Dec.{eqb, ltb}
use lib.ListN.{length}
use Rattle.basics.proofs.Tests.{and-iff, each_append}
use Rattle.action_language.specs.declared.Head.{Head}
use Rattle.action_language.specs.declared.Head.TheVariants.{Lit, False}
use Rattle.action_language.specs.declared.Kind.{Kind}
use Rattle.action_language.specs.declared.Kind.TheVariants.{Static, Dynamic}
use Rattle.action_language.specs.declared.Law.{Law}
use Rattle.action_language.specs.Laws.{law_of}
use Rattle.text_forms.specs.Lines.{horizon_key, fluent_key, action_key, static_key, dynamic_key, if_key, after_key, default_key}
use Rattle.text_forms.specs.Lines.{inertial_key, causes_key, by_key, nonexecutable_key}
use Rattle.spelling.specs.Spelling.{same_name, false_bytes, is_name}
use Rattle.text_forms.specs.Names.{absent, declared_at, is_new, literal}
use Rattle.text_forms.specs.Lists as lists
use Rattle.text_forms.specs.Lists.{Listed, codes, items, added, list_of}
use Rattle.letter_case.proofs.AlikeRuns.{names-refl}
use Rattle.letter_case.proofs.LetterCase.{letter-case}
use Rattle.line_values.specs.HorizonText.{horizon_of}
use Rattle.line_values.specs.ShortLaws.{default_law, inertial_law, causes_law, nonexecutable_law}
use Rattle.description_lines.specs.LineSteps.{Due, fluent_due, action_due, law_due, if_due, by_due, Draft, starts_law}
use Rattle.description_lines.specs.LineSteps.{allowed, Step, refused, next, finish, horizon_line, name_line}
use Rattle.description_lines.specs.LineSteps.{read_head, begun, room_for, whole, with_if, if_line, after_line}
use Rattle.description_lines.specs.LineSteps.{whole_by_literal, whole_by_list, end_line, law_in, fluent_list, any_list}
use Rattle.description_lines.specs.LineSteps.{line_step}
use Rattle.description_lines.specs.Descriptions.{described}
use Rattle.written_form.specs.Writing.{Form, Spelling, description_text}
use Rattle.written_form.specs.Respelling.{InCapitals}
use Rattle.written_form.specs.Writable.{AreNames, Writable}
use Rattle.written_form.specs.Shorthand.{and_then, Shorthand, draft_read}
use Rattle.written_form.proofs.WrittenLists.{one-item}
use Rattle.written_form.proofs.WrittenSteps.{if-step, after-step, starts}
use Rattle.written_form.proofs.ReadLiterals.{literal-item}
use Rattle.written_form.proofs.SpelledDescription.{read-written}

-- the short law of a literal, by the kind of its long lines
abbrev literal_law : Kind → ℕ → Law
literal_law Static c = default_law c
literal_law Dynamic c = inertial_law c

-- a law's first line where the key may stand and there is a place for a law: 2, then 5
abbrev tested : Bool → Bool → Step → Step
tested may room s = cond may (cond room s (refused 5)) (refused 2)

tested-then : (may room : Bool) (s : Step) (go : Due → Draft → Step) → and_then (tested may room s) go ≡ tested may room (and_then s go)
tested-then true true s go = refl
tested-then true false s go = refl
tested-then false room s go = refl

-- a short law's first line against the long one's, where what follows the tests is alike
alike : {may may' : Bool} (room : Bool) {s : Step} (s' : Step) (go : Due → Draft → Step) → may ≡ may' → s ≡ and_then s' go
    → tested may room s ≡ and_then (tested may' room s') go
alike {may} {may'} room {s} s' go same-may is =
    ap (λ m. tested m room s) same-may ∙ ap (tested may' room) is ∙ sym (tested-then may' room s' go)

-- any key that starts a law may stand where the dynamic one may
dynamic-may : (due : Due) (k : ℕ) → starts_law k ≡ true → allowed due k ≡ allowed due dynamic_key
dynamic-may due k is = starts due k is ∙ sym (starts due dynamic_key refl)

-- the lines behind the head of a law in full, by its kind
abbrev list_lines : ℕ → Kind → List ℕ → List ℕ → Due → Draft → Step
list_lines lent Static ifs afters due d = line_step lent due d if_key ifs
list_lines lent Dynamic ifs afters due d = and_then (line_step lent due d if_key ifs) (λ due' d'. line_step lent due' d' after_key afters)

module _ (lent : ℕ) (d : Draft) where
  -- the lists where both have the head's bytes
  lists-refused : (value : List ℕ) (kind : Kind) (l : Law) → fluent_list d value ≡ lists.refused 6
      → list_lines lent kind value value (if_due l) d ≡ refused 6
  unfolding line_step
  lists-refused value Static l e = ap (if_line d l) e
  lists-refused value Dynamic l e = ap (λ list. and_then (if_line d l list) (λ due' d'. line_step lent due' d' after_key value)) e

  lists-read : (value : List ℕ) (kind : Kind) (c : ℕ) → fluent_list d value ≡ codes (c ∷ []) → any_list d value ≡ codes (c ∷ [])
      → list_lines lent kind value value (if_due (law_of kind (Lit c) [] [])) d ≡ next law_due (whole d (literal_law kind c))
  lists-read value Static c ifs afters = if-step lent d (law_of Static (Lit c) [] []) value (c ∷ []) ifs
  lists-read value Dynamic c ifs afters =
      ap (λ s. and_then s (λ due' d'. line_step lent due' d' after_key value))
      (if-step lent d (law_of Dynamic (Lit c) [] []) value (c ∷ []) ifs)
      ∙ after-step lent d (law_of Dynamic (Lit c) (c ∷ []) []) value (c ∷ []) afters

  -- default and inertial: by the literal that the bytes stand for, if any
  module _ (are : AreNames d.names) (value : List ℕ) (kind : Kind) where
    abbrev head : Option Head
    head = read_head d.names d.fluents value

    abbrev long_lines : Step
    long_lines = and_then (begun if_due d kind head) (list_lines lent kind value value)

    -- false heads a law in full, and is then refused as a literal of the if-list
    false-lists : same_name value false_bytes ≡ true → literal d.names 0 d.fluents value ≡ none → fluent_list d value ≡ lists.refused 6
    false-lists is e =
        let names = d.names in
        let n = d.fluents in
        let alike = (letter-case.same-name value false_bytes).0 is in
        letter-case.lists 0 n 6 names names (names-refl names) value false_bytes alike
        ∙ one-item names 0 n false_bytes (omega arith) (refl, (refl, (refl, (refl, (refl, tt)))))
        ∙ ap (λ o. added [] o codes) (sym (letter-case.literals 0 n names names (names-refl names) value false_bytes alike) ∙ e)

    literal-long : (o : Option ℕ) → literal d.names 0 d.fluents value ≡ o → whole_by_literal d (literal_law kind) o ≡ long_lines
    unfolding read_head
    literal-long (some c) e =
        let item = literal-item d.names are d.fluents c value e in
        let ifs : fluent_list d value ≡ codes (c ∷ []) =
        one-item d.names 0 d.fluents value item.long item.one ∙ ap (λ o. added [] o codes) e in
        let afters : any_list d value ≡ codes (c ∷ []) =
        one-item d.names 0 (length d.names) value item.long item.one ∙ ap (λ o. added [] o codes) item.either in
        rw (item.not-false, e) (sym (lists-read value kind c ifs afters))
    literal-long none e = go (same_name value false_bytes) refl
      where
        go : (b : Bool) → same_name value false_bytes ≡ b → refused 6 ≡ long_lines
        go true is = rw is (sym (lists-refused value kind (law_of kind False [] []) (false-lists is e)))
        go false is = rw (is, e)

  -- causes and nonexecutable: an empty if-list, then the after-list
  module _ (afters : List ℕ) where
    whole_by : (h : Head) (list : Listed) → whole_by_list d (causes_law h) list ≡ after_line d (law_of Dynamic h [] []) list
    whole_by h (lists.refused k) = refl
    whole_by h (codes cs) = refl

    list-long : (h : Head)
        → whole_by_list d (causes_law h) (any_list d afters) ≡ list_lines lent Dynamic [] afters (if_due (law_of Dynamic h [] [])) d
    unfolding line_step list_of items
    list-long h = whole_by h (any_list d afters)

    head-long : (o : Option Head)
        → and_then (begun by_due d Dynamic o) (λ due d'. line_step lent due d' by_key afters)
        ≡ and_then (begun if_due d Dynamic o) (list_lines lent Dynamic [] afters)
    unfolding line_step
    head-long none = refl
    head-long (some h) = list-long h

-- the names of the draft that a line leaves

abbrev NamedStep : Step → Type 0
NamedStep (refused k) = Unit
NamedStep (next due d) = AreNames d.names
NamedStep (finish d) = Unit

whichever : (P : Step → Type 0) (b : Bool) {s t : Step} → P s → P t → P (cond b s t)
whichever P true here there = here
whichever P false here there = there

module _ (d : Draft) (are : AreNames d.names) where
  horizon-named : (o : Option ℕ) → NamedStep (horizon_line d o)
  horizon-named none = tt
  horizon-named (some T) = are

  -- a new name is spelled as one
  name-named : (fits : Bool) (due : Due) (fluents : ℕ) (value : List ℕ) → NamedStep (name_line fits due fluents d value)
  name-named fits due fluents value = whichever NamedStep fits (go (is_new d.names value) refl) tt
    where
      go : (b : Bool) → is_new d.names value ≡ b
          → NamedStep (cond b
          (next due (record { horizon = d.horizon; fluents = fluents; names = d.names ++ (value ∷ []); laws = d.laws }))
          (refused 4))
      go true e =
          (each_append (λ x. is_name x ≡ true) d.names (value ∷ [])).1
          (are, (((and-iff (is_name value) (absent (declared_at d.names value))).0 e).0, tt))
      go false e = tt

  begun-named : (later : Law → Due) (kind : Kind) (o : Option Head) → NamedStep (begun later d kind o)
  begun-named later kind none = tt
  begun-named later kind (some h) = are

  if-named : (l : Law) (list : Listed) → NamedStep (if_line d l list)
  if-named l (lists.refused k) = tt
  if-named l (codes cs) = go l.kind
    where
      go : (kind : Kind) → NamedStep (with_if d kind l.head cs)
      go Static = are
      go Dynamic = are

  after-named : (l : Law) (list : Listed) → NamedStep (after_line d l list)
  after-named l (lists.refused k) = tt
  after-named l (codes cs) = are

  literal-named : (law : ℕ → Law) (o : Option ℕ) → NamedStep (whole_by_literal d law o)
  literal-named law none = tt
  literal-named law (some c) = are

  list-named : (law : List ℕ → Law) (list : Listed) → NamedStep (whole_by_list d law list)
  list-named law (lists.refused k) = tt
  list-named law (codes cs) = are

  end-named : (value : List ℕ) → NamedStep (end_line d value)
  end-named [] = tt
  end-named (b ∷ bs) = tt

  step-named : (lent : ℕ) (due : Due) (key : ℕ) (value : List ℕ) → NamedStep (line_step lent due d key value)
  unfolding line_step
  step-named lent due key value =
      let head = read_head d.names d.fluents value in
      let code = literal d.names 0 d.fluents value in
      let room = room_for lent d in
      whichever NamedStep (allowed due key)
      (whichever NamedStep (eqb key horizon_key) (horizon-named (horizon_of value))
      (whichever NamedStep (eqb key fluent_key) (name-named (ltb d.fluents 24) fluent_due (suc d.fluents) value)
      (whichever NamedStep (eqb key action_key) (name-named (ltb (length d.names) (d.fluents + 8)) action_due d.fluents value)
      (whichever NamedStep (eqb key static_key) (whichever NamedStep room (begun-named if_due Static head) tt)
      (whichever NamedStep (eqb key dynamic_key) (whichever NamedStep room (begun-named if_due Dynamic head) tt)
      (whichever NamedStep (eqb key if_key) (if-named (law_in due) (fluent_list d value))
      (whichever NamedStep (eqb key after_key) (after-named (law_in due) (any_list d value))
      (whichever NamedStep (eqb key default_key) (whichever NamedStep room (literal-named default_law code) tt)
      (whichever NamedStep (eqb key inertial_key) (whichever NamedStep room (literal-named inertial_law code) tt)
      (whichever NamedStep (eqb key causes_key) (whichever NamedStep room (begun-named by_due Dynamic head) tt)
      (whichever NamedStep (eqb key by_key) (list-named (causes_law (law_in due).head) (any_list d value))
      (whichever NamedStep (eqb key nonexecutable_key)
      (whichever NamedStep room (list-named nonexecutable_law (any_list d value)) tt) (end-named value)))))))))))))
      tt

pub shorthand : Shorthand
unfolding line_step read_head
shorthand = record {
  default-long = λ lent due d are value.
      alike (room_for lent d) (begun if_due d Static (read_head d.names d.fluents value))
      (list_lines lent Static value value) (starts due default_key refl)
      (literal-long lent d are value Static (literal d.names 0 d.fluents value) refl);
  inertial-long = λ lent due d are value.
      alike (room_for lent d) (begun if_due d Dynamic (read_head d.names d.fluents value))
      (list_lines lent Dynamic value value) (dynamic-may due inertial_key refl)
      (literal-long lent d are value Dynamic (literal d.names 0 d.fluents value) refl);
  causes-long = λ lent due d head afters.
      tested-then (allowed due causes_key) (room_for lent d) (begun by_due d Dynamic (read_head d.names d.fluents head))
      (λ due' d'. line_step lent due' d' by_key afters)
      ∙ alike (room_for lent d) (begun if_due d Dynamic (read_head d.names d.fluents head))
      (list_lines lent Dynamic [] afters) (dynamic-may due causes_key refl)
      (head-long lent d afters (read_head d.names d.fluents head));
  nonexecutable-long = λ lent due d afters.
      alike (room_for lent d) (begun if_due d Dynamic (some False)) (list_lines lent Dynamic [] afters)
      (dynamic-may due nonexecutable_key refl) (list-long lent d afters False);
  none_named = tt;
  names-kept = λ lent due d are key value due' d' e. subst NamedStep e (step-named d are lent due key value);
}

-- any two choices of forms and of spellings write texts that are read to the same horizon, names and laws
pub written-alike : (lent T : ℕ) (fluents actions : List (List ℕ)) (forms forms' : ℕ → Form) (spell spell' : Spelling) (ls : List Law)
    → InCapitals spell → InCapitals spell' → Writable lent T fluents actions ls → (more : List ℕ) → length more ≤ 45535
    → draft_read (described lent (description_text T fluents actions forms spell ls ++ more))
    ≡ draft_read (described lent (description_text T fluents actions forms' spell' ls ++ more))
written-alike lent T fluents actions forms forms' spell spell' ls any any' w more few =
    ap draft_read (read-written T fluents actions forms spell any ls lent w more few)
    ∙ sym (ap draft_read (read-written T fluents actions forms' spell' any' ls lent w more few))
