-- The size of a written description: at least a byte for each line, and at most 20,000 bytes.
-- Assumes nothing.
use mathlib.Core.Path.{◌≡◌}
use mathlib.Core.Bool.{Bool, true, false, cond}
use mathlib.Core.List.{List, [], ◌∷◌, ◌++◌}
use Prim.Native.Nat.{ℕ, suc, ◌+◌, ◌*◌, ◌/◌, ◌%◌, ◌≤◌}
use native.Mathlib.Omega.{arith}
use lib.Dec.{ltb}
use lib.ListN.{length, get_or, length-append}
use Rattle.basics.specs.Search.{Each}
use Rattle.basics.proofs.Tests.{each_map, each_append}
use Rattle.action_language.specs.declared.Head.{Head}
use Rattle.action_language.specs.declared.Head.TheVariants.{Lit, False}
use Rattle.action_language.specs.declared.Kind.{Kind}
use Rattle.action_language.specs.declared.Kind.TheVariants.{Static, Dynamic}
use Rattle.action_language.specs.declared.Law.{Law}
use Rattle.action_language.specs.Laws.{if_list, after_list}
use Rattle.action_language.proofs.Fits.{HeadBelow}
use Rattle.reader_bounds.specs.Accepts.{afters_of}
use Rattle.written_form.specs.Writable.{form_lines, laws_lines, lines_written, Writable, AreNames}
use Rattle.text_forms.specs.Bytes.{newline, equals_sign}
use Rattle.text_forms.specs.Lines.{keys, horizon_key, fluent_key, action_key, static_key, dynamic_key, if_key, after_key, end_key}
use Rattle.text_forms.specs.Lines.{default_key, inertial_key, causes_key, by_key, nonexecutable_key}
use Rattle.spelling.specs.Spelling.{is_name}
use Rattle.written_form.specs.Writing.{Form, in_full, as_default, as_inertial, as_causes, as_nonexecutable, has_form, written_as}
use Rattle.written_form.specs.Writing.{as_declared, line_text, horizon_text, list_text, head_text, full_text, form_text}
use Rattle.written_form.specs.Writing.{law_text, laws_text, names_text, description_text}
use Rattle.written_form.proofs.WrittenNames.{plains, plain_lines, literal-size}
use Rattle.spelling.proofs.Naming.{named}
use Rattle.written_form.proofs.WrittenLists.{list-size}
use Rattle.written_form.proofs.Written.{Bounded, written-laws}
use Rattle.written_form.proofs.WrittenForms.{form-had, causes-dynamic, nonexecutable-dynamic, dynamic-afters}

pub line-size : (k : ℕ) (value : List ℕ) → length (line_text k value) ≡ length (get_or keys k []) + length value + 2
line-size k value =
    let key = get_or keys k [] in
    omega (
      arith,
      length-append (key ++ (equals_sign ∷ []) ++ value) (newline ∷ []),
      length-append (key ++ (equals_sign ∷ [])) value,
      length-append key (equals_sign ∷ []),
    )

names-size : (key : ℕ) (xs : List (List ℕ)) → length (get_or keys key []) ≤ 6 → AreNames xs
    → (length xs ≤ length (names_text key xs)) × (length (names_text key xs) ≤ 24 * length xs)
names-size key [] short are = omega arith
names-size key (x ∷ xs) short are =
    omega (
      arith,
      line-size key x,
      (named x are.0).short,
      length-append (line_text key x) (names_text key xs),
      names-size key xs short are.1,
    )

module _ (names : List (List ℕ)) (are : AreNames names) (n : ℕ) (held : n ≤ length names) where
  head-size : (h : Head) → HeadBelow (2 * n) h → length (head_text names plains h) ≤ 17
  head-size (Lit c) below = (literal-size names are c (omega arith)).1
  head-size False below = omega arith

  full_size : (l : Law) → Bounded n (length names) l
      → (form_lines in_full l.kind ≤ length (full_text names plain_lines l.kind l))
      × (length (full_text names plain_lines l.kind l) ≤ 256)
  full_size l b = go l.kind (list-size names are (afters_of l.kind l) b.afters) b.few-afters
    where
      head : length (head_text names plains l.head) ≤ 17
      head = head-size l.head b.head

      ifs : length (list_text names plains (if_list l)) ≤ 18 * length (if_list l)
      ifs = (list-size names are (if_list l) (each_map (λ c h. omega arith) (if_list l) b.ifs)).1

      go : (k : Kind)
          → (length (afters_of k l) ≤ length (list_text names plains (afters_of k l)))
          × (length (list_text names plains (afters_of k l)) ≤ 18 * length (afters_of k l))
          → length (afters_of k l) ≤ 6
          → (form_lines in_full k ≤ length (full_text names plain_lines k l)) × (length (full_text names plain_lines k l) ≤ 256)
      go Static afters few =
          omega (
            arith,
            b.few-ifs,
            head,
            ifs,
            line-size static_key (head_text names plains l.head),
            line-size if_key (list_text names plains (if_list l)),
            length-append (line_text static_key (head_text names plains l.head)) (line_text if_key (list_text names plains (if_list l))),
          )
      go Dynamic afters few =
          let front = line_text dynamic_key (head_text names plains l.head) in
          let middle = line_text if_key (list_text names plains (if_list l)) in
          let back = line_text after_key (list_text names plains (after_list l)) in
          omega (
            arith,
            b.few-ifs,
            head,
            ifs,
            line-size dynamic_key (head_text names plains l.head),
            line-size if_key (list_text names plains (if_list l)),
            line-size after_key (list_text names plains (after_list l)),
            length-append (front ++ middle) back,
            length-append front middle,
          )

  -- a short law is no longer than one in full may be
  form-size : (form : Form) (l : Law) → Bounded n (length names) l → has_form form l ≡ true
      → (form_lines form l.kind ≤ length (form_text names plain_lines form l)) × (length (form_text names plain_lines form l) ≤ 256)
  form-size in_full l b has = full_size l b
  form-size as_default l b has = omega (arith, head-size l.head b.head, line-size default_key (head_text names plains l.head))
  form-size as_inertial l b has = omega (arith, head-size l.head b.head, line-size inertial_key (head_text names plains l.head))
  form-size as_causes l b has =
      let (below, few) = dynamic-afters n (length names) l b (causes-dynamic l has) in
      let front = line_text causes_key (head_text names plains l.head) in
      let back = line_text by_key (list_text names plains (after_list l)) in
      omega (
        arith,
        head-size l.head b.head,
        (list-size names are (after_list l) below).1,
        line-size causes_key (head_text names plains l.head),
        line-size by_key (list_text names plains (after_list l)),
        length-append front back,
      )
  form-size as_nonexecutable l b has =
      let (below, few) = dynamic-afters n (length names) l b (nonexecutable-dynamic l has) in
      omega (arith, (list-size names are (after_list l) below).1, line-size nonexecutable_key (list_text names plains (after_list l)))

  laws-size : (forms : ℕ → Form) (i : ℕ) (ls : List Law) → Each (Bounded n (length names)) ls
      → (laws_lines forms i ls ≤ length (laws_text names forms as_declared i ls))
      × (length (laws_text names forms as_declared i ls) ≤ 256 * length ls)
  laws-size forms i [] b = omega arith
  laws-size forms i (l ∷ ls) b =
      omega (
        arith,
        form-size (written_as (forms i) l) l b.0 (form-had (forms i) l),
        laws-size forms (suc i) ls b.1,
        length-append (law_text names plain_lines (forms i) l) (laws_text names forms as_declared (suc i) ls),
      )

horizon-size : (k : ℕ) → length (horizon_text k) ≤ 2
horizon-size k = go (ltb k 10)
  where
    go : (b : Bool) → length (cond b ((48 + k) ∷ []) ((48 + k / 10) ∷ (48 + k % 10) ∷ [])) ≤ 2
    go true = omega arith
    go false = omega arith

pub description-size : (lent T : ℕ) (fluents actions : List (List ℕ)) (forms : ℕ → Form) (ls : List Law)
    → Writable lent T fluents actions ls
    → (lines_written fluents actions forms ls ≤ length (description_text T fluents actions forms as_declared ls))
    × (length (description_text T fluents actions forms as_declared ls) ≤ 20000)
unfolding description_text
description-size lent T fluents actions forms ls w =
    let names = fluents ++ actions in
    let (are-fluents, are-actions) = (each_append (λ x. is_name x ≡ true) fluents actions).0 w.are-names in
    let size = length-append fluents actions in
    let top = line_text horizon_key (horizon_text T) in
    let first = top ++ names_text fluent_key fluents in
    let declared = first ++ names_text action_key actions in
    let body = declared ++ laws_text names forms as_declared 0 ls in
    omega (
      arith,
      w,
      line-size horizon_key (horizon_text T),
      horizon-size T,
      names-size fluent_key fluents (omega arith) are-fluents,
      names-size action_key actions (omega arith) are-actions,
      laws-size names w.are-names (length fluents) (omega arith) forms 0 ls (written-laws lent T fluents actions ls w),
      length-append body (line_text end_key []),
      length-append declared (laws_text names forms as_declared 0 ls),
      length-append first (names_text action_key actions),
      length-append top (names_text fluent_key fluents),
    )
