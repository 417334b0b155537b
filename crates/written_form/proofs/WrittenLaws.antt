-- What the description reader makes of the laws of a written description, each in the form chosen for it.
-- Assumes nothing.
use mathlib.Core.Path.{◌≡◌, refl, sym, subst, ◌∙◌}
use mathlib.Core.Bool.{true}
use mathlib.Core.List.{List, [], ◌∷◌, ◌++◌, append-nil, append_assoc}
use mathlib.Core.Option.{some}
use Prim.Native.Nat.{ℕ, suc, ◌+◌, ◌*◌, ◌≤◌, ◌<◌, min}
use native.Mathlib.Omega.{arith}
use lib.ListN.{length, length-append}
use Rattle.basics.specs.Search.{Each}
use Rattle.action_language.specs.declared.Head.TheVariants.{Lit}
use Rattle.action_language.specs.declared.Kind.{Kind}
use Rattle.action_language.specs.declared.Kind.TheVariants.{Static, Dynamic}
use Rattle.action_language.specs.declared.Law.{Law}
use Rattle.action_language.specs.Laws.{if_list, after_list, law_of}
use Rattle.action_language.proofs.Fits.{CodesBelow, HeadBelow}
use Rattle.reader_bounds.specs.Accepts.{afters_of, Tidy}
use Rattle.text_forms.specs.Lines.{static_key, dynamic_key, if_key, after_key, default_key, inertial_key, causes_key}
use Rattle.text_forms.specs.Lines.{by_key, nonexecutable_key, no_key}
use Rattle.text_forms.specs.Names.{literal}
use Rattle.text_forms.specs.Lists.{codes}
use Rattle.line_values.specs.ShortLaws.{default_law, inertial_law}
use Rattle.description_lines.specs.LineSteps.{Due, law_due, if_due, after_due, by_due, Draft, starts_law, allowed, next}
use Rattle.description_lines.specs.LineSteps.{read_head, whole, if_line, any_list, line_step}
use Rattle.written_form.specs.Writing.{Form, in_full, as_default, as_inertial, as_causes, as_nonexecutable, has_form, written_as}
use Rattle.written_form.specs.Writing.{as_declared, line_text, list_text, head_text, full_text, form_text, laws_text}
use Rattle.written_form.specs.Writable.{form_lines, law_lines, laws_lines, AreNames, Distinct, draft}
use Rattle.written_form.proofs.WrittenNames.{plains, plain_lines, literal-read, head_read}
use Rattle.written_form.proofs.WrittenLists.{codes-in, head-lacks-newline, list-lacks-newline, list_read}
use Rattle.written_form.proofs.WrittenSteps.{static_step, dynamic-step, causes-step, default-step, inertial-step}
use Rattle.written_form.proofs.WrittenSteps.{nonexecutable-step, if-step, after-step, by-step}
use Rattle.written_form.proofs.WrittenSteps.{starts, Passes, nothing-passes, line-passes, then, due_behind, same-due}
use Rattle.written_form.proofs.Written.{Bounded}
use Rattle.written_form.proofs.WrittenForms.{form-had, causes-dynamic, nonexecutable-dynamic, dynamic-afters}
use Rattle.written_form.proofs.WrittenForms.{OfLiteral, default-is, inertial-is, causes-is, nonexecutable-is}

module _ (lent T n : ℕ) (names : List (List ℕ)) (are : AreNames names) (distinct : Distinct names) (held : n ≤ length names) where
  -- one law, behind those done, where a law may start
  module _ (l : Law) (done : List Law) (due : Due) (may : allowed due static_key ≡ true) (few : length done < min 64 lent)
      (b : Bounded n (length names) l) (tidy : Tidy l) where
    abbrev at : Draft
    at = draft T n names done

    abbrev head : List ℕ
    head = head_text names plains l.head

    -- the lines of a text take the reader to the law that they stand for
    abbrev Leaves : ℕ → List ℕ → Law → Type 0
    Leaves lines text l' = Passes lent lines text due at law_due (whole at l')

    -- each key that starts a law may stand here
    may-start : (k : ℕ) → starts_law k ≡ true → allowed due k ≡ true
    may-start k is = starts due k is ∙ may

    head-passes : (key : ℕ) {later : Due} → key < no_key → line_step lent due at key head ≡ next later at
        → Passes lent 1 (line_text key head) due at later at
    head-passes key known step = line-passes due at key head known (head-lacks-newline names are l.head) step

    is-head : read_head names n head ≡ some l.head
    is-head = head_read names are distinct n l.head b.head held

    -- the if-list, and a list of literals of either sort
    if-passes : (l' : Law) {later : Due} {d : Draft} → if_line at l' (codes (if_list l)) ≡ next later d
        → Passes lent 1 (line_text if_key (list_text names plains (if_list l))) (if_due l') at later d
    if-passes l' step =
        line-passes (if_due l') at if_key (list_text names plains (if_list l)) (omega arith) (list-lacks-newline names are (if_list l))
        (
        if-step lent at l' (list_text names plains (if_list l)) (if_list l)
        (list_read names are distinct 0 n 6 held (if_list l) (codes-in n (if_list l) b.ifs) b.few-ifs)
        ∙ step
        )

    any-read : (cs : List ℕ) → CodesBelow (2 * length names) cs → length cs ≤ 6 → any_list at (list_text names plains cs) ≡ codes cs
    any-read cs below small = list_read names are distinct 0 (length names) 6 (omega arith) cs (codes-in (length names) cs below) small

    -- in full, by the kind
    full-passes : (k : Kind) → CodesBelow (2 * length names) (afters_of k l) → length (afters_of k l) ≤ 6
        → Leaves (form_lines in_full k) (full_text names plain_lines k l) (law_of k l.head (if_list l) (afters_of k l))
    full-passes Static afters few-afters =
        then (head-passes static_key (omega arith) (static_step lent due at head l.head may few is-head))
        (if-passes (law_of Static l.head [] []) refl) 2 refl
    full-passes Dynamic afters few-afters =
        let half = law_of Dynamic l.head (if_list l) [] in
        then
        (then (head-passes dynamic_key (omega arith) (dynamic-step lent due at head l.head (may-start dynamic_key refl) few is-head))
        (if-passes (law_of Dynamic l.head [] []) refl) 2 refl)
        (line-passes (after_due half) at after_key (list_text names plains (after_list l)) (omega arith)
        (list-lacks-newline names are (after_list l))
        (after-step lent at half (list_text names plains (after_list l)) (after_list l) (any-read (after_list l) afters few-afters)))
        3 refl

    -- by one line of a literal
    head-literal : (c : ℕ) → l.head ≡ Lit c → literal names 0 n head ≡ some c
    head-literal c is =
        subst (λ h. HeadBelow (2 * n) h → literal names 0 n (head_text names plains h) ≡ some c) (sym is)
        (λ below. literal-read names are distinct 0 n c (omega arith) below held) b.head

    literal-passes : (key : ℕ) (law : ℕ → Law) → key < no_key → OfLiteral law l
        → ((c : ℕ) → literal names 0 n head ≡ some c → line_step lent due at key head ≡ next law_due (whole at (law c)))
        → Leaves 1 (line_text key head) l
    literal-passes key law known of step =
        subst (Leaves 1 (line_text key head)) (sym of.is-law)
        (line-passes due at key head known (head-lacks-newline names are l.head)
        (step of.code (head-literal of.code of.is-head)))

    form-passes : (form : Form) → has_form form l ≡ true → Leaves (form_lines form l.kind) (form_text names plain_lines form l) l
    form-passes in_full has =
        subst (Leaves (form_lines in_full l.kind) (full_text names plain_lines l.kind l)) (sym tidy)
        (full-passes l.kind b.afters b.few-afters)
    form-passes as_default has =
        literal-passes default_key default_law (omega arith) (default-is l tidy has)
        (λ c. default-step lent due at head c (may-start default_key refl) few)
    form-passes as_inertial has =
        literal-passes inertial_key inertial_law (omega arith) (inertial-is l tidy has)
        (λ c. inertial-step lent due at head c (may-start inertial_key refl) few)
    form-passes as_causes has =
        let (below, small) = dynamic-afters n (length names) l b (causes-dynamic l has) in
        let begun = law_of Dynamic l.head [] [] in
        subst (Leaves 2 (form_text names plain_lines as_causes l)) (sym (causes-is l tidy has))
        (then (head-passes causes_key (omega arith) (causes-step lent due at head l.head (may-start causes_key refl) few is-head))
        (line-passes (by_due begun) at by_key (list_text names plains (after_list l)) (omega arith)
        (list-lacks-newline names are (after_list l))
        (by-step lent at begun (list_text names plains (after_list l)) (after_list l) (any-read (after_list l) below small)))
        2 refl)
    form-passes as_nonexecutable has =
        let (below, small) = dynamic-afters n (length names) l b (nonexecutable-dynamic l has) in
        subst (Leaves 1 (form_text names plain_lines as_nonexecutable l)) (sym (nonexecutable-is l tidy has))
        (line-passes due at nonexecutable_key (list_text names plains (after_list l)) (omega arith)
        (list-lacks-newline names are (after_list l))
        (nonexecutable-step lent due at (list_text names plains (after_list l)) (after_list l)
        (may-start nonexecutable_key refl) few (any-read (after_list l) below small)))

  pub laws-pass : (forms : ℕ → Form) (i : ℕ) (ls done : List Law) (due : Due) → allowed due static_key ≡ true
      → length done + length ls ≤ min 64 lent
      → Each (Bounded n (length names)) ls → Each Tidy ls
      → Passes lent (laws_lines forms i ls) (laws_text names forms as_declared i ls) due (draft T n names done)
      (due_behind due law_due ls) (draft T n names (done ++ ls))
  laws-pass forms i [] done due may few b tidy = rw (append-nil done) (nothing-passes due (draft T n names done))
  laws-pass forms i (l ∷ ls) done due may few b tidy =
      let here = form-passes l done due may (omega arith) b.0 tidy.0 (written_as (forms i) l) (form-had (forms i) l) in
      let rest = laws-pass forms (suc i) ls (done ++ (l ∷ [])) law_due refl (omega (arith, length-append done (l ∷ []))) b.1 tidy.1 in
      then here (rw (append_assoc done (l ∷ []) ls, same-due law_due ls) at rest) (law_lines (forms i) l + laws_lines forms (suc i) ls) refl
