-- A written description is read back, however its names are spelled where they are used.
-- Assumes nothing.
use mathlib.Core.Path.{◌≡◌, refl, sym, ap, subst, ◌∙◌}
use mathlib.Core.Bool.{Bool, true, false, cond}
use mathlib.Core.List.{List, [], ◌∷◌, ◌++◌, append_assoc}
use Prim.Native.Nat.{ℕ, suc, ◌/◌, ◌%◌, ◌≤◌, ◌<◌}
use native.Mathlib.Omega.{arith}
use lib.Dec.{eqb}
use lib.ListN.{length, get_or, length-append}
use Rattle.basics.specs.Replies.{Reply, answered}
use Rattle.basics.proofs.Tests.{each_append}
use Rattle.action_language.specs.declared.Head.{Head}
use Rattle.action_language.specs.declared.Head.TheVariants.{Lit, False}
use Rattle.action_language.specs.declared.Kind.{Kind}
use Rattle.action_language.specs.declared.Kind.TheVariants.{Static, Dynamic}
use Rattle.action_language.specs.declared.Law.{Law}
use Rattle.action_language.specs.Laws.{if_list, after_list}
use Rattle.spelling.specs.Spelling.{false_bytes, is_name}
use Rattle.text_forms.specs.Bytes.{newline, comma, hyphen, equals_sign}
use Rattle.text_forms.specs.Lines.{keys, horizon_key, fluent_key, action_key, static_key, dynamic_key, if_key, after_key, end_key, no_key}
use Rattle.text_forms.specs.Lines.{default_key, inertial_key, causes_key, by_key, nonexecutable_key}
use Rattle.description_lines.specs.LineSteps.{Draft}
use Rattle.description_lines.specs.Descriptions.{Taken, read, described}
use Rattle.reader_bounds.proofs.Drafts.{BoundedReply, bounded}
use Rattle.letter_case.specs.Alike.{Alike, equal}
use Rattle.letter_case.specs.LetterCase.{uses_names}
use Rattle.letter_case.proofs.AlikeRuns.{alike-append}
use Rattle.written_form.specs.Writing.{Form, in_full, as_default, as_inertial, as_causes, as_nonexecutable, written_as}
use Rattle.written_form.specs.Writing.{Spelling, as_declared}
use Rattle.written_form.specs.Writing.{line_text, horizon_text, literal_text, list_text, head_text, full_text, form_text}
use Rattle.written_form.specs.Writing.{laws_text, names_text, description_text}
use Rattle.written_form.specs.Writable.{AreNames, Writable, lines_written, draft_written}
use Rattle.written_form.specs.Respelling.{InCapitals, Respelled, same_text, same_line, used-line, ReadAlike, both-refused, both_read}
use Rattle.written_form.proofs.WrittenLines.{Lacks, line-shape, line_clean}
use Rattle.written_form.proofs.WrittenNames.{plain, plains, plain_lines, name-lacks}
use Rattle.written_form.proofs.WrittenLists.{head-lacks-newline, list-lacks-newline}
use Rattle.written_form.proofs.WrittenSteps.{horizon-clean}
use Rattle.written_form.proofs.RoundTrip.{read-declared}
use Rattle.written_form.proofs.Respelled.{respelled-length, described-alike}

-- literals, lists and heads

literal-spelled : (names : List (List ℕ)) (spell : List ℕ → List ℕ) → ((x : List ℕ) → Alike x (spell x)) → (c : ℕ)
    → Alike (literal_text names plain c) (literal_text names spell c)
literal-spelled names spell any c = go (eqb (c % 2) 0)
  where
    go : (even : Bool) → let x = get_or names (c / 2) [] in Alike (cond even x (hyphen ∷ x)) (cond even (spell x) (hyphen ∷ spell x))
    go true = any (get_or names (c / 2) [])
    go false = (equal refl, any (get_or names (c / 2) []))

pub list-spelled : (names : List (List ℕ)) (spell : ℕ → List ℕ → List ℕ)
    → ((place : ℕ) (x : List ℕ) → Alike x (spell place x)) → (cs : List ℕ)
    → Alike (list_text names plains cs) (list_text names spell cs)
list-spelled names spell any [] = tt
list-spelled names spell any (c ∷ []) = literal-spelled names (spell 0) (any 0) c
list-spelled names spell any (c ∷ d ∷ cs) =
    alike-append (literal_text names plain c ++ (comma ∷ [])) (literal_text names (spell 0) c ++ (comma ∷ []))
    (list_text names plains (d ∷ cs))
    (list_text names (λ place. spell (suc place)) (d ∷ cs))
    (alike-append (literal_text names plain c) (literal_text names (spell 0) c) (comma ∷ []) (comma ∷ [])
    (literal-spelled names (spell 0) (any 0) c) (equal refl, tt))
    (list-spelled names (λ place. spell (suc place)) (λ place. any (suc place)) (d ∷ cs))

head-spelled : (names : List (List ℕ)) (spell : ℕ → List ℕ → List ℕ) → ((place : ℕ) (x : List ℕ) → Alike x (spell place x)) → (h : Head)
    → Alike (head_text names plains h) (head_text names spell h)
head-spelled names spell any (Lit c) = literal-spelled names (spell 0) (any 0) c
head-spelled names spell any False = any 0 false_bytes

-- a part of a text against the same respelled, whatever follows
pub record Part (p p' : List ℕ) : Type 0 where
  pub before : (t t' : List ℕ) → Respelled t t' → Respelled (p ++ t) (p' ++ t')

nothing : Part [] []
nothing = record { before = λ t t' r. r }

joined : {p p' q q' : List ℕ} → Part p p' → Part q q' → Part (p ++ q) (p' ++ q')
joined {p} {p'} {q} {q'} front back =
    record { before = λ t t' r. rw (append_assoc p q t, append_assoc p' q' t') (front.before (q ++ t) (q' ++ t') (back.before t t' r)) }

kept : (key : ℕ) (value : List ℕ) → key < no_key → Lacks newline value → Part (line_text key value) (line_text key value)
kept key value known clean = record {
  before = λ t t' r.
      let name = get_or keys key [] in
      rw (line-shape name value t, line-shape name value t')
      (same_line (name ++ equals_sign ∷ value) t t' (line_clean key known value clean) r);
}

used : (key : ℕ) (value value' : List ℕ) → uses_names key ≡ true → Lacks newline value → Alike value value'
    → Part (line_text key value) (line_text key value')
used key value value' uses clean alike = record { before = λ t t' r. used-line key value value' t t' uses clean alike r }

names-part : (key : ℕ) → key < no_key → (xs : List (List ℕ)) → AreNames xs → Part (names_text key xs) (names_text key xs)
names-part key known [] are = nothing
names-part key known (x ∷ xs) are = joined (kept key x known (name-lacks newline refl x are.0)) (names-part key known xs are.1)

-- laws
module _ (names : List (List ℕ)) (are : AreNames names) where
  module _ (spell : ℕ → ℕ → List ℕ → List ℕ) (any : (line place : ℕ) (x : List ℕ) → Alike x (spell line place x)) where
    head-part : (key line : ℕ) → uses_names key ≡ true → (h : Head)
        → Part (line_text key (head_text names plains h)) (line_text key (head_text names (spell line) h))
    head-part key line uses h =
        used key (head_text names plains h) (head_text names (spell line) h) uses (head-lacks-newline names are h)
        (head-spelled names (spell line) (any line) h)

    list-part : (key line : ℕ) → uses_names key ≡ true → (cs : List ℕ)
        → Part (line_text key (list_text names plains cs)) (line_text key (list_text names (spell line) cs))
    list-part key line uses cs =
        used key (list_text names plains cs) (list_text names (spell line) cs) uses (list-lacks-newline names are cs)
        (list-spelled names (spell line) (any line) cs)

    full-part : (k : Kind) (l : Law) → Part (full_text names plain_lines k l) (full_text names spell k l)
    full-part Static l = joined (head-part static_key 0 refl l.head) (list-part if_key 1 refl (if_list l))
    full-part Dynamic l =
        joined (joined (head-part dynamic_key 0 refl l.head) (list-part if_key 1 refl (if_list l)))
        (list-part after_key 2 refl (after_list l))

    form-part : (form : Form) (l : Law) → Part (form_text names plain_lines form l) (form_text names spell form l)
    form-part in_full l = full-part l.kind l
    form-part as_default l = head-part default_key 0 refl l.head
    form-part as_inertial l = head-part inertial_key 0 refl l.head
    form-part as_causes l = joined (head-part causes_key 0 refl l.head) (list-part by_key 1 refl (after_list l))
    form-part as_nonexecutable l = list-part nonexecutable_key 0 refl (after_list l)

  laws-part : (forms : ℕ → Form) (spell : Spelling) → InCapitals spell → (i : ℕ) (ls : List Law)
      → Part (laws_text names forms as_declared i ls) (laws_text names forms spell i ls)
  laws-part forms spell any i [] = nothing
  laws-part forms spell any i (l ∷ ls) =
      joined (form-part (spell i) (any i) (written_as (forms i) l) l) (laws-part forms spell any (suc i) ls)

-- ends of one text that are as long are the same
same_end : (xs ys rest rest' : List ℕ) → xs ++ rest ≡ ys ++ rest' → length rest ≡ length rest' → rest ≡ rest'
same_end [] [] rest rest' e size = e
same_end [] (y ∷ ys) rest rest' e size = let z = ap length e in absurd (omega (arith, length-append ys rest'))
same_end (x ∷ xs) [] rest rest' e size = let z = ap length e in absurd (omega (arith, length-append xs rest))
same_end (x ∷ xs) (y ∷ ys) rest rest' e size = let later : xs ++ rest ≡ ys ++ rest' = cc in same_end xs ys rest rest' later size

-- what is read where the other text is read
read-too : (o o' : Reply Taken) → ReadAlike o o' → (d : Draft) (more : List ℕ) (lines : ℕ) → o ≡ answered (read d more lines)
    → (rest : List ℕ) × (o' ≡ answered (read d rest lines)) × Respelled more rest
read-too o o' (both-refused number place) d more lines e = let z : ◌≡◌ {A = ℕ} 0 1 = cc in absurd (omega arith)
read-too o o' (both_read d₁ rest rest' lines₁ q) d more lines e =
    let here : rest ≡ more = cc in
    let draft : d₁ ≡ d = cc in
    let count : lines₁ ≡ lines = cc in
    (rest', rw (draft, count), subst (λ t. Respelled t rest') here q)

module _ (T : ℕ) (fluents actions : List (List ℕ)) (forms : ℕ → Form) (spell : Spelling) (any : InCapitals spell) (ls : List Law) where
  pub description-respelled : AreNames (fluents ++ actions) → (more : List ℕ)
      → Respelled (description_text T fluents actions forms as_declared ls ++ more)
      (description_text T fluents actions forms spell ls ++ more)
  unfolding description_text
  description-respelled are more =
      let (are-fluents, are-actions) = (each_append (λ x. is_name x ≡ true) fluents actions).0 are in
      let top = kept horizon_key (horizon_text T) (omega arith) (horizon-clean T) in
      let names =
      joined (joined top (names-part fluent_key (omega arith) fluents are-fluents))
      (names-part action_key (omega arith) actions are-actions) in
      let laws = laws-part (fluents ++ actions) are forms spell any 0 ls in
      (joined (joined names laws) (kept end_key [] (omega arith) tt)).before more more (same_text more)

  -- the written description is read back, however its names are spelled where they are used, and what follows it is left
  pub read-written : (lent : ℕ) → Writable lent T fluents actions ls → (more : List ℕ) → length more ≤ 45535
      → described lent (description_text T fluents actions forms spell ls ++ more)
      ≡ answered (read (draft_written T fluents actions ls) more (lines_written fluents actions forms ls))
  read-written lent w more few =
      let text = description_text T fluents actions forms spell ls in
      let d = draft_written T fluents actions ls in
      let lines = lines_written fluents actions forms ls in
      let (rest, is, respelled) =
      read-too _ _ (described-alike lent _ _ (description-respelled w.are-names more)) d more lines
      (read-declared lent T fluents actions forms ls w more few) in
      let behind = (subst (BoundedReply (text ++ more) _ 65537) is (bounded lent (text ++ more))).behind in
      is ∙ ap (λ r. answered (read d r lines))
      (sym (same_end text behind.front more rest behind.whole (respelled-length more rest respelled)))
