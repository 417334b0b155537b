-- Respelled texts are read alike: line by line, the first line of one against that of the other.
-- Assumes nothing.
use mathlib.Core.Path.{◌≡◌, refl, ap, subst}
use mathlib.Core.Logic.{◌⊎◌, inl, inr, ⊎_elim}
use mathlib.Core.Bool.{Bool, true, false, cond}
use mathlib.Core.List.{List, [], ◌∷◌, ◌++◌}
use mathlib.Core.Option.{Option, none, some}
use Prim.Native.Nat.{ℕ, zero, suc, ◌<◌, ◌*◌}
use native.Mathlib.Omega.{arith}
use borrow.Author.Tests.{ltb-true, ltb-false, ne_eqb}
use lib.Dec.{eqb, ltb}
use lib.ListN.{length, length-append, replicate}
use Rattle.basics.specs.Replies as replies
use Rattle.basics.specs.Replies.{Reply, or_refuse}
use Rattle.basics.proofs.Tests.{not-both}
use Rattle.action_language.specs.Atoms.{wrong_length}
use Rattle.text_forms.specs.Bytes.{newline, equals_sign, Cut, cut}
use Rattle.text_forms.specs.Lines.{key_number, static_key, dynamic_key, if_key, after_key, state_key, act_key, end_key, default_key}
use Rattle.text_forms.specs.Lines.{inertial_key, causes_key, by_key, nonexecutable_key, no_key}
use Rattle.text_forms.specs.Lines.{Line, keyed, valued, ended, first_line}
use Rattle.text_forms.specs.Lists as lists
use Rattle.text_forms.specs.Lists.{Listed, codes, list_of}
use Rattle.description_lines.specs.LineSteps.{Due, horizon_due, Draft, Step, refused, next, finish, line_step}
use Rattle.description_lines.specs.Descriptions.{Taken, after_step, after_first, lines_from, blank, described}
use Rattle.history_reader.specs.Histories.{most, listed, list_line, act_line, undone_false, at_end, history_end, states_from}
use Rattle.history_reader.specs.Histories.{atoms, recorded, by_names, read_history}
use Rattle.shown_names.specs.Shown.{shown_by, fluent_name, action_name, shown_fluent, shown_action}
use Rattle.letter_case.specs.Alike.{Alike}
use Rattle.letter_case.specs.LetterCase.{uses_names}
use Rattle.letter_case.proofs.AlikeRuns.{alike_refl, names-refl, alike-length, alike-lacks}
use Rattle.letter_case.proofs.LetterCase.{letter-case}
use Rattle.written_form.specs.Writing.{line_text}
use Rattle.written_form.specs.Respelling.{Respelled, same_text, same_line, used-line, ReadAlike, both-refused, both_read, Respelling}
use Rattle.written_form.proofs.WrittenLines.{Lacks, cut-there, first-line}
use Rattle.written_form.proofs.WrittenSizes.{line-size}

-- as long
pub respelled-length : (text text' : List ℕ) → Respelled text text' → length text ≡ length text'
respelled-length text text' (same_text _) = refl
respelled-length text text' (same_line line t t' clean r) =
    omega (arith, length-append line (newline ∷ t), length-append line (newline ∷ t'), respelled-length t t' r)
respelled-length text text' (used-line key value value' t t' uses clean alike r) =
    omega (
      arith,
      length-append (line_text key value) t,
      length-append (line_text key value') t',
      line-size key value,
      line-size key value',
      alike-length value value' alike,
      respelled-length t t' r,
    )

-- what is known of the first lines: none, or of one key, with the same value or values of a line that uses names
pub data Firsts : Option Line → Option Line → Type 0 where
  no_lines : Firsts none none
  two-lines : (key : ℕ) (value value' text text' : List ℕ)
      → (value ≡ value') ⊎ ((uses_names key ≡ true) × Alike value value') → Respelled text text'
      → Firsts (some (record { key = key; value = value; rest = text })) (some (record { key = key; value = value'; rest = text' }))

same-firsts : (o : Option Line) → Firsts o o
same-firsts none = no_lines
same-firsts (some l) = two-lines l.key l.value l.value l.rest l.rest (inl refl) (same_text l.rest)

keyed-firsts : (o : Option ℕ) (value text text' : List ℕ) → Respelled text text' → Firsts (keyed o value text) (keyed o value text')
keyed-firsts none value text text' r = no_lines
keyed-firsts (some k) value text text' r = two-lines k value value text text' (inl refl) r

valued-firsts : (o : Option Cut) (text text' : List ℕ) → Respelled text text' → Firsts (valued o text) (valued o text')
valued-firsts none text text' r = no_lines
valued-firsts (some c) text text' r = keyed-firsts (key_number c.front) c.back text text' r

-- a line as it is
line_first : (line text : List ℕ) → Lacks newline line → first_line (line ++ newline ∷ text) ≡ valued (cut equals_sign line) text
unfolding first_line
line_first line text clean = ap ended (cut-there newline line text clean)

-- the keys of lines that use names are keys
key-known : (k : ℕ) → uses_names k ≡ true → k < no_key
key-known k uses = go (ltb k no_key) refl
  where
    go : (b : Bool) → ltb k no_key ≡ b → k < no_key
    go true e = ltb-true k no_key e
    go false e =
        let far : (j : ℕ) → j < no_key → eqb k j ≡ false = λ j b. ne_eqb k j (λ q. absurd (omega (arith, ltb-false k no_key e))) in
        absurd (not-both uses
        (rw (
          far static_key (omega arith),
          far dynamic_key (omega arith),
          far default_key (omega arith),
          far inertial_key (omega arith),
          far causes_key (omega arith),
          far nonexecutable_key (omega arith),
          far if_key (omega arith),
          far after_key (omega arith),
          far by_key (omega arith),
          far state_key (omega arith),
          far act_key (omega arith),
        )))

pub first-lines : (text text' : List ℕ) → Respelled text text' → Firsts (first_line text) (first_line text')
first-lines text text' (same_text _) = same-firsts (first_line text)
first-lines text text' (same_line line t t' clean r) =
    rw (line_first line t clean, line_first line t' clean) (valued-firsts (cut equals_sign line) t t' r)
first-lines text text' (used-line key value value' t t' uses clean alike r) =
    rw (
      first-line key (key-known key uses) value clean t,
      first-line key (key-known key uses) value' (alike-lacks newline refl value value' alike clean) t',
    )
    (two-lines key value value' t t' (inr (uses, alike)) r)

-- descriptions

-- a line with its value respelled
step-alike : (lent : ℕ) (due : Due) (d : Draft) (key : ℕ) (value value' : List ℕ)
    → (value ≡ value') ⊎ ((uses_names key ≡ true) × Alike value value')
    → line_step lent due d key value ≡ line_step lent due d key value'
step-alike lent due d key value value' =
    ⊎_elim (λ e. ap (line_step lent due d key) e) (λ u. letter-case.lines lent due d key u.0 value value' u.1)

module _ (lent : ℕ) where
  -- the same of the lines that follow
  abbrev Later : ℕ → ℕ → Type 0
  Later fuel line =
      (due : Due) (d : Draft) (text text' : List ℕ) → Respelled text text'
      → ReadAlike (lines_from fuel lent line due d text) (lines_from fuel lent line due d text')

  lines-alike : (fuel line : ℕ) → Later fuel line
  lines-alike zero line due d text text' r = both-refused 2 line
  lines-alike (suc fuel) line due d text text' r =
      by_lines (lines-alike fuel (suc line)) (first_line text) (first_line text') (first-lines text text' r)
    where
      by-step : Later fuel (suc line) → (s : Step) (t t' : List ℕ) → Respelled t t'
          → ReadAlike (after_step s line t (λ due' d' rest. lines_from fuel lent (suc line) due' d' rest))
          (after_step s line t' (λ due' d' rest. lines_from fuel lent (suc line) due' d' rest))
      by-step go (refused k) t t' q = both-refused k line
      by-step go (next due' d') t t' q = go due' d' t t' q
      by-step go (finish d') t t' q = both_read d' t t' line q

      by_lines : Later fuel (suc line) → (o o' : Option Line) → Firsts o o'
          → ReadAlike (after_first o lent due d line (λ due' d' rest. lines_from fuel lent (suc line) due' d' rest))
          (after_first o' lent due d line (λ due' d' rest. lines_from fuel lent (suc line) due' d' rest))
      by_lines go none none no_lines = both-refused 2 line
      by_lines go o o' (two-lines key value value' t t' how q) =
          rw (step-alike lent due d key value value' how) (by-step go (line_step lent due d key value') t t' q)

  pub described-alike : (text text' : List ℕ) → Respelled text text' → ReadAlike (described lent text) (described lent text')
  unfolding described
  described-alike text text' r =
      rw (respelled-length text text' r) (go (ltb 65535 (length text')) (lines-alike (suc (length text')) 1 horizon_due blank text text' r))
    where
      go : (b : Bool) {o o' : Reply Taken} → ReadAlike o o' → ReadAlike (cond b (replies.refused 1 0) o) (cond b (replies.refused 1 0) o')
      go true a = both-refused 1 0
      go false a = a

-- histories

how-alike : (key : ℕ) (value value' : List ℕ) → (value ≡ value') ⊎ ((uses_names key ≡ true) × Alike value value') → Alike value value'
how-alike key value value' = ⊎_elim (λ e. subst (λ v. Alike value v) e (alike_refl value)) (λ u. u.1)

module _ (d : Draft) where
  -- a line of literals, where what follows is read alike
  list-alike : (key low high line base : ℕ) (vs : List ℕ) (go : List ℕ → List ℕ → Reply (List ℕ))
      → ((vs' t t' : List ℕ) → Respelled t t' → go vs' t ≡ go vs' t') → (o o' : Option Line) → Firsts o o'
      → list_line d key low high o line base vs go ≡ list_line d key low high o' line base vs go
  list-alike key low high line base vs go later none none no_lines = refl
  list-alike key low high line base vs go later o o' (two-lines k value value' t t' how q) =
      rw (letter-case.lists low high most d.names d.names (names-refl d.names) value value' (how-alike k value value' how))
      (ap (λ r. cond (eqb k key) r (replies.refused 2 line)) (by-list (list_of d.names low high most value')))
    where
      by-list : (list : Listed) → listed list line base vs (λ vs'. go vs' t) ≡ listed list line base vs (λ vs'. go vs' t')
      by-list (lists.refused n) = refl
      by-list (codes cs) = later _ t t' q

  -- nothing behind the end line, or something
  behind-alike : (vs : List ℕ) (line : ℕ) (t t' : List ℕ) → length t ≡ length t' → at_end vs line t ≡ at_end vs line t'
  behind-alike vs line [] [] e = refl
  behind-alike vs line [] (b ∷ bs) e = absurd (omega arith)
  behind-alike vs line (b ∷ bs) [] e = absurd (omega arith)
  behind-alike vs line (b ∷ bs) (c ∷ cs) e = refl

  end-alike : (line : ℕ) (vs : List ℕ) (o o' : Option Line) → Firsts o o' → history_end o line vs ≡ history_end o' line vs
  end-alike line vs none none no_lines = refl
  end-alike line vs o o' (two-lines k value value' t t' how q) = by_values value value' (how-alike k value value' how)
    where
      by_values : (v v' : List ℕ) → Alike v v'
          → history_end (some (record { key = k; value = v; rest = t })) line vs
          ≡ history_end (some (record { key = k; value = v'; rest = t' })) line vs
      by_values [] [] a = ap (λ r. cond (eqb k end_key) r (replies.refused 2 line)) (behind-alike vs line t t' (respelled-length t t' q))
      by_values [] (y ∷ ys) a = absurd a
      by_values (x ∷ xs) [] a = absurd a
      by_values (x ∷ xs) (y ∷ ys) a = refl

  states-alike : (k t line : ℕ) (vs text text' : List ℕ) → Respelled text text'
      → states_from k d t line vs text ≡ states_from k d t line vs text'
  states-alike zero t line vs text text' r =
      list-alike state_key 0 d.fluents line (t * length d.names) vs (λ vs' rest. history_end (first_line rest) (suc line) vs')
      (λ vs' rest rest' q. end-alike (suc line) vs' (first_line rest) (first_line rest') (first-lines rest rest' q))
      (first_line text) (first_line text') (first-lines text text' r)
  states-alike (suc k) t line vs text text' r =
      list-alike state_key 0 d.fluents line (t * length d.names) vs
      (λ vs' rest. act_line d (first_line rest) (suc line) t vs' (λ vs'' rest'. states_from k d (suc t) (suc (suc line)) vs'' rest'))
      (λ vs' rest rest' q.
      list-alike act_key d.fluents (length d.names) (suc line) (t * length d.names) vs'
      (λ vs'' more. states_from k d (suc t) (suc (suc line)) (undone_false d t vs'') more)
      (λ vs'' more more' p. states-alike k (suc t) (suc (suc line)) (undone_false d t vs'') more more' p)
      (first_line rest) (first_line rest') (first-lines rest rest' q))
      (first_line text) (first_line text') (first-lines text text' r)

  recorded-alike : (text text' : List ℕ) (room : ℕ) → Respelled text text' → recorded d text room ≡ recorded d text' room
  recorded-alike text text' room r =
      rw (respelled-length text text' r)
      (ap (λ o. or_refuse (wrong_length (atoms d) room) 10 (cond (ltb 65535 (length text')) (replies.refused 1 0) o))
      (states-alike d.horizon 0 1 (replicate (atoms d) 0) text text' r))

named-alike : (text text' : List ℕ) (room : ℕ) → Respelled text text' → (o o' : Reply Taken) → ReadAlike o o'
    → by_names o text room ≡ by_names o' text' room
named-alike text text' room r o o' (both-refused number place) = refl
named-alike text text' room r o o' (both_read d rest rest' lines q) = recorded-alike d text text' room r

pub history-alike : (description description' text text' : List ℕ) (room : ℕ) → Respelled description description' → Respelled text text'
    → read_history description text room ≡ read_history description' text' room
unfolding read_history
history-alike description description' text text' room p r =
    named-alike text text' room r (described 64 description) (described 64 description') (described-alike 64 description description' p)

-- names shown

shown-alike : (name : Draft → ℕ → List ℕ) (i : ℕ) (o o' : Reply Taken) → ReadAlike o o' → shown_by name o i ≡ shown_by name o' i
shown-alike name i o o' (both-refused number place) = refl
shown-alike name i o o' (both_read d rest rest' lines q) = refl

pub respelling : Respelling
unfolding shown_fluent shown_action
respelling = record {
  descriptions = described-alike;
  histories = history-alike;
  shown-fluents = λ text text' r f. shown-alike fluent_name f (described 64 text) (described 64 text') (described-alike 64 text text' r);
  shown-actions = λ text text' r k. shown-alike action_name k (described 64 text) (described 64 text') (described-alike 64 text text' r);
}
