-- In a text that is read, line 0 has the horizon and each line behind it declares one name, whose value it is.
-- Assumes nothing.
use mathlib.Core.Path.{◌≡◌, refl, sym, ap, subst, ◌∙◌}
use mathlib.Core.Bool.{Bool, true, false}
use mathlib.Core.List.{List, [], ◌∷◌, ◌++◌}
use mathlib.Core.Option.{Option, none, some}
use Prim.Native.Nat.{ℕ, zero, suc, ◌+◌, ◌<◌}
use native.Mathlib.Numerals.{add-one}
use native.Mathlib.Omega.{arith}
use borrow.Author.Tests.{ltb-true, ltb-false}
use lib.Dec.{ltb}
use lib.ListN.{length, get_or, drop, length-append, get_or-append}
use lib.Seq.{get_or-append-add}
use Rattle.basics.specs.Replies.{Reply, refused, answered}
use Rattle.action_language.specs.declared.Kind.{Kind}
use Rattle.action_language.specs.declared.Kind.TheVariants.{Static, Dynamic}
use Rattle.action_language.specs.declared.Law.{Law}
use Rattle.text_forms.specs.Lines.{Line, first_line}
use Rattle.text_forms.specs.Places.{start_of_line}
use Rattle.text.proofs.Placing.{line_number, next-line}
use Rattle.description_lines.specs.LineSteps as step
use Rattle.description_lines.specs.LineSteps.{Due, horizon_due, first_fluent_due, fluent_due, action_due, law_due, if_due}
use Rattle.description_lines.specs.LineSteps.{after_due, by_due, Draft, Step, next, finish, with_if, line_step}
use Rattle.description_lines.specs.Descriptions.{Taken, read, after_step, after_first, blank, lines_from, described}
use Rattle.reader_bounds.proofs.LineCases.{chosen, timed, with_name, Cases, line-cases}

module _ (text : List ℕ) where
  -- the name at place i is the value of line i + 1
  pub record DeclaredAt (i : ℕ) (name : List ℕ) : Type 0 where
    pub line : Line
    pub is : line_number (suc i) text ≡ some line
    pub value : line.value ≡ name

  abbrev AllDeclared : Draft → Type 0
  AllDeclared d = (i : ℕ) → i < length d.names → DeclaredAt i (get_or d.names i [])

  -- which line comes next; once a law has begun no name comes
  abbrev AtLine : Due → Draft → List ℕ → Type 0
  AtLine horizon_due d rest = (rest ≡ text) × (d.names ≡ [])
  AtLine first_fluent_due d rest = rest ≡ drop (start_of_line (suc (length d.names)) text) text
  AtLine fluent_due d rest = rest ≡ drop (start_of_line (suc (length d.names)) text) text
  AtLine action_due d rest = rest ≡ drop (start_of_line (suc (length d.names)) text) text
  AtLine law_due d rest = Unit
  AtLine (if_due l) d rest = Unit
  AtLine (after_due l) d rest = Unit
  AtLine (by_due l) d rest = Unit

  pub record Placed (due : Due) (d : Draft) (rest : List ℕ) : Type 0 where
    pub at : AtLine due d rest
    pub names : AllDeclared d

  abbrev PlacedStep : List ℕ → Step → Type 0
  PlacedStep rest (step.refused k) = Unit
  PlacedStep rest (next due d) = Placed due d rest
  PlacedStep rest (finish d) = AllDeclared d

  -- one line, whose rest is the next one's text
  module _ (d : Draft) (rest : List ℕ) (l : Line) (is : first_line rest ≡ some l) where
    horizon-kept : (T : ℕ) → Placed horizon_due d rest → Placed first_fluent_due (timed d T) l.rest
    horizon-kept T p =
        record {
          at =
              next-line 0 text l (ap first_line (sym p.at.0) ∙ is)
              ∙ ap (λ ns. drop (start_of_line (suc (length ns)) text) text) (sym p.at.1);
          names = p.names;
        }

    -- a line that declares a name is the next one behind the names declared
    module _ (names : AllDeclared d) (a : rest ≡ drop (start_of_line (suc (length d.names)) text) text) where
      there : line_number (suc (length d.names)) text ≡ some l
      there = ap first_line (sym a) ∙ is

      one_more : length (d.names ++ (l.value ∷ [])) ≡ suc (length d.names)
      one_more = length-append d.names (l.value ∷ []) ∙ add-one (length d.names)

      after : l.rest ≡ drop (start_of_line (suc (length (d.names ++ (l.value ∷ [])))) text) text
      after = next-line (suc (length d.names)) text l there ∙ ap (λ n. drop (start_of_line (suc n) text) text) (sym one_more)

      by_place : (i : ℕ) (b : Bool) → ltb i (length d.names) ≡ b → i < length (d.names ++ (l.value ∷ []))
          → DeclaredAt i (get_or (d.names ++ (l.value ∷ [])) i [])
      by_place i true t b =
          let below = ltb-true i (length d.names) t in
          subst (DeclaredAt i) (sym (get_or-append d.names (l.value ∷ []) [] i below)) (names i below)
      by_place i false t b =
          let e : i ≡ length d.names + 0 = omega (arith, ltb-false i (length d.names) t, one_more) in
          let e' : length d.names ≡ i = omega arith in
          record {
            line = l;
            is = ap (λ k. line_number (suc k) text) (sym e') ∙ there;
            value = sym (ap (λ k. get_or (d.names ++ (l.value ∷ [])) k []) e ∙ get_or-append-add d.names (l.value ∷ []) 0 []);
          }

      all-declared : (fluents : ℕ) → AllDeclared (with_name d fluents l.value)
      all-declared fluents i b = by_place i (ltb i (length d.names)) refl b

    with-if-kept : (law : Law) (kind : Kind) (cs : List ℕ) → AllDeclared d → PlacedStep l.rest (with_if d kind law.head cs)
    with-if-kept law Static cs names = record { at = tt; names = names }
    with-if-kept law Dynamic cs names = record { at = tt; names = names }

    names-kept : (lent : ℕ) → Cases lent d l.value (λ due. Placed due d rest) (PlacedStep l.rest)
    names-kept lent =
        record {
          further = λ p. record { at = p.at; names = p.names };
          no-fluent = λ p. record { at = p.at; names = p.names };
          no-action = λ p. record { at = tt; names = p.names };
          refusals = (tt, (tt, (tt, (tt, (tt, tt)))));
          horizon = λ p T _ _. horizon-kept T p;
          fluent = λ p _ _. record { at = after p.names p.at; names = all-declared p.names p.at (suc d.fluents) };
          action = λ p _ _. record { at = after p.names p.at; names = all-declared p.names p.at d.fluents };
          begins = λ p _ _ _ _. record { at = tt; names = p.names };
          causes = λ p _ _ _. record { at = tt; names = p.names };
          default = λ p _ _ _. record { at = tt; names = p.names };
          inertial = λ p _ _ _. record { at = tt; names = p.names };
          nonexecutable = λ p _ _ _. record { at = tt; names = p.names };
          if-list = λ law p kind cs _. with-if-kept law kind cs p.names;
          after_list = λ _ p _ _. record { at = tt; names = p.names };
          by-list = λ _ p _ _. record { at = tt; names = p.names };
          ends = λ p. p.names;
        }

    step_kept : (lent : ℕ) (due : Due) → Placed due d rest → PlacedStep l.rest (line_step lent due d l.key l.value)
    step_kept lent due p = line-cases lent d l.value _ _ (names-kept lent) due l.key p

  abbrev PlacedReply : Reply Taken → Type 0
  PlacedReply (refused number place) = Unit
  PlacedReply (answered (read d rest lines)) = AllDeclared d

  module _ (lent : ℕ) where
    lines-placed : (fuel line : ℕ) (due : Due) (d : Draft) (rest : List ℕ) → Placed due d rest
        → PlacedReply (lines_from fuel lent line due d rest)
    lines-placed zero line due d rest p = tt
    lines-placed (suc fuel) line due d rest p =
        by-line (first_line rest) refl (λ due' d' rest' p'. lines-placed fuel (suc line) due' d' rest' p')
      where
        Later : Type 0
        Later =
            (due' : Due) (d' : Draft) (rest' : List ℕ) → Placed due' d' rest' → PlacedReply (lines_from fuel lent (suc line) due' d' rest')

        by-step : (s : Step) (rest' : List ℕ) → PlacedStep rest' s → Later
            → PlacedReply (after_step s line rest' (λ due' d' rest''. lines_from fuel lent (suc line) due' d' rest''))
        by-step (step.refused n) rest' s go = tt
        by-step (next due' d') rest' s go = go due' d' rest' s
        by-step (finish d') rest' s go = s

        by-line : (o : Option Line) → first_line rest ≡ o → Later
            → PlacedReply (after_first o lent due d line (λ due' d' rest'. lines_from fuel lent (suc line) due' d' rest'))
        by-line none e go = tt
        by-line (some l) e go = by-step (line_step lent due d l.key l.value) l.rest (step_kept d rest l e lent due p) go

    text-placed : PlacedReply (described lent text)
    unfolding described
    text-placed =
        chosen PlacedReply (ltb 65535 (length text)) (λ _. tt)
        (λ _. lines-placed (suc (length text)) 1 horizon_due blank text (record { at = (refl, refl); names = λ i b. absurd (omega arith) }))

  -- each name of a description that is read
  pub declared-at : (lent : ℕ) (d : Draft) (rest : List ℕ) (lines : ℕ) → described lent text ≡ answered (read d rest lines)
      → (i : ℕ) → i < length d.names → DeclaredAt i (get_or d.names i [])
  declared-at lent d rest lines e = subst PlacedReply e (text-placed lent)
