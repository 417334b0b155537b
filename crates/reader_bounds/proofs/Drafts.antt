-- What holds of every description that the reader takes: its limits, its short names, no more laws than are lent, and that the
-- rest of the text stands behind it.
-- Assumes nothing.
use mathlib.Core.Path.{◌≡◌, refl, sym, subst, ◌∙◌}
use mathlib.Core.Bool.{true}
use mathlib.Core.List.{List, [], ◌∷◌, ◌++◌, append_assoc}
use mathlib.Core.Option.{Option, none, some}
use Prim.Native.Nat.{ℕ, zero, suc, ◌+◌, min, ◌≤◌, ◌<◌}
use native.Mathlib.Omega.{arith}
use borrow.Author.Tests.{ltb-false}
use lib.Dec.{eqb, ltb}
use lib.ListN.{length, take, length-append, take-append-drop}
use Rattle.basics.specs.Search.{Each, first}
use Rattle.basics.specs.Replies.{Reply, refused, answered}
use Rattle.basics.proofs.Tests.{and-iff, each_append}
use Rattle.action_language.specs.declared.Kind.{Kind}
use Rattle.action_language.specs.declared.Kind.TheVariants.{Static, Dynamic}
use Rattle.action_language.specs.declared.Law.{Law}
use Rattle.text_forms.specs.Bytes.{newline, equals_sign, Cut, cut_at, cut}
use Rattle.text_forms.specs.Lines.{Line, keyed, valued, ended, key_number, first_line}
use Rattle.spelling.specs.Spelling.{is_name}
use Rattle.spelling.proofs.Naming.{named}
use Rattle.text_forms.specs.Names.{absent, is_new, declared_at}
use Rattle.description_lines.specs.LineSteps as step
use Rattle.description_lines.specs.LineSteps.{Due, horizon_due, first_fluent_due, fluent_due, action_due, law_due, if_due}
use Rattle.description_lines.specs.LineSteps.{after_due, by_due, Draft, Step, next, finish, with_if, line_step}
use Rattle.description_lines.specs.Descriptions.{Taken, read, after_step, after_first, blank, lines_from, described}
use Rattle.reader_bounds.proofs.LineCases.{with_name, Cases, line-cases}
-- those who use this file choose too
pub use Rattle.reader_bounds.proofs.LineCases.{chosen}

-- a name of at most 16 bytes
abbrev pub Short : List ℕ → Type 0
Short bs = length bs ≤ 16

name-short : (bs : List ℕ) → is_name bs ≡ true → Short bs
name-short bs e = (named bs e).short

-- the laws begun and not yet counted where something is due
abbrev open-laws : Due → ℕ
open-laws horizon_due = 0
open-laws first_fluent_due = 0
open-laws fluent_due = 0
open-laws action_due = 0
open-laws law_due = 0
open-laws (if_due l) = 1
open-laws (after_due l) = 1
open-laws (by_due l) = 1

-- the limits of a draft, where something is due and no more than so many laws are taken
pub record Limited (most : ℕ) (due : Due) (d : Draft) : Type 0 where
  pub time : d.horizon ≤ 30
  pub few : d.fluents ≤ 24
  pub named : d.fluents ≤ length d.names
  pub actions : length d.names ≤ d.fluents + 8
  pub short : Each Short d.names
  pub room : open-laws due + length d.laws ≤ most

-- behind the end line no law is open
abbrev LimitedStep : ℕ → Step → Type 0
LimitedStep most (step.refused k) = Unit
LimitedStep most (next due d) = Limited most due d
LimitedStep most (finish d) = Limited most law_due d

module _ (most : ℕ) (d : Draft) where
  -- the same draft, where something else is due
  due-kept : (due due' : Due) → Limited most due d → open-laws due' + length d.laws ≤ most → Limited most due' d
  due-kept due due' g h = record { time = g.time; few = g.few; named = g.named; actions = g.actions; short = g.short; room = h }

  -- room for a law that begins
  opened : length d.laws < most → 1 + length d.laws ≤ most
  opened room = omega arith

  -- a law is whole
  law-kept : (due : Due) (l : Law) → Limited most due d → 1 + length d.laws ≤ most → Limited most law_due (step.whole d l)
  law-kept due l g h =
      record {
        time = g.time;
        few = g.few;
        named = g.named;
        actions = g.actions;
        short = g.short;
        room = omega (arith, h, length-append d.laws (l ∷ []));
      }

  -- a new name, where the number of fluents behind it is within the limits
  name-kept : (due due' : Due) (fluents : ℕ) (value : List ℕ) → Limited most due d → open-laws due' ≡ 0
      → is_new d.names value ≡ true → fluents ≤ 24
      → fluents ≤ length d.names + 1 → length d.names + 1 ≤ fluents + 8 → Limited most due' (with_name d fluents value)
  name-kept due due' fluents value g none_open new few named actions =
      record {
        time = g.time;
        few = few;
        named = omega (arith, one_more, named);
        actions = omega (arith, one_more, actions);
        short =
            (each_append Short d.names (value ∷ [])).1
            (g.short, (name-short value ((and-iff (is_name value) (absent (declared_at d.names value))).0 new).0, tt));
        room = omega (arith, none_open, g.room);
      }
    where
      one_more : length (d.names ++ (value ∷ [])) ≡ length d.names + 1
      one_more = length-append d.names (value ∷ [])

  -- an if-list makes a static law whole
  with-if-kept : (l : Law) (kind : Kind) (cs : List ℕ) → Limited most (if_due l) d → LimitedStep most (with_if d kind l.head cs)
  with-if-kept l Static cs g = law-kept (if_due l) _ g g.room
  with-if-kept l Dynamic cs g = due-kept (if_due l) (after_due _) g g.room

-- one line, of a text for which so many laws are lent
module _ (lent : ℕ) (d : Draft) (value : List ℕ) where
  limits-kept : Cases lent d value (λ due. Limited (min 64 lent) due d) (LimitedStep (min 64 lent))
  limits-kept =
      let most = min 64 lent in
      record {
        further = λ g. due-kept most d fluent_due first_fluent_due g g.room;
        no-fluent = λ g. due-kept most d fluent_due action_due g g.room;
        no-action = λ g. due-kept most d action_due law_due g g.room;
        refusals = (tt, (tt, (tt, (tt, (tt, tt)))));
        horizon =
            λ g T low high. record { time = high; few = g.few; named = g.named; actions = g.actions; short = g.short; room = g.room };
        fluent =
            λ g room new. name-kept most d first_fluent_due fluent_due (suc d.fluents) value g refl new room
            (omega (arith, g.named)) (omega (arith, g.actions));
        action = λ g room new.
            name-kept most d action_due action_due d.fluents value g refl new g.few (omega (arith, g.named)) (omega arith);
        begins = λ g room kind h _. due-kept most d law_due (if_due _) g (opened most d room);
        causes = λ g room h _. due-kept most d law_due (by_due _) g (opened most d room);
        default = λ g room c _. law-kept most d law_due _ g (opened most d room);
        inertial = λ g room c _. law-kept most d law_due _ g (opened most d room);
        nonexecutable = λ g room cs _. law-kept most d law_due _ g (opened most d room);
        if-list = λ l g kind cs _. with-if-kept most d l kind cs g;
        after_list = λ l g cs _. law-kept most d (after_due l) _ g g.room;
        by-list = λ l g cs _. law-kept most d (by_due l) _ g g.room;
        ends = λ g. g;
      }

  step_kept : (due : Due) → Limited (min 64 lent) due d → (key : ℕ) → LimitedStep (min 64 lent) (line_step lent due d key value)
  step_kept due g key = line-cases lent d value _ _ limits-kept due key g

-- what is read behind a text is one of its ends
pub record End (rest text : List ℕ) : Type 0 where
  pub front : List ℕ
  pub whole : text ≡ front ++ rest

end-of-end : {rest middle text : List ℕ} → End rest middle → End middle text → End rest text
end-of-end {rest} p q =
    record { front = q.front ++ p.front; whole = q.whole ∙ rw p.whole (sym (append_assoc q.front p.front rest)) }

abbrev RestEnds : List ℕ → Option Line → Type 0
RestEnds text none = Unit
RestEnds text (some l) = End l.rest text

abbrev BackEnds : List ℕ → Option Cut → Type 0
BackEnds text none = Unit
BackEnds text (some c) = End c.back text

cut-ends : (b : ℕ) (text : List ℕ) → BackEnds text (cut b text)
unfolding cut
cut-ends b text = at_place (first (eqb b) 0 text)
  where
    at_place : (o : Option ℕ) → BackEnds text (cut_at text o)
    at_place none = tt
    at_place (some i) = record { front = take (suc i) text; whole = sym (take-append-drop (suc i) text) }

keyed-ends : (text : List ℕ) (o : Option ℕ) (value rest : List ℕ) → End rest text → RestEnds text (keyed o value rest)
keyed-ends text none value rest e = tt
keyed-ends text (some k) value rest e = e

valued-ends : (text : List ℕ) (o : Option Cut) (rest : List ℕ) → End rest text → RestEnds text (valued o rest)
valued-ends text none rest e = tt
valued-ends text (some c) rest e = keyed-ends text (key_number c.front) c.back rest e

ended-ends : (text : List ℕ) (o : Option Cut) → BackEnds text o → RestEnds text (ended o)
ended-ends text none e = tt
ended-ends text (some c) e = valued-ends text (cut equals_sign c.front) c.back e

line-ends : (text : List ℕ) → RestEnds text (first_line text)
unfolding first_line
line-ends text = ended-ends text (cut newline text) (cut-ends newline text)

-- what is known of a description that was read: its limits, what stands behind it, and no more than so many lines
pub record Bounded (text : List ℕ) (most lines : ℕ) (d : Draft) (rest : List ℕ) (last : ℕ) : Type 0 where
  pub limited : Limited most law_due d
  pub behind : End rest text
  pub counted : last ≤ lines

abbrev pub BoundedReply : List ℕ → ℕ → ℕ → Reply Taken → Type 0
BoundedReply text most lines (refused k place) = Unit
BoundedReply text most lines (answered (read d rest last)) = Bounded text most lines d rest last

module _ (lent : ℕ) where
  -- the same of the lines that follow
  abbrev Later : ℕ → ℕ → Type 0
  Later fuel line =
      (due : Due) (d : Draft) (text : List ℕ) → Limited (min 64 lent) due d
      → BoundedReply text (min 64 lent) (line + fuel) (lines_from fuel lent line due d text)

  lines-bounded : (fuel line : ℕ) → Later fuel line
  lines-bounded zero line due d text g = tt
  lines-bounded (suc fuel) line due d text g = by-line (lines-bounded fuel (suc line)) (first_line text) (line-ends text)
    where
      moved : (rest : List ℕ) → End rest text → (o : Reply Taken) → BoundedReply rest (min 64 lent) (suc line + fuel) o
          → BoundedReply text (min 64 lent) (line + suc fuel) o
      moved rest e (refused k place) t = tt
      moved rest e (answered (read d' rest' last)) t =
          record { limited = t.limited; behind = end-of-end t.behind e; counted = omega (arith, t.counted) }

      by-step : Later fuel (suc line) → (s : Step) (rest : List ℕ) → End rest text → LimitedStep (min 64 lent) s
          → BoundedReply text (min 64 lent) (line + suc fuel)
          (after_step s line rest (λ due' d' rest'. lines_from fuel lent (suc line) due' d' rest'))
      by-step go (step.refused k) rest e s = tt
      by-step go (next due' d') rest e s = moved rest e (lines_from fuel lent (suc line) due' d' rest) (go due' d' rest s)
      by-step go (finish d') rest e s = record { limited = s; behind = e; counted = omega arith }

      by-line : Later fuel (suc line) → (o : Option Line) → RestEnds text o
          → BoundedReply text (min 64 lent) (line + suc fuel)
          (after_first o lent due d line (λ due' d' rest. lines_from fuel lent (suc line) due' d' rest))
      by-line go none e = tt
      by-line go (some l) e = by-step go (line_step lent due d l.key l.value) l.rest e (step_kept lent d l.value due g l.key)

  blank-limited : Limited (min 64 lent) horizon_due blank
  blank-limited =
      record { time = omega arith; few = omega arith; named = omega arith; actions = omega arith; short = tt; room = omega arith }

  pub bounded : (text : List ℕ) → BoundedReply text (min 64 lent) 65537 (described lent text)
  unfolding described
  bounded text =
      chosen (BoundedReply text (min 64 lent) 65537) (ltb 65535 (length text)) (λ _. tt)
      (λ small. fewer (lines_from (suc (length text)) lent 1 horizon_due blank text) (ltb-false 65535 (length text) small)
      (lines-bounded (suc (length text)) 1 horizon_due blank text blank-limited))
    where
      fewer : (o : Reply Taken) → length text ≤ 65535 → BoundedReply text (min 64 lent) (1 + suc (length text)) o
          → BoundedReply text (min 64 lent) 65537 o
      fewer (refused k place) small t = tt
      fewer (answered (read d rest last)) small t = record { limited = t.limited; behind = t.behind; counted = omega (arith, t.counted) }

-- the fluents are among the names
pub names-declared : (text : List ℕ) (d : Draft) (rest : List ℕ) (lines : ℕ)
    → described 64 text ≡ answered (read d rest lines) → d.fluents ≤ length d.names
names-declared text d rest lines is = (subst (BoundedReply text (min 64 64) 65537) is (bounded 64 text)).limited.named
