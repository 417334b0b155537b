-- What the description reader takes is accepted: each line of a text keeps the limits that refusals 8 and 3 ask for, and each law
-- is written tidily.
-- Assumes nothing.
use mathlib.Core.Path.{◌≡◌, refl, sym, ap, subst}
use mathlib.Core.Bool.{true, false, not, ◌&&◌}
use mathlib.Core.List.{List, [], ◌∷◌, ◌++◌}
use mathlib.Core.Option.{Option, none, some}
use Prim.Native.Nat.{ℕ, zero, suc, ◌+◌, ◌-◌, ◌*◌, min, ◌≤◌, ◌<◌}
use native.Mathlib.Omega.{arith}
use borrow.Author.Tests.{lt-ltb, le-leb}
use lib.Dec.{ltb, leb}
use lib.ListN.{length, take, drop, replicate}
use lib.Seq.{take_at}
use Rattle.basics.specs.Search.{Each}
use Rattle.basics.specs.Replies.{Reply, refused, answered}
use Rattle.basics.proofs.Tests.{all-each, each_append, each_map}
use Rattle.basics.proofs.Lists.{none-iff}
use Rattle.action_language.specs.declared.Head.{Head}
use Rattle.action_language.specs.declared.Head.TheVariants.{Lit, False}
use Rattle.action_language.specs.declared.Kind.{Kind}
use Rattle.action_language.specs.declared.Kind.TheVariants.{Static, Dynamic}
use Rattle.action_language.specs.declared.Law.{Law}
use Rattle.action_language.specs.Laws.{padded, law_of}
use Rattle.action_language.specs.Acceptance.{codes_below, head_fits, law_fits, bad_record, bad_horizon}
use Rattle.text_forms.specs.Lines.{Line, first_line}
use Rattle.line_values.specs.ShortLaws.{default_law, inertial_law, causes_law, nonexecutable_law}
use Rattle.description_lines.specs.LineSteps as step
use Rattle.description_lines.specs.LineSteps.{Due, horizon_due, first_fluent_due, fluent_due, action_due, law_due, if_due}
use Rattle.description_lines.specs.LineSteps.{after_due, by_due, Draft, Step, next, finish, with_if, with_after, line_step}
use Rattle.description_lines.specs.Descriptions.{Taken, read, after_step, after_first, blank, lines_from, described, description_of}
use Rattle.reader_bounds.specs.Accepts.{Tidy, Accepted, TakenAccepted, LeftAccepted}
use Rattle.reader_bounds.proofs.LineCases.{chosen, Below, Held, Cases, line-cases}
use Rattle.reader_bounds.proofs.Drafts.{Limited, BoundedReply, bounded}

below-told : (k : ℕ) (cs : List ℕ) → Below k cs → codes_below k cs ≡ true
below-told k cs h = (all-each (λ c. ltb c k) cs).1 (each_map (λ c b. lt-ltb c k b) cs h)

-- no code, one code, and a higher bound
none-held : (k : ℕ) → Held 6 k []
none-held k = record { few = omega arith; below = tt }

one-held : (c k : ℕ) → c < k → Held 6 k (c ∷ [])
one-held c k b = record { few = omega arith; below = (b, tt) }

held_more : (j k : ℕ) → j ≤ k → (cs : List ℕ) → Held 6 j cs → Held 6 k cs
held_more j k h cs e = record { few = e.few; below = each_map (λ c p. omega arith) cs e.below }

-- the codes of a list are what stands before its zeros
counted : (cs : List ℕ) → take (length cs) (padded cs) ≡ cs
counted cs = take_at cs (replicate (6 - length cs) 0) (length cs) refl

-- a law by its lists, where n of N names are fluents
pub record Fitting (n N : ℕ) (l : Law) : Type 0 where
  pub tidy : Tidy l
  pub fits : (m : ℕ) → N ≤ n + m → law_fits n m l ≡ true

static-fits : (n N : ℕ) (h : Head) (ifs : List ℕ) → head_fits n h ≡ true → Held 6 (2 * n) ifs → Fitting n N (law_of Static h ifs [])
static-fits n N h ifs head e =
    record {
      tidy = rw (counted ifs);
      fits = λ m b. rw (counted ifs, head, le-leb (length ifs) 6 e.few, below-told (2 * n) ifs e.below);
    }

-- an after_list is within the limits for as many actions as there may be
abbrev HeldAfter : ℕ → ℕ → List ℕ → Type 0
HeldAfter n N afters = (m : ℕ) → N ≤ n + m → Held 6 (2 * (n + m)) afters

dynamic-fits : (n N : ℕ) (h : Head) (ifs afters : List ℕ) → head_fits n h ≡ true → Held 6 (2 * n) ifs
    → HeldAfter n N afters → Fitting n N (law_of Dynamic h ifs afters)
dynamic-fits n N h ifs afters head e f =
    record {
      tidy = rw (counted ifs, counted afters);
      fits = λ m b. rw (
        counted ifs,
        counted afters,
        head,
        le-leb (length ifs) 6 e.few,
        below-told (2 * n) ifs e.below,
        le-leb (length afters) 6 (f m b).few,
        below-told (2 * (n + m)) afters (f m b).below,
      );
    }

-- a dynamic law whose after_list is due
pub record Half (n : ℕ) (l : Law) : Type 0 where
  pub head : Head
  pub ifs : List ℕ
  pub is : l ≡ law_of Dynamic head ifs []
  pub fits : head_fits n head ≡ true
  pub held : Held 6 (2 * n) ifs

-- what is known where something is due
abbrev AtDue : Due → Draft → Type 0
AtDue horizon_due d = d.laws ≡ []
AtDue first_fluent_due d = (d.laws ≡ []) × (1 ≤ d.horizon)
AtDue fluent_due d = (d.laws ≡ []) × (1 ≤ d.horizon) × (1 ≤ d.fluents)
AtDue action_due d = (d.laws ≡ []) × (1 ≤ d.horizon) × (1 ≤ d.fluents)
AtDue law_due d = (1 ≤ d.horizon) × (1 ≤ d.fluents)
AtDue (if_due l) d = (1 ≤ d.horizon) × (1 ≤ d.fluents) × (head_fits d.fluents l.head ≡ true)
AtDue (after_due l) d = (1 ≤ d.horizon) × (1 ≤ d.fluents) × Half d.fluents l
AtDue (by_due l) d = (1 ≤ d.horizon) × (1 ≤ d.fluents) × (head_fits d.fluents l.head ≡ true)

pub record Kept (due : Due) (d : Draft) : Type 0 where
  pub at : AtDue due d
  pub laws : Each (Fitting d.fluents (length d.names)) d.laws

abbrev KeptStep : Step → Type 0
KeptStep (step.refused k) = Unit
KeptStep (next due d) = Kept due d
KeptStep (finish d) = Kept law_due d

-- no laws, whatever is asked of each
no-laws : (P : Law → Type 0) (ls : List Law) → ls ≡ [] → Each P ls
no-laws P ls e = rw e tt

-- one line
module _ (d : Draft) where
  -- a law is whole
  whole-kept : (l : Law) → Each (Fitting d.fluents (length d.names)) d.laws → (1 ≤ d.horizon)
      → (1 ≤ d.fluents) → Fitting d.fluents (length d.names) l
      → Kept law_due (step.whole d l)
  whole-kept l laws time fluents f =
      record { at = (time, fluents); laws = (each_append (Fitting d.fluents (length d.names)) d.laws (l ∷ [])).1 (laws, (f, tt)) }

  -- what a list of literals of either sort comes to as an after_list
  any_held : (cs : List ℕ) → Held 6 (2 * length d.names) cs → HeldAfter d.fluents (length d.names) cs
  any_held cs h m b = held_more (2 * length d.names) (2 * (d.fluents + m)) (omega arith) cs h

  -- a law of a head and an after_list
  caused-fits : (h : Head) (cs : List ℕ) → head_fits d.fluents h ≡ true → Held 6 (2 * length d.names) cs
      → Fitting d.fluents (length d.names) (causes_law h cs)
  caused-fits h cs fits held = dynamic-fits d.fluents (length d.names) h [] cs fits (none-held (2 * d.fluents)) (any_held cs held)

  default-fits : (c : ℕ) → c < 2 * d.fluents → Fitting d.fluents (length d.names) (default_law c)
  default-fits c b =
      static-fits d.fluents (length d.names) (Lit c) (c ∷ []) (lt-ltb c (2 * d.fluents) b) (one-held c (2 * d.fluents) b)

  inertial-fits : (c : ℕ) → c < 2 * d.fluents → Fitting d.fluents (length d.names) (inertial_law c)
  inertial-fits c b =
      dynamic-fits d.fluents (length d.names) (Lit c) (c ∷ []) (c ∷ []) (lt-ltb c (2 * d.fluents) b) (one-held c (2 * d.fluents) b)
      (λ m _. one-held c (2 * (d.fluents + m)) (omega arith))

  after-fits : (l : Law) (cs : List ℕ) → Half d.fluents l → Held 6 (2 * length d.names) cs
      → Fitting d.fluents (length d.names) (with_after l cs)
  after-fits l cs half h =
      let is : law_of Dynamic half.head half.ifs cs ≡ with_after l cs = ap (λ x. with_after x cs) (sym half.is) in
      subst (Fitting d.fluents (length d.names)) is
      (dynamic-fits d.fluents (length d.names) half.head half.ifs cs half.fits half.held (any_held cs h))

  -- an if-list makes a static law whole, and a dynamic one half
  with-if-kept : (l : Law) (kind : Kind) (cs : List ℕ) → Kept (if_due l) d → Held 6 (2 * d.fluents) cs
      → KeptStep (with_if d kind l.head cs)
  with-if-kept l Static cs k h =
      whole-kept _ k.laws k.at.0 k.at.1 (static-fits d.fluents (length d.names) l.head cs k.at.2 h)
  with-if-kept l Dynamic cs k h =
      record { at = (k.at.0, k.at.1, record { head = l.head; ifs = cs; is = refl; fits = k.at.2; held = h }); laws = k.laws }

  laws-kept : (lent : ℕ) (value : List ℕ) → Cases lent d value (λ due. Kept due d) KeptStep
  laws-kept lent value =
      record {
        further = λ k. record { at = (k.at.0, k.at.1); laws = k.laws };
        no-fluent = λ k. record { at = k.at; laws = k.laws };
        no-action = λ k. record { at = (k.at.1, k.at.2); laws = k.laws };
        refusals = (tt, (tt, (tt, (tt, (tt, tt)))));
        horizon = λ k T low _. record { at = (k.at, low); laws = no-laws _ d.laws k.at };
        fluent = λ k _ _. record { at = (k.at.0, k.at.1, omega arith); laws = no-laws _ d.laws k.at.0 };
        action = λ k _ _. record { at = k.at; laws = no-laws _ d.laws k.at.0 };
        begins = λ k _ kind h fits. record { at = (k.at.0, k.at.1, fits); laws = k.laws };
        causes = λ k _ h fits. record { at = (k.at.0, k.at.1, fits); laws = k.laws };
        default = λ k _ c b. whole-kept (default_law c) k.laws k.at.0 k.at.1 (default-fits c b);
        inertial = λ k _ c b. whole-kept (inertial_law c) k.laws k.at.0 k.at.1 (inertial-fits c b);
        nonexecutable = λ k _ cs held. whole-kept (nonexecutable_law cs) k.laws k.at.0 k.at.1 (caused-fits False cs refl held);
        if-list = λ l k kind cs held. with-if-kept l kind cs k held;
        after_list = λ l k cs held. whole-kept (with_after l cs) k.laws k.at.0 k.at.1 (after-fits l cs k.at.2 held);
        by-list =
            λ l k cs held. whole-kept (causes_law l.head cs) k.laws k.at.0 k.at.1 (caused-fits l.head cs k.at.2 held);
        ends = λ k. k;
      }

  step_kept : (lent : ℕ) (due : Due) → Kept due d → (key : ℕ) (value : List ℕ) → KeptStep (line_step lent due d key value)
  step_kept lent due k key value = line-cases lent d value _ _ (laws-kept lent value) due key k

-- line by line
abbrev KeptReply : Reply Taken → Type 0
KeptReply (refused number place) = Unit
KeptReply (answered (read d rest lines)) = Kept law_due d

module _ (lent : ℕ) where
  lines-kept : (fuel line : ℕ) (due : Due) (d : Draft) (text : List ℕ) → Kept due d → KeptReply (lines_from fuel lent line due d text)
  lines-kept zero line due d text k = tt
  lines-kept (suc fuel) line due d text k = by-line (first_line text) (λ due' d' rest k'. lines-kept fuel (suc line) due' d' rest k')
    where
      Later : Type 0
      Later = (due' : Due) (d' : Draft) (rest : List ℕ) → Kept due' d' → KeptReply (lines_from fuel lent (suc line) due' d' rest)

      by-step : (s : Step) (rest : List ℕ) → KeptStep s → Later
          → KeptReply (after_step s line rest (λ due' d' rest'. lines_from fuel lent (suc line) due' d' rest'))
      by-step (step.refused n) rest s go = tt
      by-step (next due' d') rest s go = go due' d' rest s
      by-step (finish d') rest s go = s

      by-line : (o : Option Line) → Later
          → KeptReply (after_first o lent due d line (λ due' d' rest. lines_from fuel lent (suc line) due' d' rest))
      by-line none go = tt
      by-line (some l) go = by-step (line_step lent due d l.key l.value) l.rest (step_kept d lent due k l.key l.value) go

  text-kept : (text : List ℕ) → KeptReply (described lent text)
  unfolding described
  text-kept text =
      chosen KeptReply (ltb 65535 (length text)) (λ _. tt)
      (λ _. lines-kept (suc (length text)) 1 horizon_due blank text (record { at = refl; laws = tt }))

-- the limits and the laws are what refusals 8 and 3 ask for
module _ (lent : ℕ) (d : Draft) (g : Limited (min 64 lent) law_due d) (k : Kept law_due d) where
  counts-fit : (room : ℕ) → length d.laws ≤ room
      → (leb 1 d.fluents && leb d.fluents 24 && leb (length d.names - d.fluents) 8
      && leb (length d.laws) 64 && leb (length d.laws) room)
      ≡ true
  counts-fit room h =
      rw (
        le-leb 1 d.fluents k.at.1,
        le-leb d.fluents 24 g.few,
        le-leb (length d.names - d.fluents) 8 (omega (arith, g.actions)),
        le-leb (length d.laws) 64 (omega (arith, g.room)),
        le-leb (length d.laws) room h,
      )

  laws-fit : Each (λ l. not (law_fits d.fluents (length d.names - d.fluents) l) ≡ false) d.laws
  laws-fit = each_map (λ l f. rw (f.fits (length d.names - d.fluents) (omega (arith, g.named)))) d.laws k.laws

  record-fits : (old : List Law) (room : ℕ) → length d.laws ≤ room → bad_record (description_of d) (d.laws ++ old) room ≡ none
  unfolding bad_record
  record-fits old room h =
      rw (counts-fit room h, take_at d.laws old (length d.laws) refl)
      ((none-iff (λ l. not (law_fits d.fluents (length d.names - d.fluents) l)) 0 d.laws).1 laws-fit)

  horizon-fits : bad_horizon d.horizon ≡ none
  unfolding bad_horizon
  horizon-fits = rw (le-leb 1 d.horizon k.at.0, le-leb d.horizon 30 g.time)

  accepted : Accepted lent d
  accepted = record {
    few = omega (arith, g.room);
    fits = record-fits;
    time = horizon-fits;
    tidy = each_map (λ l f. f.tidy) d.laws k.laws;
  }

pub taken-accepted : TakenAccepted
taken-accepted lent text d rest lines e =
    let within : BoundedReply text (min 64 lent) 65537 (answered (read d rest lines)) =
    subst (BoundedReply text (min 64 lent) 65537) e (bounded lent text) in
    let kept : KeptReply (answered (read d rest lines)) = subst KeptReply e (text-kept lent text) in
    accepted lent d within.limited kept

pub left-accepted : LeftAccepted
left-accepted lent text d rest lines e old =
    let a = taken-accepted lent text d rest lines e in
    let behind = drop (length d.laws) old in
    rw e
    (record {
      lent_fits = a.fits behind lent (omega (arith, a.few));
      run_fits = a.fits behind 64 (omega (arith, a.few));
      time = a.time;
    })
