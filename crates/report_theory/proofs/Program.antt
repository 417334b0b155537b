-- The output for every input is what `Program` says.
-- Assumes nothing.
use mathlib.Core.Path.{◌≡◌, refl, sym, ap, subst, ◌∙◌}
use mathlib.Core.Logic.{◌↔◌, inl, inr, ⊎_elim}
use mathlib.Core.Bool.{true, false}
use mathlib.Core.List.{List, [], ◌∷◌}
use mathlib.Core.Option.{Option, none, some}
use Prim.Native.Nat.{ℕ, ◌≤◌, ◌<◌}
use native.Mathlib.Omega.{arith}
use borrow.Author.Tests.{eq-eqb, eqb-true, le-ltb}
use lib.Dec.{eqb, ltb}
use lib.ListN.{length}
use Rattle.basics.specs.Search.{Each, Lowest, Nowhere}
use Rattle.basics.specs.Replies.{Reply, refused, answered}
use Rattle.basics.proofs.Tests.{not-both, or-iff, each_map}
use Rattle.basics.proofs.Lists.{none-iff}
use Rattle.logic_programs.specs.Literals.{OneValue, NoValue, BothValues, NoneOrBoth, set_of, bad_value}
use Rattle.logic_programs.specs.ValueFaults as faults
use Rattle.logic_programs.specs.ValueFaults.{ValueFault, value_fault, or_fault}
use Rattle.logic_programs.proofs.Values.{nowhere-none-or-both, all-one-value, missing-iff, clash-iff, neither-iff}
use Rattle.answer_set_theory.specs.Verdicts.{Verdict, clash, broken, unfounded, passes, verdict}
use Rattle.answer_set_theory.specs.Demand2.{RightVerdict, Demand2}
use Rattle.answer_set_theory.proofs.Theorems.{accepted-judged, demand-2}
use Rattle.logic_programs.specs.Rules.{Rule}
use Rattle.logic_programs.specs.Words.{rules_of}
use Rattle.action_language.specs.declared.Law.{Law}
use Rattle.action_language.specs.declared.Description.{Description}
use Rattle.action_language.specs.Laws.{laws_of}
use Rattle.translation_rules.specs.Translated.{written, rules_for, table_for, outcome}
use Rattle.translation_bounds.proofs.Tables.{engine-accepts, table-decoded}
use Rattle.history_check.specs.Checks.{Finding, missing, judged, finding, checked}
use Rattle.history_check.proofs.Judging.{found_of, finding-answered}
use Rattle.causal_reading.specs.Verdicts.{Causal, path, causal_verdict}
use Rattle.causal_reading.specs.Readings.{reading}
use Rattle.correctness.specs.Demand3.{Complete, PathOf}
use Rattle.correctness.specs.MissingAndClash.{SameFirst}
use Rattle.correctness.proofs.Demand3.{demand-3, read-verdict}
use Rattle.correctness.proofs.MissingAndClash.{missing-and-clash}
use Rattle.correctness.proofs.CausalFaults.{fault-named}
use Rattle.description_lines.specs.LineSteps.{Draft}
use Rattle.description_lines.specs.Descriptions.{Taken, read, described, description_of}
use Rattle.history_reader.specs.Histories.{atoms}
use Rattle.whole_inputs.specs.Inputs.{recorded_in}
use Rattle.whole_inputs.proofs.Known.{recorded-refused}
use Rattle.possible_refusals.specs.Refusals.{among}
use Rattle.possible_refusals.proofs.Readers.{input-by}
use Rattle.possible_refusals.proofs.Checks.{fits, in-time, small-table, is-written, values-count, values-small, values-acted}
use Rattle.printed_lines.specs.Printed.{causal_after}
use Rattle.report_theory.specs.Output.{room, after_outcome, output}
use Rattle.report_theory.specs.Program.{Refused, causal_shown, missing_or_clash, EngineTold, CausalTold, VerdictPrinted, Program}

-- what is shown of a reading behind an answer
abbrev shown_of : Reply Causal → Option Causal
shown_of (refused number place) = none
shown_of (answered v) = some v

abbrev shown_after : Finding → Reply Causal → Option Causal
shown_after (missing a) reply = none
shown_after (judged (clash a)) reply = none
shown_after (judged (broken r)) reply = shown_of reply
shown_after (judged (unfounded c)) reply = shown_of reply
shown_after (judged passes) reply = shown_of reply

after-shown : (input : List ℕ) (f : Finding) (reply : Reply Causal) → causal_after input f reply ≡ causal_shown input (shown_after f reply)
after-shown input (missing a) reply = refl
after-shown input (judged (clash a)) reply = refl
after-shown input (judged (broken r)) (refused number place) = refl
after-shown input (judged (broken r)) (answered v) = refl
after-shown input (judged (unfounded c)) (refused number place) = refl
after-shown input (judged (unfounded c)) (answered v) = refl
after-shown input (judged passes) (refused number place) = refl
after-shown input (judged passes) (answered v) = refl

none-shown : (f : Finding) (reply : Reply Causal) → missing_or_clash f ≡ true → shown_after f reply ≡ none
none-shown (missing a) reply e = refl
none-shown (judged (clash a)) reply e = refl
none-shown (judged (broken r)) reply e = absurd (not-both e refl)
none-shown (judged (unfounded c)) reply e = absurd (not-both e refl)
none-shown (judged passes) reply e = absurd (not-both e refl)

all_shown : (f : Finding) (reply : Reply Causal) → missing_or_clash f ≡ false → shown_after f reply ≡ shown_of reply
all_shown (missing a) reply e = absurd (not-both refl e)
all_shown (judged (clash a)) reply e = absurd (not-both refl e)
all_shown (judged (broken r)) reply e = refl
all_shown (judged (unfounded c)) reply e = refl
all_shown (judged passes) reply e = refl

of-shown : (reply : Reply Causal) → shown_of reply ≡ some path → reply ≡ answered path
of-shown (refused number place) e = let z : ◌≡◌ {A = ℕ} 0 1 = cc in absurd (omega arith)
of-shown (answered v) e = let same : v ≡ path = cc in ap {B = Reply Causal} answered same

path-shown : (f : Finding) (reply : Reply Causal) → shown_after f reply ≡ some path → reply ≡ answered path
path-shown (missing a) reply e = let z : ◌≡◌ {A = ℕ} 0 1 = cc in absurd (omega arith)
path-shown (judged (clash a)) reply e = let z : ◌≡◌ {A = ℕ} 0 1 = cc in absurd (omega arith)
path-shown (judged (broken r)) reply e = of-shown reply e
path-shown (judged (unfounded c)) reply e = of-shown reply e
path-shown (judged passes) reply e = of-shown reply e

-- an input that the readers take
module _ (input : List ℕ) (d : Draft) (rest : List ℕ) (lines : ℕ) (vs : List ℕ)
    (is : described 64 input ≡ answered (read d rest lines)) (e : recorded_in input ≡ answered vs) where
  abbrev D : Description
  D = description_of d

  abbrev ls : List Law
  ls = d.laws

  size : length vs ≡ atoms d
  size = values-count input d rest lines vs is e

  bytes : bad_value vs ≡ none
  bytes = (none-iff (ltb 3) 0 vs).1 (each_map (λ v h. le-ltb 3 v h) vs (values-small input d rest lines vs is e))

  abbrev said : Verdict
  said = verdict (length vs) (rules_of (table_for D ls)) (set_of vs)

  out_written : outcome D ls 64 room ≡ answered (written (atoms d) (length (rules_for D ls)) (length (table_for D ls)))
  out_written = is-written input d rest lines is room (omega arith)

  abbrev found : Finding
  found = found_of vs said

  is_found : finding vs (table_for D ls) ≡ answered found
  is_found = finding-answered D ls 64 room out_written vs size bytes

  is-checked : checked D ls 64 vs room ≡ answered found
  unfolding checked
  is-checked = rw (out_written, eq-eqb (length vs) (atoms d) size, bytes) is_found

  abbrev reply : Reply Causal
  reply = reading D ls 64 vs

  complete : Each OneValue vs → Complete D ls 64 vs
  complete one = record { records = fits input d rest lines is; horizon = in-time input d rest lines is; size = size; one_value = one }

  passing : Each OneValue vs → found ≡ judged passes ↔ PathOf D ls vs
  passing one =
      let iff = (demand-3 D ls 64 vs (complete one)).history-passes room (small-table input d rest lines is) in (
        λ h. iff.0 (is-checked ∙ ap {B = Reply Finding} answered h),
        λ p. answered-same (sym is-checked ∙ iff.1 p),
      )
    where
      answered-same : {f g : Finding} → answered f ≡ answered g → f ≡ g
      answered-same h = cc

  causal-path : Each OneValue vs → shown_after found reply ≡ some path ↔ PathOf D ls vs
  causal-path one =
      let iff = (demand-3 D ls 64 vs (complete one)).causal-path in (
        λ h. iff.0 (path-shown found reply h),
        λ p. ap (λ (f : Finding). shown_after f reply) ((passing one).1 p) ∙ ap shown_of (iff.1 p),
      )

  -- where every atom has one value, what is found is neither missing nor clash
  neither : Each OneValue vs → missing_or_clash found ≡ false
  neither one = go found is_found
    where
      clear : Nowhere (NoneOrBoth vs) (length vs)
      clear = (nowhere-none-or-both vs).0 (all-one-value vs one)

      says : SameFirst vs (table_for D ls)
      says = missing-and-clash vs (table_for D ls) (engine-accepts D ls 64 room out_written vs size bytes)

      go : (f : Finding) → finding vs (table_for D ls) ≡ answered f → missing_or_clash f ≡ false
      go (missing a) h = let low = ((says.by_values.missing-exactly a).0 h).0 in absurd (clear a low.0 low.1)
      go (judged (clash a)) h = let low = ((says.by_values.clash-exactly a).0 h).0 in absurd (clear a low.0 low.1)
      go (judged (broken r)) h = refl
      go (judged (unfounded c)) h = refl
      go (judged passes) h = refl

  engine-says : Each OneValue vs → EngineTold D ls vs found
  unfolding Demand2
  engine-says one =
      let accepted = engine-accepts D ls 64 room out_written vs size bytes in
      record {
        told = said;
        found-so = rw ((neither-iff vs).1 (all-one-value vs one)) refl;
        right = subst (λ (Π : List Rule). RightVerdict (length vs) Π (set_of vs) (answered said))
            (table-decoded D ls 64 room out_written)
            (subst (RightVerdict (length vs) (rules_of (table_for D ls)) (set_of vs)) (accepted-judged vs (table_for D ls) accepted)
            (demand-2 vs (table_for D ls) accepted));
      }

  causal-says : Each OneValue vs → CausalTold D ls vs (shown_after found reply)
  causal-says one =
      let is_read = read-verdict D ls 64 vs (complete one) in
      record {
        told = causal_verdict D.fluents D.actions D.horizon (laws_of D ls) vs;
        shown-so = all_shown found reply (neither one) ∙ ap shown_of is_read;
        read-so = is_read;
        fault = fault-named D.fluents D.actions D.horizon (laws_of D ls) vs;
      }

  lacking : (a : ℕ) → a < length vs → NoneOrBoth vs a → missing_or_clash found ≡ true
  lacking a below h = go (value_fault vs) refl
    where
      go : (fault : ValueFault) → value_fault vs ≡ fault
          → missing_or_clash (or_fault fault missing (λ k. judged (clash k)) (judged said)) ≡ true
      go (faults.missing k) q = refl
      go (faults.clash k) q = refl
      go faults.neither q = absurd ((nowhere-none-or-both vs).0 ((neither-iff vs).0 q) a below h)

  decides : (a : ℕ) → Lowest (NoneOrBoth vs) (length vs) a
      → (NoValue vs a → found ≡ missing a) × (BothValues vs a → found ≡ judged (clash a))
  decides a low = (λ zero. rw ((missing-iff vs a).1 (low, zero)) refl, λ both. rw ((clash-iff vs a).1 (low, both)) refl)

  is-printed : output input ≡ after_outcome input D ls vs (outcome D ls 64 room)
  unfolding output
  is-printed = rw (is, e) refl

  judges : VerdictPrinted input (output input)
  judges = record {
    draft = d;
    rest = rest;
    lines = lines;
    described-so = is;
    values = vs;
    recorded-so = e;
    size = size;
    each = values-small input d rest lines vs is e;
    acted = values-acted input d rest lines vs is e;
    found = found;
    causal = shown_after found reply;
    printed = is-printed ∙ rw (out_written, is-checked, after-shown input found reply) refl;
    lowest-decides = decides;
    incomplete = λ a below h. let f = lacking a below h in (f, none-shown found reply f);
    passes-exactly = passing;
    path-exactly = causal-path;
    engine-told = engine-says;
    causal-told = causal-says;
  }

-- one of 1 to 7
in-seven : (k : ℕ) → among k (1 ∷ 2 ∷ 3 ∷ 4 ∷ 5 ∷ 6 ∷ 7 ∷ []) ≡ true → (1 ≤ k) × (k ≤ 7)
in-seven k h =
    go (1 ∷ 2 ∷ 3 ∷ 4 ∷ 5 ∷ 6 ∷ 7 ∷ []) (
      (omega arith, omega arith),
      (
        (omega arith, omega arith),
        (
          (omega arith, omega arith),
          ((omega arith, omega arith), ((omega arith, omega arith), ((omega arith, omega arith), ((omega arith, omega arith), tt)))),
        ),
      ),
    ) h
  where
    go : (xs : List ℕ) → Each (λ x. (1 ≤ x) × (x ≤ 7)) xs → among k xs ≡ true → (1 ≤ k) × (k ≤ 7)
    go [] w q = absurd (not-both q refl)
    go (x ∷ xs) w q =
        ⊎_elim (λ (s : eqb k x ≡ true). rw (eqb-true k x s) w.0) (λ (later : among k xs ≡ true). go xs w.1 later)
        ((or-iff (eqb k x) (among k xs)).0 q)

module _ (input : List ℕ) where
  -- the description's refusal is that of the input
  of-described : (number place : ℕ) → recorded_in input ≡ refused number place → (k p : ℕ) → described 64 input ≡ refused k p
      → (number ≡ k) × (place ≡ p)
  of-described number place e k p is = let both = sym e ∙ recorded-refused input is in (cc, cc)

  says-refusal : (number place : ℕ) → recorded_in input ≡ refused number place → Refused input (output input)
  unfolding output
  says-refusal number place e =
      let within = rw e at (input-by input) in
      record {
        number = number;
        place = place;
        recorded-so = e;
        of-description = of-described number place e;
        low = (in-seven number within).0;
        high = (in-seven number within).1;
        printed = rw e refl;
      }

  by_values : (o : Reply Taken) → described 64 input ≡ o → (r : Reply (List ℕ)) → recorded_in input ≡ r → Program input (output input)
  unfolding Program
  by_values o is (refused number place) e = inl (says-refusal number place e)
  by_values (answered (read d rest lines)) is (answered vs) e = inr (judges input d rest lines vs is e)
  by_values (refused number place) is (answered vs) e =
      let both = sym e ∙ recorded-refused input is in
      let z : ◌≡◌ {A = ℕ} 0 1 = cc in absurd (omega arith)

  pub program : Program input (output input)
  program = by_values (described 64 input) refl (recorded_in input) refl
