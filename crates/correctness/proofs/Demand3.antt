-- Demand 3, for every accepted description, an open horizon and every set with one value for each atom. The engine's part goes
-- through what the engine promises (demand 2: it passes exactly the answer sets), the history check's through the engine's, that
-- of the completion formulas through Proposition 3. And what the functions open to callers promise of it.
-- Assumes nothing.
use mathlib.Core.Path.{◌≡◌, refl, sym, ◌∙◌, ap}
use mathlib.Core.Logic.Iff
use mathlib.Core.Logic.{◌↔◌, inl, inr, ⊎_elim}
use mathlib.Core.Bool.{Bool, true, false, not, ◌||◌}
use mathlib.Core.List.{List}
use mathlib.Core.Option.{none}
use Prim.Native.Nat.{ℕ, ◌≤◌}
use native.Mathlib.Omega.{arith}
use borrow.Author.Tests.{eqb-true, eq-eqb, le-ltb}
use lib.Dec.{eqb, ltb}
use lib.ListN.{length, take, drop}
use lib.Seq.{take-append_seam}
use Rattle.basics.specs.Search.{Each, first}
use Rattle.std.specs.Prelude.{Result}
use Rattle.basics.specs.declared.Refusal.{Refusal}
use Rattle.basics.specs.Replies.{Reply, refused, answered}
use Rattle.basics.proofs.Tests.{or-iff, each_map}
use Rattle.basics.proofs.Lists.{each-iff, none-iff}
use Rattle.logic_programs.specs.Literals.{OneValue, set_of}
use Rattle.logic_programs.proofs.Values.{all-one-value}
use Rattle.logic_programs.specs.AnswerSets.{AnswerSet}
use Rattle.answer_set_theory.specs.Verdicts.{Verdict, passes}
use Rattle.logic_programs.specs.Words.{rules_of}
use Rattle.answer_set_theory.specs.Answers as engine
use Rattle.rule_tables.specs.Acceptance.{Accepted}
use Rattle.answer_set_theory.specs.Demand2.{Demand2}
use Rattle.answer_set_theory.proofs.Theorems.{demand-2}
use Rattle.action_language.specs.declared.Law.{Law}
use Rattle.action_language.specs.declared.Description.{Description}
use Rattle.action_language.specs.Laws.{laws_of}
use Rattle.action_language.specs.Atoms.{atom_count}
use Rattle.action_language.specs.Acceptance.{bad_record, bad_horizon}
use Rattle.action_language.proofs.Laws.{accepted-law}
use Rattle.translation_rules.specs.Translated.{written, rules_for, table_for, outcome, table_after}
use Rattle.translation_rules.proofs.Outcomes.{accepted-written, accepted-short, written-left}
use Rattle.translation_bounds.proofs.Tables.{engine-accepts, table-decoded}
use Rattle.history_check.specs.declared.Finding.{Finding}
use Rattle.history_check.specs.Checks as history
use Rattle.causal_reading.specs.declared.Reading.{Reading}
use Rattle.causal_reading.specs.Verdicts.{path, causal_verdict}
use Rattle.causal_reading.specs.Readings as causal
use Rattle.completion_theory.specs.Findings.{holds}
use Rattle.completion_theory.specs.Answers as completion
use Rattle.completion_theory.proofs.Theorems.{holds-answer-set}
use Rattle.correctness.specs.Demand3.{Complete, PathOf, FiveReadings, Demand3}
use Rattle.correctness.specs.Promises.{TranslatesExactly, PassesExactly, PathExactly}
use Rattle.correctness.proofs.Reading.{causal-iff}
use Rattle.correctness.proofs.Translated.{translation-tight, answer-set-iff-path}

-- a value that is 1 or 2 is no byte over 3, and is one value
fits_byte : (v : ℕ) → OneValue v → ltb 3 v ≡ false
fits_byte v o = le-ltb 3 v (⊎_elim (λ (e : v ≡ 1). omega arith) (λ (e : v ≡ 2). omega arith) o)

one_value : (v : ℕ) → causal.not_one_value v ≡ false ↔ OneValue v
one_value v = (
  λ e. ⊎_elim (λ t. inl (eqb-true v 1 t)) (λ t. inr (eqb-true v 2 t)) ((or-iff (eqb v 1) (eqb v 2)).0 (negated (eqb v 1 || eqb v 2) e)),
  λ o. ⊎_elim (λ (e : v ≡ 1). rw e refl) (λ (e : v ≡ 2). rw e refl) o,
)
  where
    negated : (b : Bool) → not b ≡ false → b ≡ true
    negated true e = refl
    negated false e = sym e

-- so the causal reading refuses none by 11 exactly if each has one value
pub one-value-each : (vs : List ℕ) → first causal.not_one_value 0 vs ≡ none ↔ Each OneValue vs
one-value-each vs = Iff.trans (none-iff causal.not_one_value 0 vs) (each-iff one_value vs)

module _ (d : Description) (ls : List Law) (lent : ℕ) (vs : List ℕ) (complete : Complete d ls lent vs) where
  taken : bad_record d ls lent ≡ none
  taken = complete.records

  horizon : bad_horizon d.horizon ≡ none
  horizon = complete.horizon

  size : length vs ≡ atom_count d.fluents d.actions d.horizon
  size = complete.size

  one : Each OneValue vs
  one = complete.one_value

  -- with room for exactly the words needed
  exact : outcome d ls lent (length (table_for d ls))
      ≡ answered (written (atom_count d.fluents d.actions d.horizon) (length (rules_for d ls)) (length (table_for d ls)))
  exact = accepted-written d ls lent (length (table_for d ls)) taken horizon (omega arith)

  bytes : first (ltb 3) 0 vs ≡ none
  bytes = (none-iff (ltb 3) 0 vs).1 (each_map fits_byte vs one)

  accepted : Accepted vs (table_for d ls)
  accepted = engine-accepts d ls lent (length (table_for d ls)) exact vs size bytes

  -- the words that were written decode to the published rules
  decoded : rules_of (table_for d ls) ≡ rules_for d ls
  decoded = table-decoded d ls lent (length (table_for d ls)) exact

  by-answer-set : AnswerSet (rules_for d ls) (set_of vs) ↔ PathOf d ls vs
  by-answer-set = answer-set-iff-path d.fluents d.actions d.horizon (laws_of d ls) vs (accepted-law d ls lent taken) size one

  by-engine : engine.answer vs (table_for d ls) ≡ answered passes ↔ PathOf d ls vs
  unfolding Demand2
  by-engine = Iff.trans (rw decoded at (demand-2 vs (table_for d ls) accepted).passes-exactly) by-answer-set

  -- the published rules are tight, by their codes
  pub by-completion : completion.answer vs (table_for d ls) ≡ answered holds ↔ PathOf d ls vs
  by-completion =
      Iff.trans
      (rw decoded at (holds-answer-set vs (table_for d ls) accepted one (λ c. c)
      (rw decoded (translation-tight d.fluents d.actions d.horizon (laws_of d ls) (accepted-law d ls lent taken)))))
      by-answer-set

  -- the words that the translation left at the front are those of the rules
  left-in-front : (old : List ℕ) → length (table_for d ls) ≤ length old
      → take (length (table_for d ls)) (table_after d ls lent old) ≡ table_for d ls
  left-in-front old enough =
      ap (take (length (table_for d ls))) (sym (written-left d ls lent old (accepted-written d ls lent (length old) taken horizon enough)))
      ∙ take-append_seam (table_for d ls) (drop (length (table_for d ls)) old)

  by-translated : (old : List ℕ) → length (table_for d ls) ≤ length old
      → engine.answer vs (take (length (table_for d ls)) (table_after d ls lent old)) ≡ answered passes ↔ PathOf d ls vs
  by-translated old enough = rw (left-in-front old enough) by-engine

  by-formulas : (old : List ℕ) → length (table_for d ls) ≤ length old
      → completion.answer vs (take (length (table_for d ls)) (table_after d ls lent old)) ≡ answered holds ↔ PathOf d ls vs
  by-formulas old enough = rw (left-in-front old enough) by-completion

  -- the history check adds nothing to the engine's verdict where every value is 1 or 2
  checked-engine : (room : ℕ) → length (table_for d ls) ≤ room
      → history.checked d ls lent vs room ≡ history.of_engine (engine.answer vs (table_for d ls))
  unfolding history.checked
  checked-engine room enough =
      rw (accepted-written d ls lent room taken horizon enough, eq-eqb (length vs) _ size, bytes, all-one-value vs one)

  by-history : (room : ℕ) → length (table_for d ls) ≤ room
      → history.checked d ls lent vs room ≡ answered (history.judged passes) ↔ PathOf d ls vs
  by-history room enough = Iff.trans (rw (checked-engine room enough) (same (engine.answer vs (table_for d ls)))) by-engine
    where
      same : (r : Reply Verdict) → history.of_engine r ≡ answered (history.judged passes) ↔ r ≡ answered passes
      same (refused k p) = (λ e. cc, λ e. cc)
      same (answered v) = (λ e. cc, λ e. cc)

  pub read-verdict : causal.reading d ls lent vs ≡ answered (causal_verdict d.fluents d.actions d.horizon (laws_of d ls) vs)
  unfolding causal.reading
  read-verdict = rw (taken, horizon, eq-eqb (length vs) _ size, (one-value-each vs).1 one)

  by-causal : causal.reading d ls lent vs ≡ answered path ↔ PathOf d ls vs
  by-causal =
      Iff.trans (λ e. let v = read-verdict in cc, λ e. let v = read-verdict in cc)
      (causal-iff d.fluents d.actions d.horizon (laws_of d ls) vs)

  five-readings : FiveReadings d ls lent vs
  unfolding history.checked
  five-readings = record {
    answer-set = by-answer-set;
    engine-passes = by-translated;
    completion-holds = by-formulas;
    history-passes = by-history;
    history-refused = λ room short. rw (accepted-short d ls lent room taken horizon short) refl;
    causal-path = by-causal;
  }

pub demand-3 : Demand3
demand-3 d ls lent vs complete = five-readings d ls lent vs complete

-- What functions promise of their own answers

module _ (d : Description) (ls : List Law) (lent : ℕ) where
  pub translates-exactly : (old new : List ℕ) → new ≡ table_after d ls lent old → TranslatesExactly d ls lent old new
  unfolding TranslatesExactly
  translates-exactly old new e vs complete enough =
      let five = demand-3 d ls lent vs complete in (rw e (five.engine-passes old enough), rw e (five.completion-holds old enough))

  pub passes-exactly : (vs : List ℕ) (room : ℕ) (r : Result Finding Refusal) → history.reply_of r ≡ history.checked d ls lent vs room
      → PassesExactly d ls lent vs room r
  unfolding PassesExactly
  passes-exactly vs room r e complete enough =
      rw e (by-path, Iff.trans by-path (Iff.symm (by-completion d ls lent vs complete)))
    where
      by-path : history.checked d ls lent vs room ≡ answered (history.judged passes) ↔ PathOf d ls vs
      by-path = (demand-3 d ls lent vs complete).history-passes room enough

  pub path-exactly : (vs : List ℕ) (r : Result Reading Refusal)
      → causal.reply_of r ≡ causal.reading d ls lent vs → PathExactly d ls lent vs r
  unfolding PathExactly
  path-exactly vs r e complete = rw e (demand-3 d ls lent vs complete).causal-path
