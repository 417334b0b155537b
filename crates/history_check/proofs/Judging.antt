-- The history check's answer, and what it leaves in the table, from what the translation and the engine said.
-- Assumes nothing.
use mathlib.Core.Path.{◌≡◌, refl, sym, ap, ◌∙◌}
use mathlib.Core.List.{List}
use mathlib.Core.Option.{none}
use Rattle.std.specs.Prelude.{Some}
use Prim.Native.Nat.{ℕ}
use lib.ListN.{length, take, drop}
use lib.Seq.{take_at}
use Rattle.basics.specs.Replies.{Reply, refused, answered, unless_refused}
use Rattle.logic_programs.specs.Literals.{set_of, bad_value}
use Rattle.logic_programs.specs.ValueFaults as faults
use Rattle.logic_programs.specs.ValueFaults.{ValueFault, value_fault, or_fault}
use Rattle.literal_sets.specs.declared.values.Fault.{Fault}
use Rattle.literal_sets.specs.declared.values.Fault.TheVariants.{Missing, Clash}
use Rattle.literal_sets.specs.Faults.{fault_of}
use Rattle.answer_set_theory.specs.Verdicts.{Verdict, verdict, clash}
use Rattle.logic_programs.specs.Words.{rules_of}
use Rattle.answer_set_theory.specs.Answers as engine
use Rattle.action_language.specs.declared.Law.{Law}
use Rattle.action_language.specs.declared.Description.{Description}
use Rattle.translation_rules.specs.Translated as translated
use Rattle.translation_rules.specs.Translated.{Written, written}
use Rattle.translation_rules.proofs.Histories.{written-passed, tests-first}
use Rattle.translation_bounds.proofs.Tables.{engine-judges}
use Rattle.history_check.specs.Checks.{Finding, missing, judged, of_fault, of_engine, finding, checked, table_after}

-- the words of a translation are the first of the table that it was written into
pub words-front : (ws table : List ℕ) (w : ℕ) → w ≡ length ws → take w (translated.overwritten ws table) ≡ ws
words-front ws table w e = take_at ws (drop (length ws) table) w (sym e)

-- missing or clash
pub says-fault : (vs ws : List ℕ) (fault : Fault) → value_fault vs ≡ fault_of (Some fault) → answered (of_fault fault) ≡ finding vs ws
says-fault vs ws (Missing a) e = rw e refl
says-fault vs ws (Clash a) e = rw e refl

-- or what the engine says
pub says-engine : (vs ws : List ℕ) {reply : Reply Verdict} → value_fault vs ≡ faults.neither → reply ≡ engine.answer vs ws
    → of_engine reply ≡ finding vs ws
says-engine vs ws e said = rw (e, said) refl

-- what is found where the engine judges
abbrev pub found_of : List ℕ → Verdict → Finding
found_of vs v = or_fault (value_fault vs) missing (λ a. judged (clash a)) (judged v)

-- of values that are not refused an answer is found: the engine refuses no translated table
pub finding-answered : (d : Description) (ls : List Law) (lent room : ℕ) {a r w : ℕ}
    → translated.outcome d ls lent room ≡ answered (written a r w)
    → (vs : List ℕ) → length vs ≡ a → bad_value vs ≡ none → finding vs (translated.table_for d ls)
    ≡ answered (found_of vs (verdict (length vs) (rules_of (translated.table_for d ls)) (set_of vs)))
finding-answered d ls lent room e vs size small = rw (engine-judges d ls lent room e vs size small) (either (value_fault vs) _)
  where
    either : (fault : ValueFault) (f : Finding)
        → or_fault fault (λ a. answered (missing a)) (λ a. answered (judged (clash a))) (answered f)
        ≡ answered (or_fault fault missing (λ a. judged (clash a)) f)
    either (faults.missing a) f = refl
    either (faults.clash a) f = refl
    either faults.neither f = refl

-- the translation for a history, which is the front half, and the verdict behind it
module _ (d : Description) (ls : List Law) (lent : ℕ) (vs table : List ℕ) where
  abbrev front : Reply Written
  front = translated.outcome_for d ls lent vs (answered tt) (length table)

  by_front : checked d ls lent vs (length table) ≡ unless_refused front (finding vs (translated.table_for d ls))
  unfolding checked translated.outcome_for
  by_front = tests-first (translated.outcome d ls lent (length table)) vs (finding vs (translated.table_for d ls))

  after_front : {o : Reply Written} → front ≡ o
      → checked d ls lent vs (length table) ≡ unless_refused o (finding vs (translated.table_for d ls))
  after_front e = by_front ∙ ap (λ (o : Reply Written). unless_refused o (finding vs (translated.table_for d ls))) e

  pub says-refused : {k p : ℕ} → front ≡ refused k p
      → (refused k p ≡ checked d ls lent vs (length table)) × (table ≡ table_after d ls lent vs table)
  unfolding table_after
  says-refused e = rw (after_front e) (refl, refl)

  module _ {a r w : ℕ} (e : front ≡ answered (written a r w)) where
    pub says-verdict : (reply : Reply Finding) → reply ≡ finding vs (translated.table_for d ls)
        → reply ≡ checked d ls lent vs (length table)
    says-verdict reply is = is ∙ sym (after_front e)

    pub leaves_table : translated.overwritten (translated.table_for d ls) table ≡ table_after d ls lent vs table
    unfolding table_after
    leaves_table =
        let p = written-passed d ls lent (length table) vs (answered tt) e in
        rw (after_front e, finding-answered d ls lent (length table) p.translated vs p.size p.small) refl
