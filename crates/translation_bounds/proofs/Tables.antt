-- The engine never refuses a translated table, and a translated table holds exactly the published rules.
-- Assumes nothing.
use mathlib.Core.Path.{◌≡◌, sym, ap, ◌∙◌}
use mathlib.Core.Bool.{Bool, cond}
use mathlib.Core.List.{List}
use mathlib.Core.Option.{none, some}
use Prim.Native.Nat.{ℕ, ◌*◌, ◌≤◌}
use native.Mathlib.Omega.{arith}
use borrow.Author.Tests.{le-ltb}
use lib.ListN.{length, drop, length-append, length-drop}
use lib.Seq.{take-append_seam, drop-append_seam}
use Rattle.basics.specs.Replies.{answered}
use Rattle.logic_programs.specs.Literals.{set_of, bad_value}
use Rattle.logic_programs.specs.Words.{rules_of, bad_rule}
use Rattle.rule_tables.specs.Acceptance as acceptance
use Rattle.answer_set_theory.specs.Verdicts.{verdict}
use Rattle.answer_set_theory.specs.Answers as engine
use Rattle.answer_set_theory.proofs.Decoding.{CodesBelow, rules-words, codes-coded, words-accepted}
use Rattle.answer_set_theory.proofs.Theorems.{accepted-judged}
use Rattle.action_language.specs.declared.Law.{Law}
use Rattle.action_language.specs.declared.Description.{Description}
use Rattle.action_language.specs.Laws.{laws_of}
use Rattle.action_language.specs.Atoms.{atom_count}
use Rattle.action_language.proofs.Laws.{accepted-law, accepted-few}
use Rattle.action_language.proofs.Atoms as counts
use Rattle.translation_rules.specs.Translated.{written, rules_for, table_for, outcome, overwritten, table_after}
use Rattle.translation_rules.proofs.Outcomes.{Accepted, written-accepted, written-left, written-limits}
use Rattle.translation_bounds.specs.Tables.{TablesHoldRules}
use Rattle.translation_bounds.proofs.Bounds.{at-most-4096, codes-below}

module _ (d : Description) (ls : List Law) (lent room : ℕ) {a r w : ℕ} (e : outcome d ls lent room ≡ answered (written a r w)) where
  accepted : Accepted d ls lent room a r w
  accepted = written-accepted d ls lent room e

  pub few-atoms : a ≤ 1024
  few-atoms =
      let l = written-limits d ls lent room e in
      omega (arith, accepted.atoms, counts.few-atoms d.fluents d.actions d.horizon l.0 l.1 l.3)

  -- every code of the rules is below twice the atoms
  rules-below : CodesBelow (2 * atom_count d.fluents d.actions d.horizon) (rules_for d ls)
  rules-below = codes-below d.fluents d.actions d.horizon (laws_of d ls) (accepted-law d ls lent accepted.taken)

  -- and there are at most 4,096 rules
  pub table-accepted : bad_rule a (table_for d ls) ≡ none
  table-accepted =
      let l = written-limits d ls lent room e in
      rw accepted.atoms
      (words-accepted (atom_count d.fluents d.actions d.horizon) (rules_for d ls) rules-below
      (at-most-4096 d.fluents d.actions d.horizon (laws_of d ls) l.0 l.1 l.3 (accepted-few d ls lent accepted.taken)))

  pub engine-accepts : (vs : List ℕ) → length vs ≡ a → bad_value vs ≡ none → acceptance.Accepted vs (table_for d ls)
  engine-accepts vs size small = (
    ap (λ (b : Bool). cond b (some (length vs)) none) (le-ltb 1024 (length vs) (omega (arith, few-atoms))),
    small,
    rw size table-accepted,
  )

  pub engine-judges : (vs : List ℕ) → length vs ≡ a → bad_value vs ≡ none
      → engine.answer vs (table_for d ls) ≡ answered (verdict (length vs) (rules_of (table_for d ls)) (set_of vs))
  engine-judges vs size small = accepted-judged vs (table_for d ls) (engine-accepts vs size small)

  -- no literal's code is that of false, so the words decode to the rules
  pub table-decoded : rules_of (table_for d ls) ≡ rules_for d ls
  table-decoded =
      rules-words (rules_for d ls)
      (codes-coded (2 * atom_count d.fluents d.actions d.horizon) (rules_for d ls) rules-below
      (omega (arith, few-atoms, accepted.atoms)))

-- what is left in the table: the words of the rules, and behind them what stood there before
pub tables-hold-rules : TablesHoldRules
tables-hold-rules d ls lent old atoms rules words e =
    let a = written-accepted d ls lent (length old) e in
    let new : List ℕ = table_for d ls in
    let left : table_after d ls lent old ≡ overwritten new old = sym (written-left d ls lent old e) in
    record {
      decoded = rw (left, a.words, take-append_seam new (drop (length new) old)) (table-decoded d ls lent (length old) e);
      behind = rw (left, a.words) (drop-append_seam new (drop (length new) old));
      as_long = rw left (length-append new (drop (length new) old) ∙ omega (arith, length-drop (length new) old, a.room-enough));
      atom-count = a.atoms;
      rule-count = a.rules;
    }
