-- The answers of the history check and of the completion formulas changed exactly as 02, §5 says.
-- Assumes nothing.
use mathlib.Core.Path.{◌≡◌, refl, sym, ◌∙◌, ap}
use mathlib.Core.List.{List}
use mathlib.Core.Option.{Option, none, some}
use Prim.Native.Nat.{ℕ}
use native.Mathlib.Omega.{arith}
use lib.Dec.{eqb}
use lib.ListN.{length}
use Rattle.basics.specs.Search.{first, Lowest}
use Rattle.basics.specs.Replies.{Reply, refused, answered, or_else}
use Rattle.logic_programs.specs.Literals.{set_of, bad_value}
use Rattle.logic_programs.specs.Words.{rules_of, bad_rule}
use Rattle.answer_set_theory.specs.Verdicts.{Verdict, clash, verdict}
use Rattle.rule_tables.specs.Acceptance.{too_many_values, after_tests}
use Rattle.answer_set_theory.specs.Answers as engine
use Rattle.action_language.specs.declared.Law.{Law}
use Rattle.action_language.specs.declared.Description.{Description}
use Rattle.action_language.specs.Atoms.{wrong_length}
use Rattle.action_language.proofs.Laws.{right-length}
use Rattle.translation_rules.specs.Translated as translated
use Rattle.translation_rules.specs.Translated.{Written, written}
use Rattle.translation_bounds.proofs.Tables.{engine-accepts, engine-judges}
use Rattle.completion_theory.specs.Findings as formulas
use Rattle.completion_theory.specs.LevelLists.{bad_levels}
use Rattle.completion_theory.specs.Answers as completion
use Rattle.logic_programs.specs.Literals.{BothValues}
use Rattle.history_check.specs.Checks as history
use Rattle.history_check.proofs.Judging.{finding-answered}
use Rattle.correctness.proofs.MissingAndClash.{engine-clash}
use Rattle.former_answers.specs.Former.{former_finding, former_checked, former_formulas}
use Rattle.former_answers.specs.Changes.{Changed, HistoryChanged, FormulasChanged, LevelsChanged}
use Rattle.former_answers.proofs.Orders.{lowest-value, nowhere-value, answers-changed, refused-changed, tested-changed}

-- The history check

module _ (d : Description) (ls : List Law) (lent : ℕ) (vs : List ℕ) (room : ℕ) where
  abbrev ws : List ℕ
  ws = translated.table_for d ls

  abbrev HistoryBecame : Reply history.Finding → Reply history.Finding → Type 0
  HistoryBecame former present = Changed history.missing (λ b. history.judged (clash b)) vs former present

  finding-changed : {a r w : ℕ} → translated.outcome d ls lent room ≡ answered (written a r w) → length vs ≡ a → bad_value vs ≡ none
      → HistoryBecame (former_finding vs ws) (history.finding vs ws)
  finding-changed e size small =
      answers-changed history.missing (λ b. history.judged (clash b)) apart vs (history.judged v) (history.judged v)
      clashes (λ nowhere. refl)
      former-found (finding-answered d ls lent room e vs size small)
    where
      v : Verdict
      v = verdict (length vs) (rules_of ws) (set_of vs)

      said : engine.answer vs ws ≡ answered v
      said = engine-judges d ls lent room e vs size small

      apart : (a b : ℕ) → history.missing a ≡ history.judged (clash b) → ⊥
      apart a b q = let z : ◌≡◌ {A = ℕ} 0 1 = cc in omega arith

      clashes : (b : ℕ) → Lowest (BothValues vs) (length vs) b → history.judged v ≡ history.judged (clash b)
      clashes b low =
          let same : answered v ≡ answered (clash b) =
          sym said ∙ (engine-clash vs ws (engine-accepts d ls lent room e vs size small) b).1 low in
          let found : v ≡ clash b = cc in
          ap history.judged found

      former-found : former_finding vs ws ≡ answered (or_else (first (eqb 0) 0 vs) history.missing (history.judged v))
      former-found = rw said (go (first (eqb 0) 0 vs))
        where
          go : (o : Option ℕ)
              → or_else o (λ atom. answered (history.missing atom)) (answered (history.judged v))
              ≡ answered (or_else o history.missing (history.judged v))
          go (some k) = refl
          go none = refl

  checked-changed : HistoryBecame (former_checked d ls lent vs room) (history.checked d ls lent vs room)
  unfolding history.checked
  checked-changed = go (translated.outcome d ls lent room) refl
    where
      go : (o : Reply Written) → translated.outcome d ls lent room ≡ o
          → HistoryBecame (translated.after_translation o vs (former_finding vs ws))
          (translated.after_translation o vs (history.finding vs ws))
      go (refused number place) e = refused-changed history.missing (λ b. history.judged (clash b)) vs refl refl
      go (answered (written a r w)) e =
          tested-changed history.missing (λ b. history.judged (clash b)) vs (wrong_length a (length vs)) 10
          (λ right. tested-changed history.missing (λ b. history.judged (clash b)) vs (bad_value vs) 11
          (λ small. finding-changed e (right-length a (length vs) right) small))

pub history-changed : HistoryChanged
history-changed = checked-changed

-- The completion formulas

module _ (vs ws : List ℕ) where
  abbrev FormulasBecame : Reply formulas.FormulaFinding → Reply formulas.FormulaFinding → Type 0
  FormulasBecame former present = Changed formulas.missing formulas.clash vs former present

  found-changed : FormulasBecame (answered (former_formulas vs ws)) (answered (formulas.formula_finding vs ws))
  unfolding formulas.formula_finding
  found-changed =
      answers-changed formulas.missing formulas.clash apart vs (or_else (first (eqb 3) 0 vs) formulas.clash next) next
      (λ b low. rw ((lowest-value vs 3 b).1 low) refl) (λ nowhere. rw ((nowhere-value vs 3).1 nowhere) refl) refl refl
    where
      next : formulas.FormulaFinding
      next = formulas.judged_by_formulas (length vs) (rules_of ws) (set_of vs)

      apart : (a b : ℕ) → formulas.missing a ≡ formulas.clash b → ⊥
      apart a b q = let z : ◌≡◌ {A = ℕ} 0 1 = cc in omega arith

  tests-changed : {former present : Reply formulas.FormulaFinding} → FormulasBecame former present
      → FormulasBecame (after_tests vs ws former) (after_tests vs ws present)
  tests-changed next =
      tested-changed formulas.missing formulas.clash vs (too_many_values vs) 10
      (λ _. tested-changed formulas.missing formulas.clash vs (bad_value vs) 11
      (λ _. tested-changed formulas.missing formulas.clash vs (bad_rule (length vs) ws) 12 (λ _. next)))

pub formulas-changed : FormulasChanged
unfolding completion.answer
formulas-changed vs ws = tests-changed vs ws (found-changed vs ws)

pub levels-changed : LevelsChanged
unfolding completion.answer_by_levels
levels-changed vs ws levels =
    tests-changed vs ws (tested-changed formulas.missing formulas.clash vs (bad_levels (length vs) ws levels) 13 (λ _. found-changed vs ws))
