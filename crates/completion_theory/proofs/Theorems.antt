-- What the answers say: by the formulas, and with levels by the engine too.
-- Assumes nothing.
use mathlib.Core.Path.{◌≡◌, refl, sym, ◌∙◌}
use mathlib.Core.Logic.Iff
use mathlib.Core.Logic.{◌↔◌}
use mathlib.Core.Bool.{Bool, true, false, cond, not}
use mathlib.Core.List.{List}
use mathlib.Core.Option.{Option, none, some}
use Prim.Native.Nat.{ℕ, ◌*◌, ◌<◌}
use native.Mathlib.Omega.{arith}
use borrow.Author.Tests.{eqb-true, eqb-false, eq-eqb}
use lib.Dec.{eqb}
use lib.ListN.{length, get_or}
use Rattle.basics.specs.Search.{Each, first, Lowest}
use Rattle.basics.specs.Replies.{Reply, refused, answered, or_else, or_refuse}
use Rattle.basics.proofs.Tests.{first-lowest}
use Rattle.logic_programs.specs.Literals.{set_of, OneValue}
use Rattle.logic_programs.specs.Rules.{Rule}
use Rattle.logic_programs.specs.Words.{rules_of}
use Rattle.logic_programs.specs.AnswerSets.{AnswerSet}
use Rattle.rule_tables.specs.Acceptance.{Accepted}
use Rattle.rule_tables.proofs.Testing.{comes-next}
use Rattle.answer_set_theory.specs.Verdicts.{passes}
use Rattle.answer_set_theory.specs.Answers as engine
use Rattle.answer_set_theory.specs.Demand2.{no_rule, Demand2}
use Rattle.answer_set_theory.proofs.Decoding.{accepted-count}
use Rattle.answer_set_theory.proofs.Theorems.{demand-2}
use Rattle.tight_programs.specs.TightPrograms.{Tight}
use Rattle.completion_theory.specs.Findings.{FormulaFinding, holds, formula_finding}
use Rattle.completion_theory.specs.LevelLists.{level_of, stands_above, bad_levels}
use Rattle.completion_theory.specs.Answers.{answer, answer_by_levels}
use Rattle.completion_theory.specs.Meaning.{ByFormulas, SaysFormulas, NotAbove, ByLevels, SaysLevels}
use Rattle.completion_theory.proofs.Formulas.{by-formulas}
use Rattle.completion_theory.proofs.Tightness.{not-above-iff, tight-iff, completion-answer-set}

module _ (vs ws : List ℕ) (accepted : Accepted vs ws) where
  pub answered-finding : answer vs ws ≡ answered (formula_finding vs ws)
  unfolding answer
  answered-finding = sym (comes-next vs ws (answered (formula_finding vs ws)) accepted)

  pub says : ByFormulas vs (rules_of ws) (answer vs ws)
  says = by-formulas vs ws accepted.1 (answer vs ws) answered-finding

  -- of a tight table, for one value an atom, what holds are the answer sets
  module _ (one : Each OneValue vs) (level : ℕ → ℕ) (tight : Tight level (rules_of ws)) where
    holds-iff : (reply : Reply FormulaFinding) → ByFormulas vs (rules_of ws) reply → reply ≡ answered holds
        ↔ AnswerSet (rules_of ws) (set_of vs)
    holds-iff reply by =
        Iff.trans by.holds-exactly (Iff.trans (λ h. h.1, λ h. (one, h)) (completion-answer-set vs ws accepted.2 one level tight))

    pub holds-answer-set : answer vs ws ≡ answered holds ↔ AnswerSet (rules_of ws) (set_of vs)
    holds-answer-set = holds-iff (answer vs ws) says

    engine-iff : (reply : Reply FormulaFinding) → ByFormulas vs (rules_of ws) reply → reply ≡ answered holds
        ↔ engine.answer vs ws ≡ answered passes
    unfolding Demand2
    engine-iff reply by = Iff.trans (holds-iff reply by) (Iff.symm (demand-2 vs ws accepted).passes-exactly)

-- With levels: the reply from the count, from the rules and from what is found
module _ (vs ws levels : List ℕ) (accepted : Accepted vs ws) where
  abbrev n : ℕ
  n = length vs

  abbrev Π : List Rule
  Π = rules_of ws

  abbrev rules : Option ℕ
  rules = first (λ r. not (stands_above levels r)) 0 Π

  abbrev reply : Reply FormulaFinding
  reply = answer_by_levels vs ws levels

  lowest : (i : ℕ) → rules ≡ some i ↔ Lowest (NotAbove levels Π) (length Π) i
  lowest =
      first-lowest (λ r. not (stands_above levels r)) no_rule Π (length Π) refl (NotAbove levels Π)
      (λ i b. not-above-iff levels (get_or Π i no_rule))

  pub next : reply ≡ or_refuse (bad_levels n ws levels) 13 (answered (formula_finding vs ws))
  unfolding answer_by_levels
  next = sym (comes-next vs ws (or_refuse (bad_levels n ws levels) 13 (answered (formula_finding vs ws))) accepted)

  -- a place that refusal 13 names: that of the count, or a rule's
  pub place-below : (k : ℕ) → bad_levels n ws levels ≡ some k → k < 65536
  unfolding bad_levels
  place-below k e = go (eqb (length levels) (2 * n)) refl
    where
      go : (b : Bool) → eqb (length levels) (2 * n) ≡ b → k < 65536
      go true t = omega (arith, ((lowest k).0 (rw t at e)).0, accepted-count (length vs) ws accepted.2)
      go false f = let w = rw f at e in let same : k ≡ 65535 = cc in omega arith

  -- the count is wrong, or the rules decide
  counted : {b : Bool} → eqb (length levels) (2 * n) ≡ b
      → reply ≡ or_refuse (or_else (cond b none (some 65535)) some rules) 13 (answered (formula_finding vs ws))
  unfolding bad_levels
  counted e = rw e at next

  right : length levels ≡ 2 * n → reply ≡ or_refuse rules 13 (answered (formula_finding vs ws))
  right e = counted (eq-eqb (length levels) (2 * n) e)

  found : length levels ≡ 2 * n → Tight (level_of levels) Π → reply ≡ answered (formula_finding vs ws)
  found e tight = rw ((tight-iff levels Π).1 tight) at (right e)

  by-rule : (i : ℕ) (o : Option ℕ) → or_refuse o 13 (answered (formula_finding vs ws)) ≡ refused 13 i ↔ o ≡ some i
  by-rule i (some k) = (λ e. cc, λ e. cc)
  by-rule i none = (λ e. cc, λ e. cc)

  -- a rule's place is no place of the count
  places : (i : ℕ) → Lowest (NotAbove levels Π) (length Π) i → i < 4096
  places i low = omega (arith, low.0, accepted-count (length vs) ws accepted.2)

  count-refused : reply ≡ refused 13 65535 ↔ (length levels ≡ 2 * n → ⊥)
  count-refused = go (eqb (length levels) (2 * n)) refl
    where
      go : (b : Bool) → eqb (length levels) (2 * n) ≡ b → reply ≡ refused 13 65535 ↔ (length levels ≡ 2 * n → ⊥)
      go true t = (
        λ e q. let low = (lowest 65535).0 ((by-rule 65535 rules).0 (sym (right q) ∙ e)) in absurd (omega (arith, places 65535 low)),
        λ h. absurd (h (eqb-true _ _ t)),
      )
      go false f = (λ e q. eqb-false _ _ f q, λ h. counted f)

  rule-refused : (i : ℕ) → i < length Π → reply ≡ refused 13 i ↔ ((length levels ≡ 2 * n) × Lowest (NotAbove levels Π) (length Π) i)
  rule-refused i b = go (eqb (length levels) (2 * n)) refl
    where
      go : (b : Bool) → eqb (length levels) (2 * n) ≡ b → reply ≡ refused 13 i
          ↔ ((length levels ≡ 2 * n) × Lowest (NotAbove levels Π) (length Π) i)
      go true t = let q = eqb-true (length levels) (2 * n) t in (
        λ e. (q, (lowest i).0 ((by-rule i rules).0 (sym (right q) ∙ e))),
        λ h. right q ∙ (by-rule i rules).1 ((lowest i).1 h.1),
      )
      go false f = (
        λ e. let w = counted f in let same : i ≡ 65535 = cc in absurd (omega (arith, accepted-count (length vs) ws accepted.2)),
        λ h. absurd (eqb-false _ _ f h.0),
      )

  formulas : length levels ≡ 2 * n → Tight (level_of levels) Π → ByFormulas vs Π reply
  formulas e tight = by-formulas vs ws accepted.1 reply (found e tight)

  by-levels : ByLevels vs ws levels reply
  by-levels = record {
    count-exactly = count-refused;
    rule-exactly = rule-refused;
    formulas = formulas;
    holds-engine = λ e tight one. engine-iff vs ws accepted one (level_of levels) tight reply (formulas e tight);
  }

-- the answer, and whatever equals it
pub keeps-formulas : (vs ws : List ℕ) {r : Reply FormulaFinding} → r ≡ answer vs ws → (r ≡ answer vs ws) × SaysFormulas vs ws r
unfolding SaysFormulas
keeps-formulas vs ws e = (e, rw e (λ accepted. says vs ws accepted))

pub keeps-levels : (vs ws levels : List ℕ) {r : Reply FormulaFinding} → r ≡ answer_by_levels vs ws levels
    → (r ≡ answer_by_levels vs ws levels) × SaysLevels vs ws levels r
unfolding SaysLevels
keeps-levels vs ws levels e = (e, rw e (λ accepted. by-levels vs ws levels accepted))
