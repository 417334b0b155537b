-- What the replies say, by the formulas of literal completion, by tight programs and by the engine.
-- Assumes nothing.
use Rattle.std.specs.Prelude.{◌≡◌, ◌↔◌, List, ℕ, ◌*◌, ◌<◌, length, get_or}
use Rattle.basics.specs.Search.{Each, Lowest}
use Rattle.basics.specs.Replies.{Reply, refused, answered}
use Rattle.logic_programs.specs.Literals.{set_of, OneValue, NoValue, BothValues, NoneOrBoth}
use Rattle.logic_programs.specs.Rules.{lit, falsum, Rule}
use Rattle.logic_programs.specs.Words.{rules_of}
use Rattle.answer_set_theory.specs.Verdicts.{passes}
use Rattle.answer_set_theory.specs.Answers as engine
use Rattle.rule_tables.specs.Acceptance.{Accepted}
use Rattle.answer_set_theory.specs.Demand2.{no_rule}
use Rattle.tight_programs.specs.TightPrograms.{LowerParts, Tight}
use Rattle.tight_programs.specs.LiteralCompletion.{Formula, Completion}
use Rattle.completion_theory.specs.Findings.{FormulaFinding, missing, clash, fails, holds}
use Rattle.completion_theory.specs.LevelLists.{level_of}

-- the reply to values and a program: missing or clash at the lowest atom that has no value or both; then, each atom having one
-- value, the lowest literal whose formula fails; false where only its formula does; and holds exactly if all formulas do
pub record ByFormulas (vs : List ℕ) (Π : List Rule) (reply : Reply FormulaFinding) : Type 0 where
  pub missing-exactly : (a : ℕ) → reply ≡ answered (missing a) ↔ (Lowest (NoneOrBoth vs) (length vs) a × NoValue vs a)
  pub clash-exactly : (a : ℕ) → reply ≡ answered (clash a) ↔ (Lowest (NoneOrBoth vs) (length vs) a × BothValues vs a)
  pub fails-exactly : (c : ℕ) → reply ≡ answered (fails (lit c))
      ↔ (Each OneValue vs × Lowest (λ d. Formula Π (set_of vs) (lit d) → ⊥) (2 * length vs) c)
  pub false-exactly : reply ≡ answered (fails falsum)
      ↔ (Each OneValue vs × ((c : ℕ) → c < 2 * length vs → Formula Π (set_of vs) (lit c)) × (Formula Π (set_of vs) falsum → ⊥))
  pub holds-exactly : reply ≡ answered holds ↔ (Each OneValue vs × Completion (length vs) Π (set_of vs))

-- where neither 10 nor 11 nor 12 refuses
unfoldable pub SaysFormulas : List ℕ → List ℕ → Reply FormulaFinding → Type 0
SaysFormulas vs ws reply = Accepted vs ws → ByFormulas vs (rules_of ws) reply

-- rule i's head is a literal whose level is not above that of each of its plain parts
abbrev pub NotAbove : List ℕ → List Rule → ℕ → Type 0
NotAbove levels Π i = LowerParts (level_of levels) (get_or Π i no_rule).plain (get_or Π i no_rule).head → ⊥

-- with levels: refusal 13 by their count, else by the lowest such rule; else the levels show that the program is tight, the reply
-- is as without levels, and for one value an atom it is holds exactly if the engine passes (000, Proposition 3)
pub record ByLevels (vs ws levels : List ℕ) (reply : Reply FormulaFinding) : Type 0 where
  pub count-exactly : reply ≡ refused 13 65535 ↔ (length levels ≡ 2 * length vs → ⊥)
  pub rule-exactly : (i : ℕ) → i < length (rules_of ws) → reply ≡ refused 13 i
      ↔ ((length levels ≡ 2 * length vs) × Lowest (NotAbove levels (rules_of ws)) (length (rules_of ws)) i)
  pub formulas : length levels ≡ 2 * length vs → Tight (level_of levels) (rules_of ws) → ByFormulas vs (rules_of ws) reply
  pub holds-engine : length levels ≡ 2 * length vs → Tight (level_of levels) (rules_of ws) → Each OneValue vs
      → reply ≡ answered holds ↔ engine.answer vs ws ≡ answered passes

unfoldable pub SaysLevels : List ℕ → List ℕ → List ℕ → Reply FormulaFinding → Type 0
SaysLevels vs ws levels reply = Accepted vs ws → ByLevels vs ws levels reply
