-- What the numbers that huntyghai_check_completion and huntyghai_check_by_levels answer say: 72 holds, 73 fails, 68 missing, 65 clash,
-- 13 a refusal by the levels. Missing and clash are huntyghai_check_history's too.
-- Assumes nothing.
use Rattle.std.specs.Prelude.{◌≡◌, ◌↔◌, List, ℕ, ◌*◌, ◌<◌, length}
use Rattle.basics.specs.Search.{Each, Lowest}
use Rattle.logic_programs.specs.Literals.{set_of, OneValue}
use Rattle.logic_programs.specs.Rules.{lit, falsum, Rule}
use Rattle.logic_programs.specs.Words.{rules_of}
use Rattle.rule_tables.specs.Acceptance.{Accepted}
use Rattle.answer_set_theory.specs.Answers as engine
use Rattle.tight_programs.specs.TightPrograms.{Tight}
use Rattle.tight_programs.specs.LiteralCompletion.{Formula, Completion}
use Rattle.completion_theory.specs.LevelLists.{level_of}
use Rattle.logic_programs.specs.Literals.{NoValue, BothValues, NoneOrBoth}
use Rattle.completion_theory.specs.Meaning.{NotAbove}
use Rattle.answer_codes.specs.Codes.{coded, reply_code, verdict_code}

-- the number for values, whatever the program: missing or clash exactly at the lowest atom that has no value or both
pub record NumberedByValues (vs : List ℕ) (number : ℕ) : Type 0 where
  pub missing-exactly : (a : ℕ) → a < length vs → number ≡ coded 68 a
      ↔ (Lowest (NoneOrBoth vs) (length vs) a × NoValue vs a)
  pub clash-exactly : (a : ℕ) → a < length vs → number ≡ coded 65 a
      ↔ (Lowest (NoneOrBoth vs) (length vs) a × BothValues vs a)

-- the number for values and a program
pub record NumberedByFormulas (vs : List ℕ) (Π : List Rule) (number : ℕ) : Type 0 where
  pub by_values : NumberedByValues vs number
  pub fails-exactly : (c : ℕ) → c < 2 * length vs → number ≡ coded 73 c
      ↔ (Each OneValue vs × Lowest (λ d. Formula Π (set_of vs) (lit d) → ⊥) (2 * length vs) c)
  pub false-exactly : number ≡ coded 73 65535
      ↔ (Each OneValue vs × ((c : ℕ) → c < 2 * length vs → Formula Π (set_of vs) (lit c)) × (Formula Π (set_of vs) falsum → ⊥))
  pub holds-exactly : number ≡ coded 72 0 ↔ (Each OneValue vs × Completion (length vs) Π (set_of vs))

unfoldable pub CompletionNumbered : List ℕ → List ℕ → ℕ → Type 0
CompletionNumbered vs ws number = Accepted vs ws → NumberedByFormulas vs (rules_of ws) number

-- with levels: for one value an atom 72 exactly if huntyghai_check_set answers 64
pub record NumberedByLevels (vs ws levels : List ℕ) (number : ℕ) : Type 0 where
  pub count-exactly : number ≡ coded 13 65535 ↔ (length levels ≡ 2 * length vs → ⊥)
  pub rule-exactly : (i : ℕ) → i < length (rules_of ws) → number ≡ coded 13 i
      ↔ ((length levels ≡ 2 * length vs) × Lowest (NotAbove levels (rules_of ws)) (length (rules_of ws)) i)
  pub formulas : length levels ≡ 2 * length vs → Tight (level_of levels) (rules_of ws) → NumberedByFormulas vs (rules_of ws) number
  pub holds-engine : length levels ≡ 2 * length vs → Tight (level_of levels) (rules_of ws) → Each OneValue vs
      → number ≡ coded 72 0 ↔ reply_code verdict_code (engine.answer vs ws) ≡ coded 64 0

unfoldable pub LevelsNumbered : List ℕ → List ℕ → List ℕ → ℕ → Type 0
LevelsNumbered vs ws levels number = Accepted vs ws → NumberedByLevels vs ws levels number
