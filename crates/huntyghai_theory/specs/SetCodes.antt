-- Demand 2 on the numbers that huntyghai_check_set answers: 64 passes, 65 clash, 66 broken, 67 unfounded.
-- Assumes nothing.
use Rattle.std.specs.Prelude.{◌≡◌, ◌↔◌, List, ℕ, ◌*◌, ◌<◌, length}
use Rattle.basics.specs.Search.{Lowest, Nowhere}
use Rattle.logic_programs.specs.Literals.{Lits, set_of}
use Rattle.logic_programs.specs.Rules.{Rule}
use Rattle.logic_programs.specs.AnswerSets.{AnswerSet}
use Rattle.logic_programs.specs.Words.{rules_of}
use Rattle.rule_tables.specs.Acceptance.{Accepted}
use Rattle.answer_set_theory.specs.Demand2.{Clashing, BrokenAt, Unfounded}
use Rattle.answer_codes.specs.Codes.{coded}

-- the number for the program Π and the set X over n atoms
pub record Numbered (n : ℕ) (Π : List Rule) (X : Lits) (number : ℕ) : Type 0 where
  pub passes-exactly : number ≡ coded 64 0 ↔ AnswerSet Π X
  pub clash-exactly : (a : ℕ) → a < n → number ≡ coded 65 a ↔ Lowest (Clashing X) n a
  pub broken-exactly : (r : ℕ) → r < length Π → number ≡ coded 66 r ↔ (Nowhere (Clashing X) n × Lowest (BrokenAt Π X) (length Π) r)
  pub unfounded-exactly : (c : ℕ) → c < 2 * n → number ≡ coded 67 c
      ↔ (Nowhere (Clashing X) n × Nowhere (BrokenAt Π X) (length Π) × Lowest (Unfounded Π X) (2 * n) c)

unfoldable pub SetNumbered : List ℕ → List ℕ → ℕ → Type 0
SetNumbered vs ws number = Accepted vs ws → Numbered (length vs) (rules_of ws) (set_of vs) number
