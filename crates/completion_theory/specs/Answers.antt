-- What is answered to values and a table, and to levels besides: the first refusal that holds, or what is found.
-- Assumes nothing.
use Rattle.std.specs.Prelude.{List, ℕ, length}
use Rattle.basics.specs.Replies.{Reply, answered, or_refuse}
use Rattle.rule_tables.specs.Acceptance.{after_tests}
use Rattle.completion_theory.specs.Findings.{FormulaFinding, formula_finding}
use Rattle.completion_theory.specs.LevelLists.{bad_levels}

unfoldable pub answer : List ℕ → List ℕ → Reply FormulaFinding
answer vs ws = after_tests vs ws (answered (formula_finding vs ws))

-- with levels: refusal 13 after 12
unfoldable pub answer_by_levels : List ℕ → List ℕ → List ℕ → Reply FormulaFinding
answer_by_levels vs ws levels = after_tests vs ws (or_refuse (bad_levels (length vs) ws levels) 13 (answered (formula_finding vs ws)))
