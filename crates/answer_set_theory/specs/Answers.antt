-- What the engine answers to values and a table: the first refusal that holds, or the verdict.
-- Assumes nothing.
use Rattle.std.specs.Prelude.{List, ℕ, length}
use Rattle.basics.specs.Replies.{Reply, answered}
use Rattle.logic_programs.specs.Literals.{set_of}
use Rattle.logic_programs.specs.Words.{rules_of}
use Rattle.rule_tables.specs.Acceptance.{after_tests}
use Rattle.answer_set_theory.specs.Verdicts.{Verdict, verdict}

unfoldable pub answer : List ℕ → List ℕ → Reply Verdict
answer vs ws = after_tests vs ws (answered (verdict (length vs) (rules_of ws) (set_of vs)))
