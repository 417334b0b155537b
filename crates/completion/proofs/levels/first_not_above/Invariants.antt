-- `completion::levels::first_not_above` meets its contract.
-- Assumes nothing.
use mathlib.Core.Path.{◌≡◌}
use mathlib.Core.Bool.{not}
use Prim.Native.Nat.{◌≤◌, ◌+◌}
use lib.ListN.{length}
use Rattle.basics.specs.Search.{first}
use Rattle.logic_programs.specs.Words.{rules_of}
use Rattle.rule_tables.specs.Internal.{Sound}
use Rattle.completion_theory.specs.LevelLists.{stands_above}
use Rattle.completion.proofs.levels.first_not_above.Given as goal

abbrev pub invariant-loop-rest : goal.invariant-loop-rest
invariant-loop-rest l =
    (length l.rest ≤ length l.table) × Sound l.rest
    × (first (λ r. not (stands_above l.levels r)) l.before (rules_of l.rest)
    ≡ first (λ r. not (stands_above l.levels r)) 0 (rules_of l.table))
    × (l.before + length l.rest ≤ length l.table)

abbrev pub decreases-loop-rest : goal.decreases-loop-rest
decreases-loop-rest l = length l.rest
