-- `completion::heads::held_heads` meets its contract.
-- Assumes nothing.
use mathlib.Core.Path.{◌≡◌}
use mathlib.Core.Bool.{◌||◌}
use Prim.Native.Nat.{ℕ, ◌≤◌}
use lib.ListN.{length}
use Rattle.logic_programs.specs.Literals.{set_of}
use Rattle.logic_programs.specs.Words.{rules_of}
use Rattle.rule_tables.specs.Internal.{Sound}
use Rattle.completion.specs.Internal.{marked_head, held_at}
use Rattle.completion.proofs.heads.held_heads.Given as goal

abbrev pub invariant-loop-rest : goal.invariant-loop-rest
invariant-loop-rest l =
    (length l.rest ≤ length l.table) × Sound l.rest × (length l.held ≡ 2049) ×
    ((k : ℕ) → (marked_head l.held k || held_at (rules_of l.rest) (set_of l.values) k) ≡ held_at (rules_of l.table) (set_of l.values) k)

abbrev pub decreases-loop-rest : goal.decreases-loop-rest
decreases-loop-rest l = length l.rest
