-- `completion::heads::first_failing` meets its contract.
-- Assumes nothing.
use mathlib.Core.Path.{◌≡◌}
use Prim.Native.Nat.{◌-◌, ◌*◌}
use lib.ListN.{length}
use Rattle.basics.specs.Search.{first, range}
use Rattle.logic_programs.specs.Literals.{set_of}
use Rattle.completion_theory.specs.Findings.{differ}
use Rattle.completion.specs.Internal.{marked_head}
use Rattle.completion.proofs.heads.first_failing.Given as goal

abbrev pub invariant-loop-code : goal.invariant-loop-code
invariant-loop-code l =
    first (λ c. differ (set_of l.values c) (marked_head l.held c)) l.code (range l.code (2 * length l.values - l.code))
    ≡ first (λ c. differ (set_of l.values c) (marked_head l.held c)) 0 (range 0 (2 * length l.values))
