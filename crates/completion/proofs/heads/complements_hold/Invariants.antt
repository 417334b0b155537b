-- `completion::heads::complements_hold` meets its contract.
-- Assumes nothing.
use mathlib.Core.Path.{◌≡◌}
use lib.ListN.{drop}
use Rattle.basics.specs.Search.{all}
use Rattle.logic_programs.specs.Literals.{set_of, complement}
use Rattle.completion.proofs.heads.complements_hold.Given as goal

abbrev pub invariant-loop-part : goal.invariant-loop-part
invariant-loop-part l =
    all (λ c. set_of l.values (complement c)) (drop l.part-index l.parts) ≡ all (λ c. set_of l.values (complement c)) l.parts
