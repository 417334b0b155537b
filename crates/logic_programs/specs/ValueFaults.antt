-- The lowest atom without one value, and which fault it is.
-- Assumes nothing.
use Rattle.std.specs.Prelude.{cond, List, ℕ, eqb, get_or}
use Rattle.basics.specs.Search.{first}
use Rattle.basics.specs.Replies.{or_else}
use Rattle.logic_programs.specs.Literals.{none_or_both}

-- an atom that has no value is missing, one that has both is a clash; or each atom has one value
pub data ValueFault : Type 0 where
  missing : ℕ → ValueFault
  clash : ℕ → ValueFault
  neither : ValueFault

-- the lowest atom of value 0 or 3 decides
abbrev pub value_fault : List ℕ → ValueFault
value_fault vs = or_else (first none_or_both 0 vs) (λ atom. cond (eqb (get_or vs atom 0) 0) (missing atom) (clash atom)) neither

-- what is said of a missing atom or of a clash, else what comes next
abbrev pub or_fault : {A : Type 0} → ValueFault → (ℕ → A) → (ℕ → A) → A → A
or_fault (missing atom) of_missing of_clash next = of_missing atom
or_fault (clash atom) of_missing of_clash next = of_clash atom
or_fault neither of_missing of_clash next = next
