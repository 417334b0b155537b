-- Worked examples of acceptance and of atom numbers, on 01's full recipe.
-- Assumes nothing.
use Rattle.std.specs.Prelude.{◌≡◌, [], ◌∷◌}
use Rattle.std.proofs.Math.Option.{none, some}
use Rattle.action_language.specs.declared.Head.TheVariants.{Lit, False}
use Rattle.action_language.specs.declared.Kind.TheVariants.{Static, Dynamic}
use Rattle.action_language.specs.Laws.{law_of, with_horizon}
use Rattle.action_language.specs.Atoms.{fluent_atom, action_atom, atom_count, wrong_length}
use Rattle.action_language.specs.Acceptance.{bad_record, bad_horizon}
use Rattle.action_language.specs.Examples.{recipe, recipe_laws, door}

-- which descriptions are refused: one law lent too few; a ninth action; a law with an action in its if-list; horizons. A
-- description for another horizon
pub record AcceptanceExamples : Type 0 where
  pub recipe-accepted : bad_record recipe recipe_laws 6 ≡ none
  pub five-lent : bad_record recipe recipe_laws 5 ≡ some 64
  pub eight-actions : bad_record (record { fluents = 2; actions = 8; laws = 0; horizon = 1 }) [] 0 ≡ none
  pub nine-actions : bad_record (record { fluents = 2; actions = 9; laws = 0; horizon = 1 }) [] 0 ≡ some 64
  pub action-in-an-if-list : bad_record recipe (law_of Static (Lit 3) (3 ∷ []) [] ∷ law_of Dynamic False (4 ∷ []) [] ∷ []) 6 ≡ some 1
  pub action-in-an-after-list : bad_record recipe (law_of Dynamic False [] (5 ∷ []) ∷ []) 6 ≡ none
  pub head-past-the-fluents : bad_record recipe (law_of Static (Lit 4) [] [] ∷ []) 6 ≡ some 0
  pub horizon-0 : bad_horizon 0 ≡ some 0
  pub horizon-1 : bad_horizon 1 ≡ none
  pub horizon-30 : bad_horizon 30 ≡ none
  pub horizon-31 : bad_horizon 31 ≡ some 0
  pub three-steps : with_horizon (door 1) 3 ≡ door 3

-- 2 fluents and 1 action: locked, flowed, reflow, then time 1; the most atoms
pub record AtomExamples : Type 0 where
  pub flowed-at-0 : fluent_atom 2 1 0 1 ≡ 1
  pub reflow-at-0 : action_atom 2 1 0 0 ≡ 2
  pub locked-at-1 : fluent_atom 2 1 1 0 ≡ 3
  pub recipe-atoms : atom_count 2 1 1 ≡ 5
  pub most-atoms : atom_count 24 8 30 ≡ 984
  pub five-values : wrong_length 5 5 ≡ none
  pub four-values : wrong_length 5 4 ≡ some 4

pub record RecordsHold : Type 0 where
  pub acceptance : AcceptanceExamples
  pub atoms : AtomExamples
