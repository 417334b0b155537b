-- The published translation (000, section 4) as a list of rules, in 01's order, over n fluents, m actions and horizon T. What each
-- rule is stands in RuleForms of rule_words.
-- Assumes nothing.
use Rattle.std.specs.Prelude.{List, [], ◌∷◌, ◌++◌, map, ℕ, zero, suc, ◌+◌}
use Rattle.basics.specs.Search.{range}
use Rattle.logic_programs.specs.Rules.{Rule}
use Rattle.action_language.specs.declared.Kind.{Kind}
use Rattle.action_language.specs.declared.Kind.TheVariants.{Static, Dynamic}
use Rattle.action_language.specs.declared.Law.{Law}
use Rattle.action_language.specs.Atoms.{fluent_atom, action_atom}
use Rattle.translation_rules.specs.RuleForms.{static_rule, dynamic_rule, choices}

-- for t = 0 to T
abbrev pub static_rules : ℕ → ℕ → Kind → Law → List Rule
static_rules N T Static l = map (static_rule N l) (range 0 (suc T))
static_rules N T Dynamic l = []

-- for t = 0 to T - 1
abbrev pub dynamic_rules : ℕ → ℕ → Kind → Law → List Rule
dynamic_rules N T Static l = []
dynamic_rules N T Dynamic l = map (dynamic_rule N l) (range 0 T)

-- the rules of each law in turn
abbrev pub per_law : (Kind → Law → List Rule) → List Law → List Rule
per_law f [] = []
per_law f (l ∷ ls) = f l.kind l ++ per_law f ls

-- the atoms of actions at k times from t on
abbrev pub action_atoms : ℕ → ℕ → ℕ → ℕ → List ℕ
action_atoms n m t zero = []
action_atoms n m t (suc k) = range (action_atom n m t 0) m ++ action_atoms n m (suc t) k

-- fluents at time 0 and actions, lowest first
abbrev pub choice_atoms : ℕ → ℕ → ℕ → List ℕ
choice_atoms n m T = range (fluent_atom n m 0 0) n ++ action_atoms n m 0 T

-- all rules over n fluents, m actions and horizon T: those of static laws, those of dynamic laws, the choices
unfoldable pub translation : ℕ → ℕ → ℕ → List Law → List Rule
translation n m T ls =
    per_law (static_rules (n + m) T) ls ++ per_law (dynamic_rules (n + m) T) ls ++ choices (choice_atoms n m T)
