-- Internal: what the crate's own functions promise each other. No public promise rests on it; a reader may pass it over.
-- Assumes nothing.
use Rattle.std.specs.Prelude.{List, map, ℕ}
use Rattle.basics.specs.Search.{range}
use Rattle.logic_programs.specs.Rules.{Rule}
use Rattle.action_language.specs.declared.Kind.{Kind}
use Rattle.action_language.specs.declared.Law.{Law}
use Rattle.rule_words.specs.Internal.{by_kind, rule_for}

-- a law's rules, of which a static law has as many as one number says, and a dynamic law as the other
abbrev pub law_rules : ℕ → ℕ → ℕ → Kind → Law → List Rule
law_rules N static dynamic k l = map (rule_for N k l) (range 0 (by_kind static dynamic k))
