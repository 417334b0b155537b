-- The engine's limits (01, "Answer sets" and "Where a call can be turned down"): which values are accepted, and which tables.
-- Written apart from the tests that refuse by 10, 11 and 12; a theorem joins the two.
-- Assumes nothing.
use Rattle.std.specs.Prelude.{◌≡◌, ◌↔◌, List, ℕ, ◌*◌, ◌≤◌, ◌<◌, length}
use Rattle.basics.specs.Search.{Each}
use Rattle.logic_programs.specs.Rules.{Head, lit, falsum, Rule}
use Rattle.logic_programs.specs.Words.{words, rules_of}
use Rattle.rule_tables.specs.Acceptance.{Accepted}

-- c is the code of a literal over n atoms
abbrev pub LiteralOver : ℕ → ℕ → Type 0
LiteralOver n c = c < 2 * n

-- a head is such a literal or ⊥
abbrev pub HeadOver : ℕ → Head → Type 0
HeadOver n (lit c) = LiteralOver n c
HeadOver n falsum = Unit

-- a part is a literal, and so never ⊥
pub record RuleOver (n : ℕ) (r : Rule) : Type 0 where
  pub head : HeadOver n r.head
  pub negated : Each (LiteralOver n) r.negated
  pub plain : Each (LiteralOver n) r.plain

-- one value an atom
pub record AcceptedValues (vs : List ℕ) : Type 0 where
  pub few : length vs ≤ 1024
  pub small : Each (λ v. v ≤ 3) vs

-- the words of some rules over n atoms
pub record AcceptedTable (n : ℕ) (ws : List ℕ) : Type 0 where
  pub rules : List Rule
  pub as-words : words rules ≡ ws
  pub few : length rules ≤ 4096
  pub over : Each (RuleOver n) rules

-- the engine accepts these values and tables and no others, and the rules that it judges are the table's
pub record WithinLimits (vs ws : List ℕ) : Type 0 where
  pub accepted-exactly : Accepted vs ws ↔ (AcceptedValues vs × AcceptedTable (length vs) ws)
  pub judged : AcceptedValues vs → (table : AcceptedTable (length vs) ws) → rules_of ws ≡ table.rules
