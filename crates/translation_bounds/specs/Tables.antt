-- A translated table holds exactly the published rules (demand 2): its words are decoded here, where the translation's promise
-- speaks of the words of the rules.
-- Assumes nothing.
use Rattle.std.specs.Prelude.{◌≡◌, List, ℕ, length, take, drop}
use Rattle.basics.specs.Replies.{answered}
use Rattle.logic_programs.specs.Words.{rules_of}
use Rattle.action_language.specs.declared.Law.{Law}
use Rattle.action_language.specs.declared.Description.{Description}
use Rattle.action_language.specs.Atoms.{atom_count}
use Rattle.translation_rules.specs.Translated.{written, rules_for, outcome, table_after}

-- the table afterwards, where so many atoms, rules and words are answered
pub record HoldsRules (d : Description) (ls : List Law) (atoms rules words : ℕ) (old table : List ℕ) : Type 0 where
  -- the words written decode to the rules of the description, in their order
  pub decoded : rules_of (take words table) ≡ rules_for d ls
  -- behind them stands what stood there before
  pub behind : drop words table ≡ drop words old
  pub as_long : length table ≡ length old
  pub atom-count : atoms ≡ atom_count d.fluents d.actions d.horizon
  pub rule-count : rules ≡ length (rules_for d ls)

-- for every description that is accepted and every table that is long enough
abbrev pub TablesHoldRules : Type 0
TablesHoldRules =
    (d : Description) (ls : List Law) (lent : ℕ) (old : List ℕ) (atoms rules words : ℕ)
    → outcome d ls lent (length old) ≡ answered (written atoms rules words)
    → HoldsRules d ls atoms rules words old (table_after d ls lent old)
