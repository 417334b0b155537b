-- What the translation answers and leaves in the lent table.
-- Assumes nothing.
use Rattle.std.specs.Prelude.{cond, List, ◌++◌, ℕ, ltb, length, drop}
use Rattle.std.proofs.Math.Option.{Option, none, some}
use Rattle.basics.specs.Replies.{Reply, refused, answered, or_refuse, unless_refused, left_after}
use Rattle.logic_programs.specs.Literals.{bad_value}
use Rattle.logic_programs.specs.Rules.{Rule}
use Rattle.logic_programs.specs.Words.{words}
use Rattle.action_language.specs.declared.Law.{Law}
use Rattle.action_language.specs.declared.Description.{Description}
use Rattle.action_language.specs.Laws.{laws_of}
use Rattle.action_language.specs.Atoms.{atom_count, wrong_length}
use Rattle.action_language.specs.Acceptance.{bad_record, bad_horizon}
use Rattle.translation_rules.specs.Rules.{translation}

-- how many atoms, rules and words were written
pub data Written : Type 0 where
  written : ℕ → ℕ → ℕ → Written

-- the rules of a description
abbrev pub rules_for : Description → List Law → List Rule
rules_for d ls = translation d.fluents d.actions d.horizon (laws_of d ls)

abbrev pub table_for : Description → List Law → List ℕ
table_for d ls = words (rules_for d ls)

-- refusal 9: fewer words lent than needed, place the words needed
abbrev pub too_short : ℕ → ℕ → Option ℕ
too_short needed room = cond (ltb room needed) (some needed) none

-- the answer for laws of which some number is lent, and a table of some room
unfoldable pub outcome : Description → List Law → ℕ → ℕ → Reply Written
outcome d ls lent room =
    or_refuse (bad_record d ls lent) 8
    (or_refuse (bad_horizon d.horizon) 3
    (or_refuse (too_short (length (table_for d ls)) room) 9
    (answered (written (atom_count d.fluents d.actions d.horizon) (length (rules_for d ls)) (length (table_for d ls))))))

-- a table with these words in front, and what stood there before behind them
abbrev pub overwritten : List ℕ → List ℕ → List ℕ
overwritten ws table = ws ++ drop (length ws) table

-- what the table holds afterwards
unfoldable pub table_after : Description → List Law → ℕ → List ℕ → List ℕ
table_after d ls lent table = left_after (outcome d ls lent (length table)) (λ counts. overwritten (table_for d ls) table) table

-- for a history: 10 and 11 on its values behind the translation's own refusals, then what comes next
abbrev pub after_translation : {A : Type 0} → Reply Written → List ℕ → Reply A → Reply A
after_translation (refused number place) vs next = refused number place
after_translation (answered (written atoms rules words)) vs next =
    or_refuse (wrong_length atoms (length vs)) 10
    (or_refuse (bad_value vs) 11
    next)

-- the answer for a history's values where a caller's own tests come behind 11; with none of its own, they are answered
unfoldable pub outcome_for : Description → List Law → ℕ → List ℕ → Reply Unit → ℕ → Reply Written
outcome_for d ls lent vs later room =
    after_translation (outcome d ls lent room) vs (unless_refused later (outcome d ls lent room))

-- what the table holds afterwards: nothing is written before every test is passed
unfoldable pub table_after_for : Description → List Law → ℕ → List ℕ → Reply Unit → List ℕ → List ℕ
table_after_for d ls lent vs later table =
    left_after (outcome_for d ls lent vs later (length table)) (λ counts. overwritten (table_for d ls) table) table
