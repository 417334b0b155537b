-- Worked examples at the engine's limits: the last that is accepted and the first that is not, by the definitions and by the
-- engine's answer.
-- Assumes nothing.
use Rattle.std.specs.Prelude.{◌≡◌, List, [], ◌∷◌, ℕ, replicate}
use Rattle.basics.specs.Search.{Each}
use Rattle.basics.specs.Replies.{refused, answered}
use Rattle.logic_programs.specs.Rules.{lit, Rule}
use Rattle.logic_programs.specs.Words.{words}
use Rattle.answer_set_theory.specs.Verdicts.{clash, passes}
use Rattle.answer_set_theory.specs.Answers.{answer}
use Rattle.answer_set_theory.specs.Limits.{AcceptedValues, AcceptedTable}

-- tables over one atom p of value 0; the codes are 0 for p and 1 for ¬p
abbrev pub accepted_tables : List (List ℕ)
accepted_tables =
    -- ⊥ ← p
    (65535 ∷ 0 ∷ 1 ∷ 0 ∷ [])
    -- ¬p ← ¬p
    ∷ (1 ∷ 0 ∷ 1 ∷ 1 ∷ [])
    -- p ← p, not ¬p
    ∷ (0 ∷ 1 ∷ 1 ∷ 1 ∷ 0 ∷ [])
    ∷ []

abbrev pub IsAccepted : List ℕ → Type 0
IsAccepted table = AcceptedTable 1 table × (answer (0 ∷ []) table ≡ answered passes)

-- where refusal 12 finds the first bad rule
pub record BadTable : Type 0 where
  pub table : List ℕ
  pub place : ℕ

abbrev pub bad_tables : List BadTable
bad_tables =
    -- ⊥ as a plain and as a negated part
    record { table = 0 ∷ 0 ∷ 1 ∷ 65535 ∷ []; place = 0 }
    ∷ record { table = 0 ∷ 1 ∷ 0 ∷ 65535 ∷ []; place = 0 }
    -- 2 as a head, a plain and a negated part
    ∷ record { table = 2 ∷ 0 ∷ 1 ∷ 1 ∷ []; place = 0 }
    ∷ record { table = 1 ∷ 0 ∷ 1 ∷ 2 ∷ []; place = 0 }
    ∷ record { table = 1 ∷ 1 ∷ 0 ∷ 2 ∷ []; place = 0 }
    -- one word short: the last part, and behind a whole rule the last count
    ∷ record { table = 0 ∷ 1 ∷ 1 ∷ 1 ∷ []; place = 0 }
    ∷ record { table = 0 ∷ 0 ∷ 1 ∷ 0 ∷ 0 ∷ 0 ∷ []; place = 4 }
    ∷ []

abbrev pub IsBad : BadTable → Type 0
IsBad e = (AcceptedTable 1 e.table → ⊥) × (answer (0 ∷ []) e.table ≡ refused 12 e.place)

-- the rule p ←, of three words, so many times
abbrev pub fact : Rule
fact = record { head = lit 0; negated = []; plain = [] }

abbrev pub facts : ℕ → List ℕ
facts k = words (replicate k fact)

pub record LimitsHold : Type 0 where
  -- no atoms and no rules
  pub nothing : AcceptedValues [] × AcceptedTable 0 [] × (answer [] [] ≡ answered passes)
  pub accepted : Each IsAccepted accepted_tables
  pub bad : Each IsBad bad_tables
  pub rules-4096 : AcceptedTable 1 (facts 4096) × (answer (1 ∷ []) (facts 4096) ≡ answered passes)
  pub rules-4097 : (AcceptedTable 1 (facts 4097) → ⊥) × (answer (1 ∷ []) (facts 4097) ≡ refused 12 12288)
  pub values-1024 : AcceptedValues (replicate 1024 0) × (answer (replicate 1024 0) [] ≡ answered passes)
  pub values-1025 : (AcceptedValues (replicate 1025 0) → ⊥) × (answer (replicate 1025 0) [] ≡ refused 10 1025)
  pub value-3 : AcceptedValues (3 ∷ []) × (answer (3 ∷ []) [] ≡ answered (clash 0))
  pub value-4 : (AcceptedValues (4 ∷ []) → ⊥) × (answer (4 ∷ []) [] ≡ refused 11 0)
