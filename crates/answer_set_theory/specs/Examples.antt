-- Worked examples of the engine: 01's M6 to M10, and one or two of each other answer; and of its rounds.
-- Assumes nothing.
use Rattle.std.specs.Prelude.{◌≡◌, Bool, true, false, List, [], ◌∷◌, ℕ}
use Rattle.basics.specs.Replies.{Reply, refused, answered}
use Rattle.logic_programs.specs.Words.{rules_of}
use Rattle.answer_set_theory.specs.Verdicts.{Verdict, clash, broken, unfounded, passes, rounds}
use Rattle.answer_set_theory.specs.Answers.{answer}

-- values and a table, and what the engine answers
pub record Example : Type 0 where
  pub values : List ℕ
  pub table : List ℕ
  pub reply : Reply Verdict

abbrev pub Holds : Example → Type 0
Holds e = answer e.values e.table ≡ e.reply

abbrev pub examples : List Example
examples =
    -- M6: no rules, value 0
    record { values = 0 ∷ []; table = []; reply = answered passes }
    -- M7: rule 0,0,1,0, value 1
    ∷ record { values = 1 ∷ []; table = 0 ∷ 0 ∷ 1 ∷ 0 ∷ []; reply = answered (unfounded 0) }
    -- M8: the same rule, value 0
    ∷ record { values = 0 ∷ []; table = 0 ∷ 0 ∷ 1 ∷ 0 ∷ []; reply = answered passes }
    -- M9: rule 0,1,0,0, value 0
    ∷ record { values = 0 ∷ []; table = 0 ∷ 1 ∷ 0 ∷ 0 ∷ []; reply = answered (broken 0) }
    -- M10: the same rule, value 1
    ∷ record { values = 1 ∷ []; table = 0 ∷ 1 ∷ 0 ∷ 0 ∷ []; reply = answered (unfounded 0) }
    -- both values
    ∷ record { values = 1 ∷ 3 ∷ 3 ∷ []; table = []; reply = answered (clash 1) }
    -- a constraint whose plain part is in the set
    ∷ record { values = 1 ∷ []; table = 0 ∷ 0 ∷ 0 ∷ 65535 ∷ 0 ∷ 1 ∷ 0 ∷ []; reply = answered (broken 1) }
    -- refusals: a byte over 3; a code of 2 × atoms; a rule that runs past the end
    ∷ record { values = 1 ∷ 4 ∷ 5 ∷ []; table = 9 ∷ []; reply = refused 11 1 }
    ∷ record { values = 0 ∷ []; table = 0 ∷ 0 ∷ 0 ∷ 1 ∷ 0 ∷ 1 ∷ 2 ∷ []; reply = refused 12 3 }
    ∷ record { values = 0 ∷ []; table = 0 ∷ 0 ∷ 0 ∷ 1 ∷ 0 ∷ 1 ∷ []; reply = refused 12 3 }
    ∷ []

-- whether a literal is in round k of the rules of a table, none of whose parts is negated
pub record RoundExample : Type 0 where
  pub table : List ℕ
  pub round : ℕ
  pub code : ℕ
  pub reply : Bool

abbrev pub RoundHolds : RoundExample → Type 0
RoundHolds e = rounds e.round (rules_of e.table) (λ c. false) e.code ≡ e.reply

-- p; q if p; r if q: each round reads the one before it and not what it adds itself, so each adds one literal
abbrev pub chain : List ℕ
chain = 0 ∷ 0 ∷ 0 ∷ 2 ∷ 0 ∷ 1 ∷ 0 ∷ 4 ∷ 0 ∷ 1 ∷ 2 ∷ []

abbrev pub round_examples : List RoundExample
round_examples =
    record { table = chain; round = 0; code = 0; reply = false }
    ∷ record { table = chain; round = 1; code = 0; reply = true }
    ∷ record { table = chain; round = 1; code = 2; reply = false }
    ∷ record { table = chain; round = 2; code = 2; reply = true }
    ∷ record { table = chain; round = 2; code = 4; reply = false }
    ∷ record { table = chain; round = 3; code = 0; reply = true }
    ∷ record { table = chain; round = 3; code = 4; reply = true }
    ∷ []
