-- Worked examples: 02's and 000's own, and one or two of each other answer.
-- Assumes nothing.
use Rattle.std.specs.Prelude.{◌≡◌, List, [], ◌∷◌, ℕ}
use Rattle.basics.specs.Replies.{Reply, refused, answered}
use Rattle.logic_programs.specs.Rules.{lit, falsum}
use Rattle.completion_theory.specs.Findings.{FormulaFinding, missing, clash, fails, holds}
use Rattle.completion_theory.specs.Answers.{answer, answer_by_levels}

-- values and a table, and what is answered
pub record Example : Type 0 where
  pub values : List ℕ
  pub table : List ℕ
  pub reply : Reply FormulaFinding

abbrev pub Holds : Example → Type 0
Holds e = answer e.values e.table ≡ e.reply

-- program (11) of 000, section 6, over p, q and r: p ← not ¬p; ¬p ← not p; q ← not ¬q; ¬q ← not q; r ← q
abbrev pub eleven : List ℕ
eleven =
    0 ∷ 1 ∷ 0 ∷ 1
    ∷ 1 ∷ 1 ∷ 0 ∷ 0
    ∷ 2 ∷ 1 ∷ 0 ∷ 3
    ∷ 3 ∷ 1 ∷ 0 ∷ 2
    ∷ 4 ∷ 0 ∷ 1 ∷ 2
    ∷ []

abbrev pub examples : List Example
examples =
    -- 02's: rule 0,0,1,0 with value 1, which the engine calls unfounded; with value 2 neither p nor ¬p has a body
    record { values = 1 ∷ []; table = 0 ∷ 0 ∷ 1 ∷ 0 ∷ []; reply = answered holds }
    ∷ record { values = 2 ∷ []; table = 0 ∷ 0 ∷ 1 ∷ 0 ∷ []; reply = answered (fails (lit 1)) }
    -- (11): of the eight interpretations the two with q and r hold
    ∷ record { values = 1 ∷ 1 ∷ 1 ∷ []; table = eleven; reply = answered holds }
    ∷ record { values = 1 ∷ 1 ∷ 2 ∷ []; table = eleven; reply = answered (fails (lit 4)) }
    ∷ record { values = 1 ∷ 2 ∷ 1 ∷ []; table = eleven; reply = answered (fails (lit 4)) }
    ∷ record { values = 1 ∷ 2 ∷ 2 ∷ []; table = eleven; reply = answered (fails (lit 5)) }
    ∷ record { values = 2 ∷ 1 ∷ 1 ∷ []; table = eleven; reply = answered holds }
    ∷ record { values = 2 ∷ 1 ∷ 2 ∷ []; table = eleven; reply = answered (fails (lit 4)) }
    ∷ record { values = 2 ∷ 2 ∷ 1 ∷ []; table = eleven; reply = answered (fails (lit 4)) }
    ∷ record { values = 2 ∷ 2 ∷ 2 ∷ []; table = eleven; reply = answered (fails (lit 5)) }
    -- p; ⊥ ← p: only false fails; with a literal that fails too, the literal is named
    ∷ record { values = 1 ∷ []; table = 0 ∷ 0 ∷ 0 ∷ 65535 ∷ 0 ∷ 1 ∷ 0 ∷ []; reply = answered (fails falsum) }
    ∷ record { values = 1 ∷ 1 ∷ []; table = 0 ∷ 0 ∷ 0 ∷ 65535 ∷ 0 ∷ 1 ∷ 0 ∷ []; reply = answered (fails (lit 2)) }
    -- p ← not p: with p the body does not hold; without it the body holds
    ∷ record { values = 1 ∷ []; table = 0 ∷ 1 ∷ 0 ∷ 0 ∷ []; reply = answered (fails (lit 0)) }
    ∷ record { values = 2 ∷ []; table = 0 ∷ 1 ∷ 0 ∷ 0 ∷ []; reply = answered (fails (lit 0)) }
    -- no atoms
    ∷ record { values = []; table = []; reply = answered holds }
    ∷ record { values = []; table = 65535 ∷ 0 ∷ 0 ∷ []; reply = answered (fails falsum) }
    -- the lowest atom without one value decides: both below none, none below both, each alone, and neighbours in either order
    ∷ record { values = 3 ∷ 1 ∷ 0 ∷ 0 ∷ []; table = []; reply = answered (clash 0) }
    ∷ record { values = 1 ∷ 0 ∷ 1 ∷ 3 ∷ []; table = []; reply = answered (missing 1) }
    ∷ record { values = 1 ∷ 3 ∷ 3 ∷ []; table = []; reply = answered (clash 1) }
    ∷ record { values = 1 ∷ 0 ∷ 0 ∷ []; table = []; reply = answered (missing 1) }
    ∷ record { values = 1 ∷ 3 ∷ 0 ∷ []; table = []; reply = answered (clash 1) }
    ∷ record { values = 1 ∷ 0 ∷ 3 ∷ []; table = []; reply = answered (missing 1) }
    -- refusals
    ∷ record { values = 0 ∷ 4 ∷ []; table = 9 ∷ []; reply = refused 11 1 }
    ∷ record { values = 0 ∷ []; table = 0 ∷ 0 ∷ 0 ∷ 1 ∷ 0 ∷ 1 ∷ 2 ∷ []; reply = refused 12 3 }
    ∷ []

-- with levels
pub record LevelExample : Type 0 where
  pub values : List ℕ
  pub table : List ℕ
  pub levels : List ℕ
  pub reply : Reply FormulaFinding

abbrev pub HoldsByLevels : LevelExample → Type 0
HoldsByLevels e = answer_by_levels e.values e.table e.levels ≡ e.reply

abbrev pub level_examples : List LevelExample
level_examples =
    -- 02's rule has no levels that fit
    record { values = 1 ∷ []; table = 0 ∷ 0 ∷ 1 ∷ 0 ∷ []; levels = 5 ∷ 0 ∷ []; reply = refused 13 0 }
    -- (11): r above q, which nothing else asks
    ∷ record { values = 1 ∷ 1 ∷ 1 ∷ []; table = eleven; levels = 0 ∷ 0 ∷ 0 ∷ 0 ∷ 1 ∷ 0 ∷ []; reply = answered holds }
    ∷ record { values = 1 ∷ 1 ∷ 2 ∷ []; table = eleven; levels = 0 ∷ 0 ∷ 0 ∷ 0 ∷ 1 ∷ 0 ∷ []; reply = answered (fails (lit 4)) }
    -- equal levels, and lower ones
    ∷ record { values = 1 ∷ 1 ∷ 1 ∷ []; table = eleven; levels = 0 ∷ 0 ∷ 1 ∷ 0 ∷ 1 ∷ 0 ∷ []; reply = refused 13 4 }
    ∷ record { values = 1 ∷ 1 ∷ 1 ∷ []; table = eleven; levels = 9 ∷ 9 ∷ 2 ∷ 9 ∷ 1 ∷ 9 ∷ []; reply = refused 13 4 }
    -- the lowest such rule; rules headed by false don't count
    ∷ record {
      values = 1 ∷ [];
      table = 65535 ∷ 0 ∷ 1 ∷ 0 ∷ 1 ∷ 0 ∷ 0 ∷ 0 ∷ 0 ∷ 1 ∷ 1 ∷ 1 ∷ 0 ∷ 1 ∷ 0 ∷ [];
      levels = 0 ∷ 0 ∷ [];
      reply = refused 13 2;
    }
    ∷ record { values = 2 ∷ []; table = 65535 ∷ 0 ∷ 1 ∷ 0 ∷ 1 ∷ 0 ∷ 0 ∷ []; levels = 0 ∷ 0 ∷ []; reply = answered holds }
    -- the count before the rules, and 12 before the count; 13 before missing
    ∷ record { values = 1 ∷ []; table = 0 ∷ 0 ∷ 1 ∷ 0 ∷ []; levels = 0 ∷ []; reply = refused 13 65535 }
    ∷ record { values = 0 ∷ []; table = []; levels = 0 ∷ 0 ∷ 0 ∷ []; reply = refused 13 65535 }
    ∷ record { values = 0 ∷ []; table = 2 ∷ 0 ∷ 0 ∷ []; levels = []; reply = refused 12 0 }
    ∷ record { values = 0 ∷ []; table = []; levels = 0 ∷ 0 ∷ []; reply = answered (missing 0) }
    -- with levels too the lowest atom without one value decides
    ∷ record { values = 3 ∷ 0 ∷ []; table = []; levels = 0 ∷ 0 ∷ 0 ∷ 0 ∷ []; reply = answered (clash 0) }
    ∷ record { values = 0 ∷ 3 ∷ []; table = []; levels = 0 ∷ 0 ∷ 0 ∷ 0 ∷ []; reply = answered (missing 0) }
    ∷ []
