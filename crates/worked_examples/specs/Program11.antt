-- Program (11) of 000, section 6, and its answer sets.
-- Assumes nothing.
use Rattle.std.specs.Prelude.{Bool, true, false, List, [], ◌∷◌, ℕ}
use Rattle.basics.specs.Search.{chosen, tuples}
use Rattle.basics.specs.Replies.{Reply, refused, answered}
use Rattle.answer_set_theory.specs.Verdicts.{Verdict, clash, broken, unfounded, passes}
use Rattle.answer_set_theory.specs.Answers.{answer}
use Rattle.completion_theory.specs.Examples.{eleven}

-- p ← not ¬p; ¬p ← not p; q ← not ¬q; ¬q ← not q; r ← q, where p, q, r are atoms 0, 1, 2
abbrev pub program11 : List ℕ
program11 = eleven

-- {p, q, r}, {p, ¬q}, {¬p, q, r}, {¬p, ¬q}
abbrev pub answer_sets11 : List (List ℕ)
answer_sets11 = (1 ∷ 1 ∷ 1 ∷ []) ∷ (1 ∷ 2 ∷ 0 ∷ []) ∷ (2 ∷ 1 ∷ 1 ∷ []) ∷ (2 ∷ 2 ∷ 0 ∷ []) ∷ []

-- every list of n value bytes: every set of literals over n atoms
abbrev pub all_values : ℕ → List (List ℕ)
all_values n = tuples (0 ∷ 1 ∷ 2 ∷ 3 ∷ []) n

abbrev pub is_pass : Reply Verdict → Bool
is_pass (answered passes) = true
is_pass (answered (clash a)) = false
is_pass (answered (broken r)) = false
is_pass (answered (unfounded c)) = false
is_pass (refused k p) = false

-- the lists of value bytes that pass a table
abbrev pub passing : List ℕ → List (List ℕ) → List (List ℕ)
passing ws vss = chosen (λ vs. is_pass (answer vs ws)) vss
