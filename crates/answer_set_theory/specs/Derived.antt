-- What a derivation leaves: the marks of the least closed set, by the reduct.
-- Assumes nothing.
use Rattle.std.specs.Prelude.{◌≡◌, false, List, ℕ, ◌*◌, ◌≤◌, length}
use Rattle.std.proofs.Math.Option.{none}
use Rattle.basics.specs.Search.{first}
use Rattle.logic_programs.specs.Literals.{Lits}
use Rattle.logic_programs.specs.Rules.{Rule}
use Rattle.logic_programs.specs.AnswerSets.{reduct, literal_headed, IsLeastClosed}
use Rattle.literal_sets.specs.Marks.{marked}
use Rattle.answer_set_theory.specs.Verdicts.{is_broken, rounds}

-- 32 words whose bits are set at exactly the codes of the least set closed under the rules with literal heads of the reduct of
-- Π by X; the bits past the n atoms are clear
pub record LeastMarked (n : ℕ) (Π : List Rule) (X : Lits) (words : List ℕ) : Type 0 where
  pub size : length words ≡ 32
  pub least : IsLeastClosed (literal_headed (reduct Π X)) (marked words)
  pub past : (c : ℕ) → 2 * n ≤ c → marked words c ≡ false

-- what a derivation leaves where no rule is broken: those marks, which are those of the last round
pub record Derived (n : ℕ) (Π : List Rule) (X : Lits) (words : List ℕ) : Type 0 where
  pub least-marked : first (is_broken X) 0 Π ≡ none → LeastMarked n Π X words
  pub last-round : first (is_broken X) 0 Π ≡ none → marked words ≡ rounds (2 * n) Π X
