-- The marks of the last round are those of the least closed set.
-- Assumes nothing.
use mathlib.Core.Path.{◌≡◌}
use mathlib.Core.List.{List}
use Prim.Native.Nat.{ℕ, ◌*◌}
use native.Mathlib.Omega.{arith}
use lib.ListN.{length}
use Rattle.basics.proofs.Tests.{false_of_not}
use Rattle.logic_programs.specs.Literals.{Lits}
use Rattle.logic_programs.specs.Rules.{Rule}
use Rattle.literal_sets.specs.Marks.{marked}
use Rattle.answer_set_theory.specs.Verdicts.{rounds}
use Rattle.answer_set_theory.specs.Derived.{Derived}
use Rattle.answer_set_theory.proofs.Least.{HeadsBelow, rounds-below, least-closed}

pub derived : (n : ℕ) (Π : List Rule) (X : Lits) (words : List ℕ) → HeadsBelow (2 * n) Π → length words ≡ 32
    → marked words ≡ rounds (2 * n) Π X
    → Derived n Π X words
derived n Π X words low size is = record {
  least-marked = λ e. record {
    size = size;
    least = rw is (least-closed n Π X low);
    past = λ c h. false_of_not (marked words c) (λ t. let b = rounds-below (2 * n) Π X low (2 * n) c (rw is at t) in omega arith);
  };
  last-round = λ e. is;
}
