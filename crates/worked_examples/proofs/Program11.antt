-- The answer sets of program (11): of all 64 sets over its three atoms, exactly the four that 000 prints.
-- Assumes nothing.
use mathlib.Core.Path.{◌≡◌, refl}
use mathlib.Core.Logic.Iff
use mathlib.Core.Logic.{◌↔◌}
use mathlib.Core.Bool.{true}
use mathlib.Core.Option.{none}
use mathlib.Core.List.{List, [], ◌∷◌, Memᴰ}
use Prim.Native.Nat.{ℕ, zero, suc, ◌≤◌}
use native.Mathlib.Omega.{arith}
use lib.Dec.{ltb}
use lib.ListN.{length, get_or}
use borrow.Author.Tests.{le-ltb}
use Rattle.basics.specs.Search.{Each}
use Rattle.basics.specs.Replies.{Reply, refused, answered}
use Rattle.basics.proofs.Tests.{none_first, each_at, each_map}
use Rattle.basics.proofs.Lists.{chosen-iff, tuples-all}
use Rattle.logic_programs.specs.Literals.{set_of, holds_true, holds_false, bad_value}
use Rattle.logic_programs.specs.AnswerSets.{AnswerSet}
use Rattle.answer_set_theory.specs.Verdicts.{Verdict, clash, broken, unfounded, passes, verdict}
use Rattle.logic_programs.specs.Words.{rules_of, bad_rule}
use Rattle.rule_tables.specs.Acceptance.{too_many_values}
use Rattle.answer_set_theory.specs.Answers.{answer}
use Rattle.answer_set_theory.proofs.Theorems.{passes-exactly}
use Rattle.worked_examples.specs.Program11.{program11, answer_sets11, all_values, is_pass, passing}

program11-passing : passing program11 (all_values 3) ≡ answer_sets11
unfolding answer verdict rules_of bad_rule set_of holds_true holds_false
program11-passing = refl

-- a value byte is one of four
byte : (v : ℕ) → v ≤ 3 → Memᴰ v (0 ∷ 1 ∷ 2 ∷ 3 ∷ [])
byte zero b = Memᴰ.head refl
byte (suc zero) b = Memᴰ.tail (Memᴰ.head refl)
byte (suc (suc zero)) b = Memᴰ.tail (Memᴰ.tail (Memᴰ.head refl))
byte (suc (suc (suc zero))) b = Memᴰ.tail (Memᴰ.tail (Memᴰ.tail (Memᴰ.head refl)))
byte (suc (suc (suc (suc v)))) b = absurd (omega arith)

is_pass-iff : (r : Reply Verdict) → is_pass r ≡ true ↔ r ≡ answered passes
is_pass-iff (answered passes) = (λ e. refl, λ e. refl)
is_pass-iff (answered (clash a)) = (λ e. cc, λ e. cc)
is_pass-iff (answered (broken r)) = (λ e. cc, λ e. cc)
is_pass-iff (answered (unfounded c)) = (λ e. cc, λ e. cc)
is_pass-iff (refused k p) = (λ e. cc, λ e. cc)

-- neither 10 nor 11 nor 12 refuses
accepted11 : (vs : List ℕ) → length vs ≡ 3 → Each (λ v. v ≤ 3) vs
    → (too_many_values vs ≡ none) × (bad_value vs ≡ none) × (bad_rule (length vs) program11 ≡ none)
unfolding bad_rule
accepted11 vs e h = (
  rw e refl,
  none_first (ltb 3) 0 0 vs (λ i b. le-ltb 3 (get_or vs i 0) ((each_at (λ v. v ≤ 3) 0 vs).0 h i b)),
  rw e refl,
)

pub program11-answer-sets : (vs : List ℕ) → length vs ≡ 3 → Each (λ v. v ≤ 3) vs
    → AnswerSet (rules_of program11) (set_of vs) ↔ Memᴰ vs answer_sets11
program11-answer-sets vs e h = (
  λ a. rw program11-passing at (listed.1 (tuples-all _ 3 vs e (each_map byte vs h), pass.1 a)),
  λ m. pass.0 (listed.0 (rw program11-passing m)).1,
)
  where
    listed : Memᴰ vs (passing program11 (all_values 3)) ↔ (Memᴰ vs (all_values 3) × (is_pass (answer vs program11) ≡ true))
    listed = chosen-iff (λ us. is_pass (answer us program11)) (all_values 3) vs

    pass : is_pass (answer vs program11) ≡ true ↔ AnswerSet (rules_of program11) (set_of vs)
    pass = Iff.trans (is_pass-iff (answer vs program11)) (passes-exactly vs program11 (accepted11 vs e h))
