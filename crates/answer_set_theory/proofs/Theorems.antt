-- What the engine's answers mean, on value bytes and words: it passes exactly the answer sets, its rounds reach the least
-- closed set, and each fault is the lowest of its kind.
-- Assumes nothing.
use mathlib.Core.Path.{◌≡◌, refl, sym}
use mathlib.Core.Logic.Iff
use mathlib.Core.Logic.{◌↔◌, ⊎_elim}
use mathlib.Core.Bool.{Bool, true, false, cond}
use mathlib.Core.List.{List}
use Prim.Native.Nat.{ℕ, ◌*◌, ◌/◌, ◌%◌, ◌<◌}
use native.Mathlib.Omega.{arith}
use lib.Dec.{eqb, ltb}
use lib.ListN.{length, get_or, get_or-eq_default}
use borrow.Author.Tests.{ltb-true, ltb-false}
use Rattle.basics.specs.Search.{Lowest, Nowhere}
use Rattle.basics.specs.Replies.{Reply, answered}
use Rattle.logic_programs.specs.Literals.{set_of, holds_true, holds_false}
use Rattle.logic_programs.specs.AnswerSets.{reduct, AnswerSet, literal_headed, IsLeastClosed}
use Rattle.answer_set_theory.specs.Verdicts.{Verdict, clash, broken, unfounded, passes, rounds, verdict}
use Rattle.logic_programs.specs.Words.{rules_of}
use Rattle.rule_tables.specs.Acceptance.{Accepted}
use Rattle.rule_tables.proofs.Testing.{comes-next}
use Rattle.answer_set_theory.specs.Answers.{answer}
use Rattle.answer_set_theory.specs.Demand2.{Clashing, BrokenAt, Unfounded, RightVerdict, Demand2}
use Rattle.basics.proofs.Tests.{true-or-false, not-both}
use Rattle.answer_set_theory.proofs.Least.{HeadsBelow, Below, least-closed}
use Rattle.answer_set_theory.proofs.FirstFault.{clash-iff, broken-iff, unfounded-iff}
use Rattle.answer_set_theory.proofs.Passes.{passes-iff}
use Rattle.answer_set_theory.proofs.Decoding.{accepted-below, codes-heads}

-- an atom of value 0 has no literal in the set
pub no-literal : (vs : List ℕ) (c : ℕ) → get_or vs (c / 2) 0 ≡ 0 → set_of vs c ≡ false
unfolding set_of holds_true holds_false
no-literal vs c e = rw e (neither (eqb (c % 2) 0))
  where
    neither : (b : Bool) → cond b (holds_true 0) (holds_false 0) ≡ false
    neither true = refl
    neither false = refl

pub set_of-below : (vs : List ℕ) → Below (2 * length vs) (set_of vs)
set_of-below vs c e = ⊎_elim (λ t. omega (arith, ltb-true (c / 2) (length vs) t)) past (true-or-false (ltb (c / 2) (length vs)))
  where
    past : ltb (c / 2) (length vs) ≡ false → c < 2 * length vs
    past f = absurd (not-both e (no-literal vs c (get_or-eq_default vs 0 (ltb-false (c / 2) (length vs) f))))

pub accepted-judged : (vs ws : List ℕ) → Accepted vs ws → answer vs ws ≡ answered (verdict (length vs) (rules_of ws) (set_of vs))
unfolding answer
accepted-judged vs ws h = sym (comes-next vs ws (answered (verdict (length vs) (rules_of ws) (set_of vs))) h)

module _ (vs ws : List ℕ) (accepted : Accepted vs ws) where
  judges-iff : (v : Verdict) → answer vs ws ≡ answered v ↔ verdict (length vs) (rules_of ws) (set_of vs) ≡ v
  judges-iff v = let e = accepted-judged vs ws accepted in (λ a. cc, λ a. cc)

  heads-below : HeadsBelow (2 * length vs) (rules_of ws)
  heads-below = codes-heads (2 * length vs) (rules_of ws) (accepted-below (length vs) ws accepted.2)

  pub passes-exactly : answer vs ws ≡ answered passes ↔ AnswerSet (rules_of ws) (set_of vs)
  passes-exactly = Iff.trans (judges-iff passes) (passes-iff (length vs) (rules_of ws) (set_of vs) heads-below (set_of-below vs))

  pub clash-exactly : (a : ℕ) → answer vs ws ≡ answered (clash a) ↔ Lowest (Clashing (set_of vs)) (length vs) a
  clash-exactly a = Iff.trans (judges-iff (clash a)) (clash-iff (length vs) (rules_of ws) (set_of vs) a)

  pub broken-exactly : (r : ℕ) → answer vs ws ≡ answered (broken r)
      ↔ (Nowhere (Clashing (set_of vs)) (length vs) × Lowest (BrokenAt (rules_of ws) (set_of vs)) (length (rules_of ws)) r)
  broken-exactly r = Iff.trans (judges-iff (broken r)) (broken-iff (length vs) (rules_of ws) (set_of vs) r)

  pub unfounded-exactly : (c : ℕ) → answer vs ws ≡ answered (unfounded c)
      ↔ (Nowhere (Clashing (set_of vs)) (length vs)
      × Nowhere (BrokenAt (rules_of ws) (set_of vs)) (length (rules_of ws))
      × Lowest (Unfounded (rules_of ws) (set_of vs)) (2 * length vs) c)
  unfounded-exactly c = Iff.trans (judges-iff (unfounded c)) (unfounded-iff (length vs) (rules_of ws) (set_of vs) heads-below c)

  pub rounds-least : IsLeastClosed (literal_headed (reduct (rules_of ws) (set_of vs))) (rounds (2 * length vs) (rules_of ws) (set_of vs))
  rounds-least = least-closed (length vs) (rules_of ws) (set_of vs) heads-below

  judged : RightVerdict (length vs) (rules_of ws) (set_of vs) (answer vs ws)
  judged = record {
    clash-exactly = clash-exactly;
    broken-exactly = broken-exactly;
    unfounded-exactly = unfounded-exactly;
    passes-exactly = passes-exactly;
  }

-- the answer keeps demand 2, and so does whatever equals it
pub demand-2 : (vs ws : List ℕ) → Demand2 vs ws (answer vs ws)
unfolding Demand2
demand-2 vs ws accepted = judged vs ws accepted

pub keeps-demand-2 : (vs ws : List ℕ) {reply : Reply Verdict} → reply ≡ answer vs ws → (reply ≡ answer vs ws) × Demand2 vs ws reply
keeps-demand-2 vs ws e = (e, rw e (demand-2 vs ws))
