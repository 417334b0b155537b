-- The worked examples at the limits hold. Long tables and many values are not computed: what is said of them is said of any number.
-- Assumes nothing.
use mathlib.Core.Path.{◌≡◌, refl, ap, ◌∙◌}
use mathlib.Core.Bool.{Bool, true, false}
use mathlib.Core.List.{List, [], ◌∷◌}
use mathlib.Core.Option.{Option, some}
use Prim.Native.Nat.{ℕ, zero, suc, ◌+◌, ◌-◌, ◌*◌, ◌/◌, ◌≤◌, ◌<◌}
use native.Mathlib.Omega.{arith}
use borrow.Author.Tests.{lt-ltb, ltb-true, ltb-false}
use lib.Dec.{ltb}
use lib.ListN.{get_or, replicate, length-replicate}
use Rattle.basics.specs.Search.{Each}
use Rattle.basics.specs.Replies.{refused, answered}
use Rattle.basics.proofs.Tests.{not-both}
use Rattle.basics.proofs.Pairs.{◌&◌}
use Rattle.logic_programs.specs.Literals.{set_of, holds_true, holds_false}
use Rattle.logic_programs.specs.AnswerSets.{reduct, Closed, AnswerSet}
use Rattle.logic_programs.specs.Words.{rules_of, bad_rule}
use Rattle.rule_tables.proofs.Fitting.{bad_rule_from, bad_rule_from-cons, bad_rule-from}
use Rattle.rule_tables.proofs.Walking.{rules_of-nil}
use Rattle.answer_set_theory.specs.Verdicts.{verdict, clash, passes}
use Rattle.answer_set_theory.specs.Answers.{answer}
use Rattle.rule_tables.specs.Acceptance.{Accepted}
use Rattle.answer_set_theory.specs.Limits.{RuleOver, AcceptedValues, AcceptedTable}
use Rattle.answer_set_theory.specs.LimitExamples.{accepted_tables, IsAccepted, bad_tables, IsBad, fact, facts, LimitsHold}
use Rattle.answer_set_theory.proofs.Decoding.{rule_words-fit}
use Rattle.answer_set_theory.proofs.Theorems.{no-literal, set_of-below, passes-exactly}
use Rattle.answer_set_theory.proofs.Limits.{table-iff, table-rules, within-limits}

-- a table over one atom with a bad rule
bad-table : (v : ℕ) → ltb 3 v ≡ false → (ws : List ℕ) (place : ℕ) → bad_rule 1 ws ≡ some place
    → (AcceptedTable 1 ws → ⊥) × (answer (v ∷ []) ws ≡ refused 12 place)
unfolding answer
bad-table v small ws place e = (λ t. let ok = (table-iff 1 ws).1 t in let z : ◌≡◌ {A = ℕ} 0 1 = cc in omega arith, rw (small, e))

all-bad : Each IsBad bad_tables
unfolding bad_rule
all-bad =
    bad-table 0 refl _ _ refl
    & bad-table 0 refl _ _ refl
    & bad-table 0 refl _ _ refl
    & bad-table 0 refl _ _ refl
    & bad-table 0 refl _ _ refl
    & bad-table 0 refl _ _ refl
    & bad-table 0 refl _ _ refl
    & tt

all-accepted : Each IsAccepted accepted_tables
unfolding answer verdict rules_of bad_rule set_of holds_true holds_false
all-accepted = ((table-iff 1 _).0 refl, refl) & ((table-iff 1 _).0 refl, refl) & ((table-iff 1 _).0 refl, refl) & tt

each-replicate : {A : Type 0} (P : A → Type 0) (k : ℕ) (x : A) → P x → Each P (replicate k x)
each-replicate P zero x p = tt
each-replicate P (suc k) x p = (p, each-replicate P k x p)

-- k times the rule p ←

facts-accepted : (k : ℕ) → k ≤ 4096 → AcceptedTable 1 (facts k)
facts-accepted k few =
    record {
      rules = replicate k fact;
      as-words = refl;
      few = omega (arith, length-replicate k fact);
      over = each-replicate (RuleOver 1) k fact (record { head = omega arith; negated = tt; plain = tt });
    }

-- p is the only literal
only-p : (c : ℕ) → set_of (1 ∷ []) c ≡ true → c ≡ 0
unfolding set_of holds_true holds_false
only-p zero e = refl
only-p (suc zero) e = absurd (not-both e refl)
only-p (suc (suc c)) e = absurd (omega (arith, set_of-below (1 ∷ []) (suc (suc c)) e))

facts-closed : (k : ℕ) → Closed (reduct (replicate k fact) (set_of (1 ∷ []))) (set_of (1 ∷ []))
unfolding set_of holds_true
facts-closed zero = tt
facts-closed (suc k) = (λ w. refl, facts-closed k)

facts-answer-set : (k : ℕ) → 1 ≤ k → AnswerSet (replicate k fact) (set_of (1 ∷ []))
facts-answer-set zero some-fact = absurd (omega arith)
facts-answer-set (suc k) some-fact = record {
  consistent = λ a t f. omega (arith, only-p (2 * a + 1) f);
  closed = facts-closed (suc k);
  minimal = λ Y (_, (c, x, y)) h. not-both (h.0 tt) (rw (only-p c x) at y);
}

facts-pass : (k : ℕ) → 1 ≤ k → k ≤ 4096 → answer (1 ∷ []) (facts k) ≡ answered passes
unfolding facts-accepted
facts-pass k some-fact few =
    let table = facts-accepted k few in
    let taken : Accepted (1 ∷ []) (facts k) =
    (within-limits (1 ∷ []) (facts k)).accepted-exactly.1 (record { few = omega arith; small = (omega arith, tt) }, table) in
    (passes-exactly (1 ∷ []) (facts k) taken).1 (rw (table-rules 1 (omega arith) (facts k) table) (facts-answer-set k some-fact))

-- with k rules before, the one refused is the 4,097th
facts-over : (k at m : ℕ) → k ≤ 4096 → k + m ≡ 4097 → bad_rule_from 1 k at (facts m) ≡ some (at + 3 * (4096 - k))
facts-over k at zero before all = absurd (omega arith)
facts-over k at (suc m) before all = go (ltb k 4096) refl (facts-over (suc k) (at + 3) m)
  where
    go : (b : Bool) → ltb k 4096 ≡ b
        → (suc k ≤ 4096 → suc k + m ≡ 4097 → bad_rule_from 1 (suc k) (at + 3) (facts m) ≡ some (at + 3 + 3 * (4096 - suc k)))
        → bad_rule_from 1 k at (facts (suc m)) ≡ some (at + 3 * (4096 - k))
    go true t later =
        let below = ltb-true k 4096 t in
        rw (bad_rule_from-cons, t, rule_words-fit 1 fact (facts m) (omega arith, tt, tt))
        (later (omega arith) (omega arith) ∙ ap {B = Option ℕ} some (omega arith))
    go false f later = let last = ltb-false k 4096 f in rw (bad_rule_from-cons, f) (ap {B = Option ℕ} some (omega arith))

one-too-many : bad_rule 1 (facts 4097) ≡ some 12288
one-too-many = bad_rule-from 1 (facts 4097) ∙ facts-over 0 0 4097 (omega arith) refl

-- n values 0

zeros-accepted : (n : ℕ) → n ≤ 1024 → AcceptedValues (replicate n 0)
zeros-accepted n few =
    record { few = omega (arith, length-replicate {A = ℕ} n 0); small = each-replicate (λ (v : ℕ). v ≤ 3) n 0 (omega arith) }

zero-at : (n i : ℕ) → ◌≡◌ {A = ℕ} (get_or (replicate n 0) i 0) 0
zero-at zero i = refl
zero-at (suc n) zero = refl
zero-at (suc n) (suc i) = zero-at n i

zeros-hold-none : (n c : ℕ) → set_of (replicate n 0) c ≡ false
zeros-hold-none n c = no-literal (replicate n 0) c (zero-at n (c / 2))

zeros-pass : (n : ℕ) → n ≤ 1024 → answer (replicate n 0) [] ≡ answered passes
zeros-pass n few =
    let taken : Accepted (replicate n 0) [] =
    (within-limits (replicate n 0) []).accepted-exactly.1
    (zeros-accepted n few, record { rules = []; as-words = refl; few = omega arith; over = tt }) in
    (passes-exactly (replicate n 0) [] taken).1
    (rw rules_of-nil
    (record {
      consistent = λ a t f. not-both t (zeros-hold-none n (2 * a));
      closed = tt;
      minimal = λ Y (_, (c, x, y)) h. not-both x (zeros-hold-none n c);
    }))

zeros-refused : (n : ℕ) → 1024 < n → answer (replicate n 0) [] ≡ refused 10 n
unfolding answer
zeros-refused n many = rw (length-replicate {A = ℕ} n 0, lt-ltb 1024 n many)

nothing-passes : answer [] [] ≡ answered passes
unfolding answer verdict bad_rule rules_of
nothing-passes = refl

both_values : answer (3 ∷ []) [] ≡ answered (clash 0)
unfolding answer verdict bad_rule rules_of set_of holds_true holds_false
both_values = refl

no_value : answer (4 ∷ []) [] ≡ refused 11 0
unfolding answer
no_value = refl

pub limits-hold : LimitsHold
limits-hold = record {
  nothing = (
    record { few = omega arith; small = tt },
    record { rules = []; as-words = refl; few = omega arith; over = tt },
    nothing-passes,
  );
  accepted = all-accepted;
  bad = all-bad;
  rules-4096 = (facts-accepted 4096 (omega arith), facts-pass 4096 (omega arith) (omega arith));
  rules-4097 = bad-table 1 refl (facts 4097) 12288 one-too-many;
  values-1024 = (zeros-accepted 1024 (omega arith), zeros-pass 1024 (omega arith));
  values-1025 = (λ a. omega (arith, a.few, length-replicate {A = ℕ} 1025 0), zeros-refused 1025 (omega arith));
  value-3 = (record { few = omega arith; small = (omega arith, tt) }, both_values);
  value-4 = (λ a. omega (arith, a.small.0), no_value);
}
