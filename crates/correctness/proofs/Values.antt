-- Values with one of true and false for each atom, read as a set of literals and as states and actions: both readings agree
-- on each literal at each time.
-- Assumes nothing.
use mathlib.Core.Path.{◌≡◌, sym, ap, ◌∙◌, fun_ext}
use mathlib.Core.Logic.{⊎_elim}
use mathlib.Core.Bool.{true, false, not, not-not}
use mathlib.Core.List.{List}
use Prim.Native.Nat.{ℕ, ◌+◌, ◌-◌, ◌*◌, ◌/◌, ◌%◌, ◌≤◌, ◌<◌}
use native.Mathlib.Omega.{arith}
use native.Mathlib.Nat.{mul-le-mul_right}
use lib.Dec.{eqb, ltb}
use lib.ListN.{length, get_or}
use borrow.Author.Tests.{ltb-false}
use Rattle.basics.specs.Search.{Each, all}
use Rattle.basics.proofs.Tests.{true-or-false, each_map, each_at}
use Rattle.basics.proofs.Lists.{all-mapped}
use Rattle.logic_programs.specs.Literals.{OneValue, complement, holds_true, holds_false, set_of}
use Rattle.logic_programs.specs.AnswerSets.{meets}
use Rattle.answer_set_theory.proofs.Sets.{all-not-meets}
use Rattle.logic_programs.proofs.Complements.{complement-even, complement-odd, complement-below}
use Rattle.action_language.specs.Atoms.{atom_count}
use Rattle.transitions.specs.Meaning.{Interpretation, satisfies, holds, together, state_at, action_at}
use Rattle.basics.proofs.Parity.{by-parity}
use Rattle.transitions.proofs.Literals.{satisfies-even, satisfies-odd}
use Rattle.action_language.proofs.Fits.{CodesBelow}
use Rattle.translation_rules.specs.RuleForms.{at_time, complements_at, literals_at}

-- the atoms with value true
abbrev pub truth : List ℕ → Interpretation
truth vs a = eqb (get_or vs a 0) 1

-- Codes

satisfies-complement : (I : Interpretation) (c : ℕ) → satisfies I (complement c) ≡ not (satisfies I c)
satisfies-complement I = by-parity (λ c. satisfies I (complement c) ≡ not (satisfies I c)) even odd
  where
    even : (a : ℕ) → satisfies I (complement (2 * a)) ≡ not (satisfies I (2 * a))
    even a = ap (satisfies I) (complement-even a) ∙ satisfies-odd I a ∙ ap not (sym (satisfies-even I a))

    odd : (a : ℕ) → satisfies I (complement (2 * a + 1)) ≡ not (satisfies I (2 * a + 1))
    odd a = ap (satisfies I) (complement-odd a) ∙ satisfies-even I a ∙ sym (ap not (satisfies-odd I a) ∙ not-not (I a))

-- a literal at time t is a literal of the interpretation that reads the atoms from there on
satisfies-later : (I : Interpretation) (N t c : ℕ) → satisfies I (at_time N t c) ≡ satisfies (λ f. I (t * N + f)) c
satisfies-later I N t c =
    let parity : (2 * (t * N) + c) % 2 ≡ c % 2 = omega arith in
    let half : (2 * (t * N) + c) / 2 ≡ t * N + c / 2 = omega arith in
    rw (parity, half)

set_of-satisfies : (vs : List ℕ) → Each OneValue vs → (c : ℕ) → c < 2 * length vs → set_of vs c ≡ satisfies (truth vs) c
unfolding set_of holds_true holds_false
set_of-satisfies vs one c b = ⊎_elim (λ (e : get_or vs (c / 2) 0 ≡ 1). rw e) (λ (e : get_or vs (c / 2) 0 ≡ 2). rw e)
    ((each_at OneValue 0 vs).0 one (c / 2) (omega arith))

-- Literals at a time

module _ (n m T : ℕ) (vs : List ℕ) (size : length vs ≡ atom_count n m T) (one : Each OneValue vs) where
  fluent-below : (t c : ℕ) → t ≤ T → c < 2 * n → at_time (n + m) t c < 2 * length vs
  fluent-below t c b low = omega (arith, mul-le-mul_right (n + m) b)

  literal-below : (t c : ℕ) → t < T → c < 2 * (n + m) → at_time (n + m) t c < 2 * length vs
  literal-below t c b low = omega (arith, mul-le-mul_right (n + m) b)

  -- the literals of fluents, to the last time
  pub fluent-in : (t c : ℕ) → t ≤ T → c < 2 * n → set_of vs (at_time (n + m) t c) ≡ satisfies (state_at n m vs t) c
  fluent-in t c b low = set_of-satisfies vs one (at_time (n + m) t c) (fluent-below t c b low) ∙ satisfies-later (truth vs) (n + m) t c

  -- the literals of fluents and actions, before it
  pub literal-in : (t c : ℕ) → t < T → c < 2 * (n + m)
      → set_of vs (at_time (n + m) t c) ≡ satisfies (together n (state_at n m vs t) (action_at n m vs t)) c
  literal-in t c b low =
      set_of-satisfies vs one (at_time (n + m) t c) (literal-below t c b low)
      ∙ satisfies-later (truth vs) (n + m) t c
      ∙ ap (λ I. satisfies I c) (fun_ext (λ f. sym (both f)))
    where
      both : (f : ℕ) → together n (state_at n m vs t) (action_at n m vs t) f ≡ truth vs (t * (n + m) + f)
      both f = ⊎_elim (λ (e : ltb f n ≡ true). rw e) past (true-or-false (ltb f n))
        where
          past : ltb f n ≡ false → together n (state_at n m vs t) (action_at n m vs t) f ≡ truth vs (t * (n + m) + f)
          past e = let place : t * (n + m) + n + (f - n) ≡ t * (n + m) + f = omega (arith, ltb-false f n e) in rw (e, place)

  -- a set holds the complement of a literal exactly where it lacks the literal
  pub complement-in : (c : ℕ) → c < 2 * length vs → set_of vs (complement c) ≡ not (set_of vs c)
  complement-in c b =
      set_of-satisfies vs one (complement c) (complement-below (length vs) c b)
      ∙ satisfies-complement (truth vs) c
      ∙ ap not (sym (set_of-satisfies vs one c b))

  -- the parts of a rule at a time: an if-list, an after-list
  pub if-holds : (t : ℕ) (cs : List ℕ) → t ≤ T → CodesBelow (2 * n) cs
      → not (meets (complements_at (n + m) t cs) (set_of vs)) ≡ holds (state_at n m vs t) cs
  if-holds t cs b low =
      sym (all-not-meets (set_of vs) (complements_at (n + m) t cs))
      ∙ all-mapped (λ c. not (set_of vs c)) (satisfies (state_at n m vs t)) (λ c. complement (at_time (n + m) t c)) cs
      (each_map (λ c l. ap not (complement-in (at_time (n + m) t c) (fluent-below t c b l)) ∙ not-not _ ∙ fluent-in t c b l) cs low)

  pub after_holds : (t : ℕ) (cs : List ℕ) → t < T → CodesBelow (2 * (n + m)) cs
      → all (set_of vs) (literals_at (n + m) t cs) ≡ holds (together n (state_at n m vs t) (action_at n m vs t)) cs
  after_holds t cs b low = all-mapped (set_of vs) (satisfies (together n (state_at n m vs t) (action_at n m vs t))) (at_time (n + m) t) cs
      (each_map (λ c l. literal-in t c b l) cs low)
