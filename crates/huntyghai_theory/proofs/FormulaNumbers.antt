-- What the numbers by the completion formulas say: of replies within bounds, each has a number of its own.
-- Assumes nothing.
use mathlib.Core.Path.{◌≡◌, refl, sym, ap, ◌∙◌}
use mathlib.Core.Logic.Iff
use mathlib.Core.Logic.{◌↔◌}
use mathlib.Core.Bool.{cond}
use mathlib.Core.List.{List}
use mathlib.Core.Option.{Option, none, some}
use Prim.Native.Nat.{ℕ, ◌≤◌, ◌<◌}
use native.Mathlib.Omega.{arith}
use borrow.Author.Tests.{ne_eqb}
use lib.Dec.{eqb}
use lib.ListN.{length}
use Rattle.basics.specs.Replies.{Reply, refused, answered, or_refuse}
use Rattle.logic_programs.specs.Rules.{lit, falsum}
use Rattle.logic_programs.specs.Words.{head_of, head_word, rules_of}
use Rattle.rule_tables.specs.Acceptance.{Accepted}
use Rattle.rule_tables.proofs.Testing.{few-values}
use Rattle.answer_set_theory.proofs.Decoding.{accepted-count}
use Rattle.completion_theory.specs.Findings.{FormulaFinding, missing, clash, fails, holds, formula_finding}
use Rattle.completion_theory.specs.LevelLists.{bad_levels}
use Rattle.completion_theory.specs.Answers.{answer, answer_by_levels}
use Rattle.completion_theory.specs.Meaning.{ByFormulas, SaysFormulas, ByLevels, SaysLevels}
use Rattle.completion_theory.proofs.Theorems as completed
use Rattle.completion_theory.proofs.Formulas as formulas
use Rattle.answer_codes.specs.Codes.{coded, reply_code}
use Rattle.answer_codes.specs.FormulaCodes.{formula_code}
use Rattle.huntyghai_theory.specs.FormulaNumbers.{NumberedByFormulas, CompletionNumbered, LevelsNumbered}
use Rattle.huntyghai_theory.proofs.SetCodes.{Coded, one_answer, passes-told}

-- a reply's code and value
abbrev tag : Reply FormulaFinding → ℕ
tag (refused number place) = number
tag (answered (missing a)) = 68
tag (answered (clash a)) = 65
tag (answered (fails h)) = 73
tag (answered holds) = 72

abbrev value : Reply FormulaFinding → ℕ
value (refused number place) = place
value (answered (missing a)) = a
value (answered (clash a)) = a
value (answered (fails h)) = head_word h
value (answered holds) = 0

-- and back
abbrev reply : ℕ → ℕ → Reply FormulaFinding
reply k v =
    cond (eqb k 68) (answered (missing v))
    (cond (eqb k 65) (answered (clash v))
    (cond (eqb k 73) (answered (fails (head_of v)))
    (cond (eqb k 72) (answered holds)
    (refused k v))))

-- within bounds: a refusal's number is below 64, a literal's code is not the word of false, and the value has 56 bits
abbrev Within : Reply FormulaFinding → Type 0
Within (refused number place) = (number < 64) × (place < 72057594037927936)
Within (answered (missing a)) = a < 72057594037927936
Within (answered (clash a)) = a < 72057594037927936
Within (answered (fails (lit c))) = c < 65535
Within (answered (fails falsum)) = Unit
Within (answered holds) = Unit

back : (r : Reply FormulaFinding) → Within r → reply (tag r) (value r) ≡ r
back (refused k p) w =
    rw (
      ne_eqb k 68 (omega (arith, w.0)),
      ne_eqb k 65 (omega (arith, w.0)),
      ne_eqb k 73 (omega (arith, w.0)),
      ne_eqb k 72 (omega (arith, w.0)),
    )
back (answered (missing a)) w = refl
back (answered (clash a)) w = refl
back (answered (fails (lit c))) w = rw (ne_eqb c 65535 (omega arith))
back (answered (fails falsum)) w = refl
back (answered holds) w = refl

number_of : (r : Reply FormulaFinding) → reply_code formula_code r ≡ coded (tag r) (value r)
number_of (refused k p) = refl
number_of (answered (missing a)) = refl
number_of (answered (clash a)) = refl
number_of (answered (fails h)) = refl
number_of (answered holds) = refl

bounds : (r : Reply FormulaFinding) → Within r → Coded tag value reply r
bounds r w = record { code_fits = (fits r w).0; value-fits = (fits r w).1; back = back r w }
  where
    fits : (s : Reply FormulaFinding) → Within s → (tag s < 256) × (value s < 72057594037927936)
    fits (refused k p) u = (omega (arith, u.0), u.1)
    fits (answered (missing a)) u = (omega arith, u)
    fits (answered (clash a)) u = (omega arith, u)
    fits (answered (fails (lit c))) u = (omega arith, omega arith)
    fits (answered (fails falsum)) u = (omega arith, omega arith)
    fits (answered holds) u = (omega arith, omega arith)

-- equal numbers are of equal replies
told : (r s : Reply FormulaFinding) → Within r → Within s → reply_code formula_code r ≡ reply_code formula_code s → r ≡ s
told r s w u e = one_answer tag value reply r s (bounds r w) (bounds s u) (sym (number_of r) ∙ e ∙ number_of s)

module _ (r : Reply FormulaFinding) (number : ℕ) (is : number ≡ reply_code formula_code r) (within : Within r) where
  tells : (s : Reply FormulaFinding) → Within s → number ≡ reply_code formula_code s ↔ r ≡ s
  tells s u = (λ e. told r s within u (sym is ∙ e), λ e. is ∙ ap (reply_code formula_code) e)

  by-formulas : (vs ws : List ℕ) → length vs ≤ 1024 → ByFormulas vs (rules_of ws) r → NumberedByFormulas vs (rules_of ws) number
  by-formulas vs ws few by = record {
    by_values = record {
      missing-exactly = λ a b. Iff.trans (tells (answered (missing a)) (omega arith)) (by.missing-exactly a);
      clash-exactly = λ a b. Iff.trans (tells (answered (clash a)) (omega arith)) (by.clash-exactly a);
    };
    fails-exactly = λ c b. Iff.trans (tells (answered (fails (lit c))) (omega arith)) (by.fails-exactly c);
    false-exactly = Iff.trans (tells (answered (fails falsum)) tt) by.false-exactly;
    holds-exactly = Iff.trans (tells (answered holds) tt) by.holds-exactly;
  }

-- what is found is within bounds
found_within : (vs ws : List ℕ) → length vs ≤ 1024 → (f : FormulaFinding) → ByFormulas vs (rules_of ws) (answered f) → Within (answered f)
found_within vs ws few (missing a) by = omega (arith, few, ((by.missing-exactly a).0 refl).0.0)
found_within vs ws few (clash a) by = omega (arith, few, ((by.clash-exactly a).0 refl).0.0)
found_within vs ws few (fails (lit c)) by = omega (arith, few, ((by.fails-exactly c).0 refl).1.0)
found_within vs ws few (fails falsum) by = tt
found_within vs ws few holds by = tt

module _ (vs ws : List ℕ) (accepted : Accepted vs ws) where
  few : length vs ≤ 1024
  few = few-values vs accepted.0

  found : Within (answered (formula_finding vs ws))
  found = found_within vs ws few (formula_finding vs ws) (formulas.by-formulas vs ws accepted.1 (answered (formula_finding vs ws)) refl)

  answer-within : Within (answer vs ws)
  answer-within = rw (completed.answered-finding vs ws accepted) found

  levels-within : (levels : List ℕ) → Within (answer_by_levels vs ws levels)
  levels-within levels = rw (completed.next vs ws levels accepted) (go (bad_levels (length vs) ws levels) refl)
    where
      go : (o : Option ℕ) → bad_levels (length vs) ws levels ≡ o → Within (or_refuse o 13 (answered (formula_finding vs ws)))
      go (some k) e = (omega arith, omega (arith, completed.place-below vs ws levels accepted k e))
      go none e = found

pub completion-numbered : (vs ws : List ℕ) (number : ℕ) → number ≡ reply_code formula_code (answer vs ws)
    → SaysFormulas vs ws (answer vs ws)
    → CompletionNumbered vs ws number
unfolding CompletionNumbered SaysFormulas
completion-numbered vs ws number is promised accepted =
    by-formulas (answer vs ws) number is (answer-within vs ws accepted) vs ws (few vs ws accepted) (promised accepted)

pub levels-numbered : (vs ws levels : List ℕ) (number : ℕ) → number ≡ reply_code formula_code (answer_by_levels vs ws levels)
    → SaysLevels vs ws levels (answer_by_levels vs ws levels) → LevelsNumbered vs ws levels number
unfolding LevelsNumbered SaysLevels
levels-numbered vs ws levels number is promised accepted = record {
  count-exactly = Iff.trans (tell (refused 13 65535) (omega arith, omega arith)) by.count-exactly;
  rule-exactly = λ i b.
      Iff.trans (tell (refused 13 i) (omega arith, omega (arith, accepted-count (length vs) ws accepted.2))) (by.rule-exactly i b);
  formulas = λ e tight. by-formulas r number is within vs ws (few vs ws accepted) (by.formulas e tight);
  holds-engine = λ e tight one.
      Iff.trans (tell (answered holds) tt) (Iff.trans (by.holds-engine e tight one) (Iff.symm (passes-told vs ws accepted)));
}
  where
    r : Reply FormulaFinding
    r = answer_by_levels vs ws levels

    by : ByLevels vs ws levels r
    by = promised accepted

    within : Within r
    within = levels-within vs ws accepted levels

    tell : (s : Reply FormulaFinding) → Within s → number ≡ reply_code formula_code s ↔ r ≡ s
    tell = tells r number is within
