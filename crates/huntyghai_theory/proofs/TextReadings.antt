-- Demand 3 on the numbers for C, by what the readers take: it is accepted. And missing and clash on the numbers of the history check.
-- Assumes nothing.
use mathlib.Core.Path.{◌≡◌, refl, ap, ◌∙◌}
use mathlib.Core.Logic.Iff
use mathlib.Core.Logic.{◌↔◌}
use mathlib.Core.Bool.{true}
use mathlib.Core.List.{List, [], ◌∷◌}
use Prim.Native.Nat.{ℕ, ◌≤◌, ◌<◌}
use native.Mathlib.Omega.{arith}
use lib.ListN.{length}
use Rattle.basics.specs.Search.{Each}
use Rattle.basics.specs.Replies.{Reply, refused, answered}
use Rattle.logic_programs.specs.Literals.{OneValue}
use Rattle.answer_set_theory.specs.Verdicts.{Verdict, clash, broken, unfounded, passes}
use Rattle.answer_set_theory.specs.Answers as engine
use Rattle.completion_theory.specs.Findings as formulas
use Rattle.completion_theory.specs.Answers as completion
use Rattle.history_check.specs.Checks as history
use Rattle.description_lines.specs.LineSteps.{Draft}
use Rattle.description_lines.specs.Descriptions.{read, described, description_of}
use Rattle.history_reader.specs.Histories.{atoms}
use Rattle.correctness.specs.Demand3.{Complete}
use Rattle.correctness.specs.MissingAndClash.{ByValues}
use Rattle.correctness.specs.Promises.{TranslatesExactly, NothingRefused}
use Rattle.correctness.proofs.Demand3.{demand-3, by-completion, translates-exactly}
use Rattle.correctness.proofs.MissingAndClash.{few, by_values}
use Rattle.possible_refusals.specs.Refusals.{among, RefusedBy}
use Rattle.possible_refusals.proofs.Checks.{which-refusals, fits, in-time}
use Rattle.answer_codes.specs.Codes.{coded, reply_code, verdict_code, finding_code}
use Rattle.answer_codes.specs.FormulaCodes.{formula_code}
use Rattle.huntyghai_theory.specs.Texts.{table_of_text, checked_text}
use Rattle.huntyghai_theory.specs.FormulaNumbers.{NumberedByValues}
use Rattle.huntyghai_theory.specs.TextReadings.{words_for, IsPath, TextTranslates, TextChecks, TextSaysValues}
use Rattle.huntyghai_theory.proofs.SetCodes.{same-value, other-code, tells-passes}
use Rattle.huntyghai_theory.proofs.CodeLists.{below}

-- a refusal's number is no answer's
no-refusal : (numbers : List ℕ) (k p j x : ℕ) → Each (λ (n : ℕ). n < 64) numbers → among k numbers ≡ true → 64 ≤ j
    → j < 256 → coded k p ≡ coded j x → ⊥
no-refusal numbers k p j x small by high low e =
    let under : k < 64 = below 64 k numbers small by in
    omega (arith, other-code k j p x (omega arith) low e)

passes-number : (r : Reply Verdict) → RefusedBy (10 ∷ 11 ∷ 12 ∷ []) r → reply_code verdict_code r ≡ coded 64 0 ↔ r ≡ answered passes
passes-number (refused k p) by = (
  λ e.
      absurd (no-refusal (10 ∷ 11 ∷ 12 ∷ []) k p 64 0 (omega arith, (omega arith, (omega arith, tt))) by (omega arith) (omega arith) e),
  λ e. cc,
)
passes-number (answered v) by = (λ e. ap answered (tells-passes v e), λ e. ap (reply_code verdict_code) e)

holds-number : (r : Reply formulas.FormulaFinding) → RefusedBy (10 ∷ 11 ∷ 12 ∷ []) r
    → reply_code formula_code r ≡ coded 72 0 ↔ r ≡ answered formulas.holds
holds-number (refused k p) by = (
  λ e.
      absurd (no-refusal (10 ∷ 11 ∷ 12 ∷ []) k p 72 0 (omega arith, (omega arith, (omega arith, tt))) by (omega arith) (omega arith) e),
  λ e. cc,
)
holds-number (answered formulas.holds) by = (λ e. refl, λ e. refl)
holds-number (answered (formulas.missing a)) by = (λ e. absurd (omega (arith, other-code 68 72 a 0 (omega arith) (omega arith) e)), λ e. cc)
holds-number (answered (formulas.clash a)) by = (λ e. absurd (omega (arith, other-code 65 72 a 0 (omega arith) (omega arith) e)), λ e. cc)
holds-number (answered (formulas.fails h)) by = (λ e. absurd (omega (arith, other-code 73 72 _ 0 (omega arith) (omega arith) e)), λ e. cc)

checked-number : (r : Reply history.Finding) → RefusedBy (9 ∷ 10 ∷ 11 ∷ []) r → reply_code finding_code r ≡ coded 64 0
    ↔ r ≡ answered (history.judged passes)
checked-number (refused k p) by = (
  λ e. absurd (no-refusal (9 ∷ 10 ∷ 11 ∷ []) k p 64 0 (omega arith, (omega arith, (omega arith, tt))) by (omega arith) (omega arith) e),
  λ e. cc,
)
checked-number (answered (history.missing a)) by =
    (λ e. absurd (omega (arith, other-code 68 64 a 0 (omega arith) (omega arith) e)), λ e. cc)
checked-number (answered (history.judged v)) by =
    (λ e. ap (λ (w : Verdict). answered (history.judged w)) (tells-passes v e), λ e. ap (reply_code finding_code) e)

-- missing and clash, of an atom below 2 to the 56
not-missing : (v : Verdict) (a : ℕ) → verdict_code v ≡ coded 68 a → ⊥
not-missing passes a e = omega (arith, other-code 64 68 0 a (omega arith) (omega arith) e)
not-missing (clash b) a e = omega (arith, other-code 65 68 b a (omega arith) (omega arith) e)
not-missing (broken r) a e = omega (arith, other-code 66 68 r a (omega arith) (omega arith) e)
not-missing (unfounded c) a e = omega (arith, other-code 67 68 c a (omega arith) (omega arith) e)

module _ (a : ℕ) (small : a < 72057594037927936) where
  missing-number : (r : Reply history.Finding) → RefusedBy (9 ∷ 10 ∷ 11 ∷ []) r
      → ((b : ℕ) → r ≡ answered (history.missing b) → b < 72057594037927936)
      → reply_code finding_code r ≡ coded 68 a ↔ r ≡ answered (history.missing a)
  missing-number (refused k p) by under = (
    λ e. absurd (no-refusal (9 ∷ 10 ∷ 11 ∷ []) k p 68 a (omega arith, (omega arith, (omega arith, tt))) by (omega arith) (omega arith) e),
    λ e. cc,
  )
  missing-number (answered (history.missing b)) by under = (
    λ e. ap (λ (x : ℕ). answered (history.missing x)) (same-value 68 b a (under b refl) small e),
    λ e. ap (reply_code finding_code) e,
  )
  missing-number (answered (history.judged v)) by under = (λ e. absurd (not-missing v a e), λ e. cc)

  clash-number : (r : Reply history.Finding) → RefusedBy (9 ∷ 10 ∷ 11 ∷ []) r
      → ((b : ℕ) → r ≡ answered (history.judged (clash b)) → b < 72057594037927936)
      → reply_code finding_code r ≡ coded 65 a ↔ r ≡ answered (history.judged (clash a))
  clash-number (refused k p) by under = (
    λ e. absurd (no-refusal (9 ∷ 10 ∷ 11 ∷ []) k p 65 a (omega arith, (omega arith, (omega arith, tt))) by (omega arith) (omega arith) e),
    λ e. cc,
  )
  clash-number (answered (history.missing b)) by under =
      (λ e. absurd (omega (arith, other-code 68 65 b a (omega arith) (omega arith) e)), λ e. cc)
  clash-number (answered (history.judged (clash b))) by under = (
    λ e. ap (λ (x : ℕ). answered (history.judged (clash x))) (same-value 65 b a (under b refl) small e),
    λ e. ap (reply_code finding_code) e,
  )
  clash-number (answered (history.judged passes)) by under =
      (λ e. absurd (omega (arith, other-code 64 65 0 a (omega arith) (omega arith) e)), λ e. cc)
  clash-number (answered (history.judged (broken r))) by under =
      (λ e. absurd (omega (arith, other-code 66 65 r a (omega arith) (omega arith) e)), λ e. cc)
  clash-number (answered (history.judged (unfounded c))) by under =
      (λ e. absurd (omega (arith, other-code 67 65 c a (omega arith) (omega arith) e)), λ e. cc)

checked : (text : List ℕ) (d : Draft) (rest : List ℕ) (lines : ℕ) → described 64 text ≡ answered (read d rest lines)
    → (vs : List ℕ) (room : ℕ)
    → checked_text text vs room ≡ reply_code finding_code (history.checked (description_of d) d.laws 64 vs room)
unfolding checked_text
checked text d rest lines is vs room = rw is refl

module _ (text : List ℕ) (d : Draft) (rest : List ℕ) (lines : ℕ) (is : described 64 text ≡ answered (read d rest lines))
    (vs : List ℕ) (size : length vs ≡ atoms d) (one : Each OneValue vs) where
  pub complete : Complete (description_of d) d.laws 64 vs
  complete = record { records = fits text d rest lines is; horizon = in-time text d rest lines is; size = size; one_value = one }

  translated : (old new : List ℕ) → new ≡ table_of_text text old → TranslatesExactly (description_of d) d.laws 64 old new
  unfolding table_of_text
  translated old new e = translates-exactly (description_of d) d.laws 64 old new (rw is at e)

  passes-path : (room : ℕ) → length (words_for d) ≤ room → checked_text text vs room ≡ coded 64 0 ↔ IsPath d vs
  passes-path room enough =
      rw (checked text d rest lines is vs room)
      (Iff.trans
      (checked-number (history.checked (description_of d) d.laws 64 vs room) (which-refusals.check text d rest lines vs room is))
      ((demand-3 (description_of d) d.laws 64 vs complete).history-passes room enough))

  holds-path : reply_code formula_code (completion.answer vs (words_for d)) ≡ coded 72 0 ↔ IsPath d vs
  holds-path =
      Iff.trans (holds-number (completion.answer vs (words_for d)) (which-refusals.completion vs (words_for d)))
      (by-completion (description_of d) d.laws 64 vs complete)

pub text-translates : (text old new : List ℕ) → new ≡ table_of_text text old → TextTranslates text old new
unfolding TextTranslates TranslatesExactly
text-translates text old new e d rest lines is vs size one enough =
    let both = translated text d rest lines is vs size one old new e vs (complete text d rest lines is vs size one) enough in (
      Iff.trans (passes-number (engine.answer vs _) (which-refusals.engine vs _)) both.0,
      Iff.trans (holds-number (completion.answer vs _) (which-refusals.completion vs _)) both.1,
    )

pub text-checks : (text vs : List ℕ) (room number : ℕ) → number ≡ checked_text text vs room → TextChecks text vs room number
unfolding TextChecks
text-checks text vs room number e d rest lines is size one enough =
    rw e (by-path, Iff.trans by-path (Iff.symm (holds-path text d rest lines is vs size one)))
  where
    by-path : checked_text text vs room ≡ coded 64 0 ↔ IsPath d vs
    by-path = passes-path text d rest lines is vs size one room enough

module _ (text : List ℕ) (d : Draft) (rest : List ℕ) (lines : ℕ) (is : described 64 text ≡ answered (read d rest lines))
    (vs : List ℕ) (size : length vs ≡ atoms d) (bytes : Each (λ v. v ≤ 3) vs) (room : ℕ) (enough : length (words_for d) ≤ room) where
  taken : NothingRefused (description_of d) d.laws 64 vs room
  taken = record {
    records = fits text d rest lines is;
    horizon = in-time text d rest lines is;
    enough = enough;
    size = size;
    bytes = bytes;
  }

  abbrev reply : Reply history.Finding
  reply = history.checked (description_of d) d.laws 64 vs room

  said : ByValues vs reply
  said = by_values (description_of d) d.laws 64 vs room taken

  at_most : length vs ≤ 1024
  at_most = few (description_of d) d.laws 64 vs room taken

  by : RefusedBy (9 ∷ 10 ∷ 11 ∷ []) reply
  by = which-refusals.check text d rest lines vs room is

  numbered : NumberedByValues vs (reply_code finding_code reply)
  numbered = record {
    missing-exactly = λ a b. Iff.trans
        (missing-number a (omega (arith, at_most)) reply by (λ c e. omega (arith, at_most, ((said.missing-exactly c).0 e).0.0)))
        (said.missing-exactly a);
    clash-exactly = λ a b. Iff.trans
        (clash-number a (omega (arith, at_most)) reply by (λ c e. omega (arith, at_most, ((said.clash-exactly c).0 e).0.0)))
        (said.clash-exactly a);
  }

pub text-says-values : (text vs : List ℕ) (room number : ℕ) → number ≡ checked_text text vs room → TextSaysValues text vs room number
unfolding TextSaysValues
text-says-values text vs room number e d rest lines is size bytes enough =
    rw (e ∙ checked text d rest lines is vs room) (numbered text d rest lines is vs size bytes room enough)
