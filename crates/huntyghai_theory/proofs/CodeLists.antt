-- The codes of answers: a refusal's is its number, every other answer's its own.
-- Assumes nothing.
use mathlib.Core.Path.{◌≡◌, refl, sym, subst, ◌∙◌}
use mathlib.Core.Bool.{true}
use mathlib.Core.Logic.{⊎_elim}
use mathlib.Core.List.{List, [], ◌∷◌}
use Prim.Native.Nat.{ℕ, ◌%◌, ◌<◌}
use native.Mathlib.Omega.{arith}
use borrow.Author.Tests.{eqb-true}
use lib.Dec.{eqb}
use Rattle.basics.specs.Search.{Each, all}
use Rattle.basics.specs.Replies.{Reply, refused, answered}
use Rattle.basics.proofs.Tests.{not-both, or-iff, all-each}
use Rattle.answer_set_theory.specs.Verdicts.{Verdict, clash, broken, unfounded, passes}
use Rattle.answer_set_theory.specs.Answers.{answer}
use Rattle.completion_theory.specs.Findings as formulas
use Rattle.completion_theory.specs.Answers as completed
use Rattle.translation_rules.specs.Translated.{Written, written, outcome}
use Rattle.history_check.specs.Checks.{Finding, missing, judged, checked}
use Rattle.causal_reading.specs.Verdicts.{Causal, contradicted, uncaused, path}
use Rattle.causal_reading.specs.Readings.{reading}
use Rattle.description_lines.specs.Descriptions.{Taken, read, described, description_of}
use Rattle.history_reader.specs.Histories.{read_history, history_replied}
use Rattle.whole_inputs.specs.Inputs.{recorded_in}
use Rattle.whole_inputs.proofs.Known.{recorded-refused}
use Rattle.possible_refusals.specs.Refusals.{among, RefusedBy}
use Rattle.possible_refusals.proofs.Readers.{among-more}
use Rattle.possible_refusals.proofs.Checks.{which-refusals}
use Rattle.answer_codes.specs.Codes.{coded, reply_code, verdict_code, finding_code, causal_code, written_code, read_code}
use Rattle.answer_codes.specs.FormulaCodes.{formula_code}
use Rattle.huntyghai_theory.specs.Texts.{translated_taken, translated_text, checked_taken, checked_text, reading_of, reading_of_input}
use Rattle.huntyghai_theory.specs.CodeLists.{CodeAmong}

code_of : (k x : ℕ) → k < 256 → coded k x % 256 ≡ k
unfolding coded
code_of k x h = omega (arith, h)

-- a code that is listed, with any value
listed : (codes : List ℕ) (k x : ℕ) → k < 256 → among k codes ≡ true → CodeAmong codes (coded k x)
unfolding CodeAmong
listed codes k x h e = rw (code_of k x h) e

-- numbers among some that are all below a bound
pub below : (bound k : ℕ) (xs : List ℕ) → Each (λ x. x < bound) xs → among k xs ≡ true → k < bound
below bound k [] w q = absurd (not-both q refl)
below bound k (x ∷ xs) w q =
    ⊎_elim (λ (s : eqb k x ≡ true). rw (eqb-true k x s) w.0)
    (λ (later : among k xs ≡ true). below bound k xs w.1 later) ((or-iff (eqb k x) (among k xs)).0 q)

-- a refusal by some of the numbers, or an answer whose code is listed
reply-among : {A : Type 0} (numbers codes : List ℕ) (code : A → ℕ) (r : Reply A) → Each (λ x. x < 256) numbers
    → all (λ c. among c codes) numbers ≡ true
    → RefusedBy numbers r → ((a : A) → r ≡ answered a → CodeAmong codes (code a)) → CodeAmong codes (reply_code code r)
reply-among numbers codes code (refused number place) small within by of =
    listed codes number place (below 256 number numbers small by) (among-more numbers codes number within by)
reply-among numbers codes code (answered a) small within by of = of a refl

abbrev pub engine_codes : List ℕ
engine_codes = 10 ∷ 11 ∷ 12 ∷ 64 ∷ 65 ∷ 66 ∷ 67 ∷ []

pub set-codes : (vs ws : List ℕ) → CodeAmong engine_codes (reply_code verdict_code (answer vs ws))
set-codes vs ws =
    reply-among (10 ∷ 11 ∷ 12 ∷ []) engine_codes verdict_code (answer vs ws)
    (omega arith, (omega arith, (omega arith, tt))) refl (which-refusals.engine vs ws) (λ v _. of v)
  where
    of : (v : Verdict) → CodeAmong engine_codes (verdict_code v)
    of passes = listed engine_codes 64 0 (omega arith) refl
    of (clash a) = listed engine_codes 65 a (omega arith) refl
    of (broken r) = listed engine_codes 66 r (omega arith) refl
    of (unfounded c) = listed engine_codes 67 c (omega arith) refl

abbrev pub completion_codes : List ℕ
completion_codes = 10 ∷ 11 ∷ 12 ∷ 65 ∷ 68 ∷ 72 ∷ 73 ∷ []

abbrev pub level_codes : List ℕ
level_codes = 10 ∷ 11 ∷ 12 ∷ 13 ∷ 65 ∷ 68 ∷ 72 ∷ 73 ∷ []

-- the codes of what is found by the formulas are in every list that has these four
formula-codes : (codes : List ℕ) → all (λ c. among c codes) (65 ∷ 68 ∷ 72 ∷ 73 ∷ []) ≡ true
    → (f : formulas.FormulaFinding) → CodeAmong codes (formula_code f)
formula-codes codes within f = of f
  where
    each : Each (λ c. among c codes ≡ true) (65 ∷ 68 ∷ 72 ∷ 73 ∷ [])
    each = (all-each (λ c. among c codes) (65 ∷ 68 ∷ 72 ∷ 73 ∷ [])).0 within

    of : (g : formulas.FormulaFinding) → CodeAmong codes (formula_code g)
    of (formulas.missing a) = listed codes 68 a (omega arith) each.1.0
    of (formulas.clash a) = listed codes 65 a (omega arith) each.0
    of (formulas.fails h) = listed codes 73 _ (omega arith) each.1.1.1.0
    of formulas.holds = listed codes 72 0 (omega arith) each.1.1.0

pub completion-codes : (vs ws : List ℕ) → CodeAmong completion_codes (reply_code formula_code (completed.answer vs ws))
completion-codes vs ws =
    reply-among (10 ∷ 11 ∷ 12 ∷ []) completion_codes formula_code (completed.answer vs ws)
    (omega arith, (omega arith, (omega arith, tt))) refl
    (which-refusals.completion vs ws) (λ f _. formula-codes completion_codes refl f)

pub level-codes : (vs ws levels : List ℕ) → CodeAmong level_codes (reply_code formula_code (completed.answer_by_levels vs ws levels))
level-codes vs ws levels =
    reply-among (10 ∷ 11 ∷ 12 ∷ 13 ∷ []) level_codes formula_code (completed.answer_by_levels vs ws levels)
    (omega arith, (omega arith, (omega arith, (omega arith, tt)))) refl
    (which-refusals.levels vs ws levels) (λ f _. formula-codes level_codes refl f)

six-small : Each (λ (x : ℕ). x < 256) (1 ∷ 2 ∷ 3 ∷ 4 ∷ 5 ∷ 6 ∷ [])
six-small = (omega arith, (omega arith, (omega arith, (omega arith, (omega arith, (omega arith, tt))))))

abbrev pub translate_codes : List ℕ
translate_codes = 1 ∷ 2 ∷ 3 ∷ 4 ∷ 5 ∷ 6 ∷ 9 ∷ 96 ∷ []

pub translate-codes : (text : List ℕ) (room : ℕ) → CodeAmong translate_codes (translated_text text room)
unfolding translated_text
translate-codes text room =
    reply-among (1 ∷ 2 ∷ 3 ∷ 4 ∷ 5 ∷ 6 ∷ []) translate_codes (translated_taken room) (described 64 text) six-small refl
    (which-refusals.description 64 text) of
  where
    of : (t : Taken) → described 64 text ≡ answered t → CodeAmong translate_codes (translated_taken room t)
    of (read d rest lines) is =
        reply-among (9 ∷ []) translate_codes written_code (outcome (description_of d) d.laws 64 room) (omega arith, tt) refl
        (which-refusals.translation text d rest lines room is) (λ w _. of-written w)
      where
        of-written : (w : Written) → CodeAmong translate_codes (written_code w)
        of-written (written a r w) = listed translate_codes 96 _ (omega arith) refl

abbrev pub check_codes : List ℕ
check_codes = 1 ∷ 2 ∷ 3 ∷ 4 ∷ 5 ∷ 6 ∷ 9 ∷ 10 ∷ 11 ∷ 64 ∷ 65 ∷ 66 ∷ 67 ∷ 68 ∷ []

pub check-codes : (text vs : List ℕ) (room : ℕ) → CodeAmong check_codes (checked_text text vs room)
unfolding checked_text
check-codes text vs room =
    reply-among (1 ∷ 2 ∷ 3 ∷ 4 ∷ 5 ∷ 6 ∷ []) check_codes (checked_taken vs room) (described 64 text) six-small refl
    (which-refusals.description 64 text) of
  where
    of : (t : Taken) → described 64 text ≡ answered t → CodeAmong check_codes (checked_taken vs room t)
    of (read d rest lines) is =
        reply-among (9 ∷ 10 ∷ 11 ∷ []) check_codes finding_code (checked (description_of d) d.laws 64 vs room)
        (omega arith, (omega arith, (omega arith, tt))) refl
        (which-refusals.check text d rest lines vs room is) (λ f _. of-finding f)
      where
        of-finding : (f : Finding) → CodeAmong check_codes (finding_code f)
        of-finding (missing a) = listed check_codes 68 a (omega arith) refl
        of-finding (judged passes) = listed check_codes 64 0 (omega arith) refl
        of-finding (judged (clash a)) = listed check_codes 65 a (omega arith) refl
        of-finding (judged (broken r)) = listed check_codes 66 r (omega arith) refl
        of-finding (judged (unfounded c)) = listed check_codes 67 c (omega arith) refl

abbrev pub history_codes : List ℕ
history_codes = 1 ∷ 2 ∷ 3 ∷ 4 ∷ 5 ∷ 6 ∷ 7 ∷ 10 ∷ 112 ∷ []

pub history-codes : (description text : List ℕ) (room : ℕ)
    → CodeAmong history_codes (reply_code read_code (history_replied (read_history description text room)))
history-codes description text room = go (read_history description text room) (which-refusals.history description text room)
  where
    go : (r : Reply (List ℕ)) → RefusedBy (1 ∷ 2 ∷ 3 ∷ 4 ∷ 5 ∷ 6 ∷ 7 ∷ 10 ∷ []) r
        → CodeAmong history_codes (reply_code read_code (history_replied r))
    go (refused number place) h =
        listed history_codes number place
        (below 256 number (1 ∷ 2 ∷ 3 ∷ 4 ∷ 5 ∷ 6 ∷ 7 ∷ 10 ∷ [])
        (omega arith, (omega arith, (omega arith, (omega arith, (omega arith, (omega arith, (omega arith, (omega arith, tt))))))))
        h)
        (among-more (1 ∷ 2 ∷ 3 ∷ 4 ∷ 5 ∷ 6 ∷ 7 ∷ 10 ∷ []) history_codes number refl h)
    go (answered vs) h = listed history_codes 112 0 (omega arith) refl

abbrev pub causal_codes : List ℕ
causal_codes = 1 ∷ 2 ∷ 3 ∷ 4 ∷ 5 ∷ 6 ∷ 7 ∷ 11 ∷ 80 ∷ 81 ∷ 82 ∷ []

pub causal-codes : (input : List ℕ) → CodeAmong causal_codes (reading_of_input input)
unfolding reading_of_input
causal-codes input =
    reply-among (1 ∷ 2 ∷ 3 ∷ 4 ∷ 5 ∷ 6 ∷ 7 ∷ []) causal_codes (reading_of (described 64 input)) (recorded_in input)
    (omega arith, (omega arith, (omega arith, (omega arith, (omega arith, (omega arith, (omega arith, tt))))))) refl
    (which-refusals.input input)
    (λ vs e. of vs e (described 64 input) refl)
  where
    of-causal : (v : Causal) → CodeAmong causal_codes (causal_code v)
    of-causal path = listed causal_codes 80 0 (omega arith) refl
    of-causal (contradicted t l) = listed causal_codes 81 _ (omega arith) refl
    of-causal (uncaused t f) = listed causal_codes 82 _ (omega arith) refl

    of : (vs : List ℕ) → recorded_in input ≡ answered vs → (o : Reply Taken) → described 64 input ≡ o
        → CodeAmong causal_codes (reading_of o vs)
    of vs e (refused number place) is =
        let both = sym e ∙ recorded-refused input is in
        let z : ◌≡◌ {A = ℕ} 0 1 = cc in absurd (omega arith)
    of vs e (answered (read d rest lines)) is =
        reply-among (11 ∷ []) causal_codes causal_code (reading (description_of d) d.laws 64 vs) (omega arith, tt) refl
        (which-refusals.causal input d rest lines vs is e) (λ v _. of-causal v)

-- a number by what it is
pub as-listed : (codes : List ℕ) {number x : ℕ} → number ≡ x → CodeAmong codes x → CodeAmong codes number
as-listed codes e h = subst (CodeAmong codes) (sym e) h
