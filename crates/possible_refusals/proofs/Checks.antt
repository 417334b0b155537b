-- The numbers by which the engine, the judging by formulas and, behind a description that was taken, the translation, the history check and
-- the causal reading refuse. Besides, what is known of a whole input that the readers take.
-- Assumes nothing.
use mathlib.Core.Path.{◌≡◌, refl, sym, subst, ◌∙◌}
use mathlib.Core.Bool.{Bool, true, false}
use mathlib.Core.List.{List, [], ◌∷◌, append-nil}
use mathlib.Core.Option.{Option, none, some}
use Prim.Native.Nat.{ℕ, ◌-◌, ◌≤◌}
use native.Mathlib.Omega.{arith}
use borrow.Author.Tests.{eq-eqb, eqb-true}
use lib.Dec.{eqb}
use lib.ListN.{length}
use Rattle.basics.specs.Search.{Each, all, first}
use Rattle.basics.specs.Replies.{Reply, refused, answered, or_refuse}
use Rattle.basics.proofs.Tests.{all-each}
use Rattle.logic_programs.specs.Literals.{set_of, bad_value}
use Rattle.answer_set_theory.specs.Verdicts.{verdict}
use Rattle.logic_programs.specs.Words.{rules_of, bad_rule}
use Rattle.rule_tables.specs.Acceptance.{too_many_values, after_tests}
use Rattle.answer_set_theory.specs.Answers.{answer}
use Rattle.completion_theory.specs.Findings as findings
use Rattle.completion_theory.specs.LevelLists.{bad_levels}
use Rattle.completion_theory.specs.Answers as completed
use Rattle.action_language.specs.declared.Law.{Law}
use Rattle.action_language.specs.declared.Description.{Description}
use Rattle.action_language.specs.Laws.{laws_of}
use Rattle.action_language.specs.Acceptance.{bad_record, bad_horizon}
use Rattle.action_language.proofs.Laws.{accepted-counts, accepted-few, accepted-horizon, accepted-law}
use Rattle.translation_rules.specs.Translated.{Written, written, rules_for, table_for, too_short, outcome, after_translation}
use Rattle.translation_rules.proofs.Outcomes.{accepted-written}
use Rattle.translation_bounds.proofs.Bounds.{at-most-30912}
use Rattle.history_check.specs.Checks.{finding, checked}
use Rattle.history_check.proofs.Judging.{finding-answered}
use Rattle.causal_reading.specs.Verdicts.{causal_verdict}
use Rattle.causal_reading.specs.Readings.{not_one_value, reading}
use Rattle.description_lines.specs.LineSteps.{Draft}
use Rattle.description_lines.specs.Descriptions.{read, described, description_of}
use Rattle.history_values.specs.Values.{ActionsValued}
use Rattle.history_reader.specs.Histories.{atoms, read_history}
use Rattle.history_reader.proofs.Kept.{OfTaken}
use Rattle.reader_bounds.specs.Accepts.{Accepted}
use Rattle.reader_bounds.proofs.Accepting.{taken-accepted}
use Rattle.reader_bounds.proofs.Recording.{taken-valued}
use Rattle.whole_inputs.specs.Inputs.{moved_by, recorded_in}
use Rattle.possible_refusals.specs.Refusals.{among, RefusedBy, WhichRefusals}
use Rattle.possible_refusals.proofs.Readers.{refused-more, described-by, history-by, input-by, taken-history-by, taken-input-by}

-- what a search refuses, and what comes next
or-refused : {A : Type 0} (numbers : List ℕ) (o : Option ℕ) (number : ℕ) (next : Reply A) → among number numbers ≡ true
    → (o ≡ none → RefusedBy numbers next)
    → RefusedBy numbers (or_refuse o number next)
or-refused numbers (some place) number next e h = e
or-refused numbers none number next e h = h refl

-- 10, 11 and 12 are tested, and what comes next refuses by one of the numbers too
tests_by : {A : Type 0} (numbers : List ℕ) (vs ws : List ℕ) (next : Reply A)
    → all (λ k. among k numbers) (10 ∷ 11 ∷ 12 ∷ []) ≡ true → RefusedBy numbers next
    → RefusedBy numbers (after_tests vs ws next)
tests_by numbers vs ws next within h =
    let (ten, (eleven, (twelve, _))) = (all-each (λ k. among k numbers) (10 ∷ 11 ∷ 12 ∷ [])).0 within in
    or-refused numbers (too_many_values vs) 10 _ ten
    (λ _. or-refused numbers (bad_value vs) 11 _ eleven (λ _. or-refused numbers (bad_rule (length vs) ws) 12 _ twelve (λ _. h)))

engine-by : (vs ws : List ℕ) → RefusedBy (10 ∷ 11 ∷ 12 ∷ []) (answer vs ws)
unfolding answer
engine-by vs ws = tests_by (10 ∷ 11 ∷ 12 ∷ []) vs ws (answered (verdict (length vs) (rules_of ws) (set_of vs))) refl tt

completion-by : (vs ws : List ℕ) → RefusedBy (10 ∷ 11 ∷ 12 ∷ []) (completed.answer vs ws)
unfolding completed.answer
completion-by vs ws = tests_by (10 ∷ 11 ∷ 12 ∷ []) vs ws (answered (findings.formula_finding vs ws)) refl tt

levels-by : (vs ws levels : List ℕ) → RefusedBy (10 ∷ 11 ∷ 12 ∷ 13 ∷ []) (completed.answer_by_levels vs ws levels)
unfolding completed.answer_by_levels
levels-by vs ws levels =
    tests_by (10 ∷ 11 ∷ 12 ∷ 13 ∷ []) vs ws _ refl
    (or-refused (10 ∷ 11 ∷ 12 ∷ 13 ∷ []) (bad_levels (length vs) ws levels) 13 (answered (findings.formula_finding vs ws)) refl (λ _. tt))

-- a description that was taken, with its own laws
module _ (text : List ℕ) (d : Draft) (rest : List ℕ) (lines : ℕ) (is : described 64 text ≡ answered (read d rest lines)) where
  abbrev D : Description
  D = description_of d

  taken : Accepted 64 d
  taken = taken-accepted 64 text d rest lines is

  pub fits : bad_record D d.laws 64 ≡ none
  fits = subst (λ (ls : List Law). bad_record D ls 64 ≡ none) (append-nil d.laws) (taken.fits [] 64 (omega (arith, taken.few)))

  pub in-time : bad_horizon d.horizon ≡ none
  in-time = taken.time

  pub small-table : length (table_for D d.laws) ≤ 30912
  small-table =
      let counts = accepted-counts D d.laws 64 fits in
      at-most-30912 D.fluents D.actions D.horizon (laws_of D d.laws) counts.1 counts.2
      (accepted-horizon D.horizon in-time).1
      (accepted-few D d.laws 64 fits) (accepted-law D d.laws 64 fits)

  pub is-written : (room : ℕ) → 30912 ≤ room
      → outcome D d.laws 64 room ≡ answered (written (atoms d) (length (rules_for D d.laws)) (length (table_for D d.laws)))
  is-written room large = accepted-written D d.laws 64 room fits in-time (omega (arith, small-table))

  translation-by : (room : ℕ) → RefusedBy (9 ∷ []) (outcome D d.laws 64 room)
  unfolding outcome
  translation-by room = rw (fits, in-time) (or-refused (9 ∷ []) (too_short (length (table_for D d.laws)) room) 9 _ refl (λ _. tt))

  large-by : (room : ℕ) → 30912 ≤ room → RefusedBy [] (outcome D d.laws 64 room)
  large-by room large = rw (is-written room large) tt

  -- the engine's refusals never come
  finding-by : (vs : List ℕ) (room : ℕ) {a r w : ℕ} → outcome D d.laws 64 room ≡ answered (written a r w)
      → length vs ≡ a → bad_value vs ≡ none
      → RefusedBy (9 ∷ 10 ∷ 11 ∷ []) (finding vs (table_for D d.laws))
  finding-by vs room e size small = rw (finding-answered D d.laws 64 room e vs size small) tt

  check-by : (vs : List ℕ) (room : ℕ) → RefusedBy (9 ∷ 10 ∷ 11 ∷ []) (checked D d.laws 64 vs room)
  unfolding checked
  check-by vs room = by-outcome (outcome D d.laws 64 room) refl (translation-by room)
    where
      by-outcome : (o : Reply Written) → outcome D d.laws 64 room ≡ o → RefusedBy (9 ∷ []) o
          → RefusedBy (9 ∷ 10 ∷ 11 ∷ []) (after_translation o vs (finding vs (table_for D d.laws)))
      by-outcome (refused number place) e h = refused-more {A = Written} (9 ∷ []) (9 ∷ 10 ∷ 11 ∷ []) refl (refused number place) h
      by-outcome (answered (written a r w)) e h = by_length (eqb (length vs) a) refl
        where
          by_length : (b : Bool) → eqb (length vs) a ≡ b
              → RefusedBy (9 ∷ 10 ∷ 11 ∷ []) (after_translation (answered (written a r w)) vs (finding vs (table_for D d.laws)))
          by_length false q = rw q refl
          by_length true q =
              rw q
              (or-refused (9 ∷ 10 ∷ 11 ∷ []) (bad_value vs) 11 (finding vs (table_for D d.laws)) refl
              (λ small. finding-by vs room e (eqb-true (length vs) a q) small))

-- a whole input that the readers take
module _ (input : List ℕ) (d : Draft) (rest : List ℕ) (lines : ℕ) (vs : List ℕ)
    (is : described 64 input ≡ answered (read d rest lines)) (e : recorded_in input ≡ answered vs) where
  moved-answered : (r : Reply (List ℕ)) → moved_by lines r ≡ answered vs → r ≡ answered vs
  moved-answered (refused number place) h = let z : ◌≡◌ {A = ℕ} 0 1 = cc in absurd (omega arith)
  moved-answered (answered xs) h = h

  from-history : read_history input rest (atoms d) ≡ answered vs
  unfolding recorded_in
  from-history = moved-answered (read_history input rest (atoms d)) (rw is at e)

  pub values-count : length vs ≡ atoms d
  values-count = let v = taken-valued input rest (atoms d) vs from-history in v.count ∙ sym v.fills

  pub values-small : Each (λ v. v ≤ 3) vs
  values-small = (taken-valued input rest (atoms d) vs from-history).each

  pub values-acted : ActionsValued d.fluents (length d.names - d.fluents) d.horizon vs
  values-acted =
      let v = taken-valued input rest (atoms d) vs from-history in
      subst (OfTaken (λ x. ActionsValued x.fluents (length x.names - x.fluents) x.horizon vs)) (sym v.is ∙ is) v.acted

  pub is_read : reading (description_of d) d.laws 64 vs
      ≡ or_refuse (first not_one_value 0 vs) 11
      (answered (causal_verdict d.fluents (description_of d).actions d.horizon (laws_of (description_of d) d.laws) vs))
  unfolding reading
  is_read = rw (fits input d rest lines is, in-time input d rest lines is, eq-eqb (length vs) (atoms d) values-count)

  causal-by : RefusedBy (11 ∷ []) (reading (description_of d) d.laws 64 vs)
  causal-by = rw is_read (or-refused (11 ∷ []) (first not_one_value 0 vs) 11 _ refl (λ _. tt))

pub which-refusals : WhichRefusals
which-refusals = record {
  engine = engine-by;
  completion = completion-by;
  levels = levels-by;
  description = λ lent text. described-by lent text;
  history = history-by;
  input = input-by;
  taken-history = λ text d rest lines behind room is. taken-history-by text d rest lines is behind room;
  taken-input = λ bytes d rest lines is. taken-input-by bytes d rest lines is;
  translation = λ text d rest lines room is. translation-by text d rest lines is room;
  large-table = λ text d rest lines room is large. large-by text d rest lines is room large;
  check = λ text d rest lines vs room is. check-by text d rest lines is vs room;
  causal = λ input d rest lines vs is e. causal-by input d rest lines vs is e;
}
