-- What the round trip says of the readers' answers: a written description is accepted, its record and laws are left, and the
-- names shown are those declared, however they are spelled where they are used.
-- Assumes nothing.
use mathlib.Core.Path.{◌≡◌, refl, ap, ◌∙◌}
use mathlib.Core.Bool.{Bool, true, false, cond}
use mathlib.Core.List.{List, [], ◌∷◌, ◌++◌, append-nil}
use Prim.Native.Nat.{ℕ, ◌-◌, ◌≤◌}
use native.Mathlib.Omega.{arith}
use borrow.Author.Tests.{ltb-true, ltb-false}
use lib.Dec.{ltb}
use lib.ListN.{length, get_or, drop, length-append, get_or-append, get_or-eq_default}
use lib.Seq.{get_or-append-add}
use Rattle.basics.specs.Replies.{refused, answered}
use Rattle.action_language.specs.declared.Law.{Law}
use Rattle.written_form.specs.Writable.{Writable, lines_written, draft_written}
use Rattle.spelling.specs.Spelling.{is_name}
use Rattle.description_lines.specs.Descriptions.{read, described}
use Rattle.description_lines.specs.Answers.{behind, replied, record_of, laws_left}
use Rattle.shown_names.specs.Shown.{fluent_name, action_name, shown_by, shown_fluent, shown_action}
use Rattle.written_form.specs.Writing.{Form, Spelling, description_text}
use Rattle.written_form.specs.Respelling.{InCapitals}
use Rattle.written_form.proofs.SpelledDescription.{read-written}

-- the laws lent count only for the law records
pub any_lent : (lent lent' T : ℕ) (fluents actions : List (List ℕ)) (ls : List Law) → length ls ≤ lent' → Writable lent T fluents actions ls
    → Writable lent' T fluents actions ls
any_lent lent lent' T fluents actions ls held w = record {
  horizon-from = w.horizon-from;
  horizon-to = w.horizon-to;
  some-fluent = w.some-fluent;
  few-fluents = w.few-fluents;
  few-actions = w.few-actions;
  are-names = w.are-names;
  distinct = w.distinct;
  few-laws = w.few-laws;
  held-laws = held;
  laws-fit = w.laws-fit;
  laws-tidy = w.laws-tidy;
}

-- there is such a description: one fluent, a
pub smallest : (lent : ℕ) → Writable lent 1 ((97 ∷ []) ∷ []) [] []
unfolding is_name
smallest lent = record {
  horizon-from = omega arith;
  horizon-to = omega arith;
  some-fluent = omega arith;
  few-fluents = omega arith;
  few-actions = omega arith;
  are-names = (refl, tt);
  distinct = (tt, tt);
  few-laws = omega arith;
  held-laws = omega arith;
  laws-fit = tt;
  laws-tidy = tt;
}

shown-in-front : (xs ys : List (List ℕ)) (i : ℕ) → cond (ltb i (length xs)) (get_or (xs ++ ys) i []) [] ≡ get_or xs i []
shown-in-front xs ys i = go (ltb i (length xs)) refl
  where
    go : (b : Bool) → ltb i (length xs) ≡ b → cond b (get_or (xs ++ ys) i []) [] ≡ get_or xs i []
    go true e = get_or-append xs ys [] i (ltb-true i (length xs) e)
    go false e = rw (get_or-eq_default xs [] (ltb-false i (length xs) e))

module _ (lent T : ℕ) (fluents actions : List (List ℕ)) (forms : ℕ → Form) (spell : Spelling) (any : InCapitals spell)
    (ls : List Law) (w : Writable lent T fluents actions ls) (more : List ℕ)
    (few : length more ≤ 45535) where
  is_read : described lent (description_text T fluents actions forms spell ls ++ more)
      ≡ answered (read (draft_written T fluents actions ls) more (lines_written fluents actions forms ls))
  is_read = read-written T fluents actions forms spell any ls lent w more few

  -- no refusal
  pub reader-accepts : (k place : ℕ) → described lent (description_text T fluents actions forms spell ls ++ more) ≡ refused k place → ⊥
  reader-accepts k place e =
      let is = is_read in
      let z : ◌≡◌ {A = ℕ} 0 1 = cc in omega arith

  -- the description takes its own bytes and lines
  pub reply-written : replied (description_text T fluents actions forms spell ls ++ more)
      (described lent (description_text T fluents actions forms spell ls ++ more))
      ≡ answered (behind (length (description_text T fluents actions forms spell ls)) (lines_written fluents actions forms ls))
  reply-written =
      ap (replied (description_text T fluents actions forms spell ls ++ more)) is_read
      ∙ ap (λ n. answered (behind n (lines_written fluents actions forms ls)))
      (omega (arith, length-append (description_text T fluents actions forms spell ls) more))

  pub record-written : record_of (described lent (description_text T fluents actions forms spell ls ++ more))
      ≡ record { fluents = length fluents; actions = length actions; laws = length ls; horizon = T }
  record-written =
      let count : length (fluents ++ actions) - length fluents ≡ length actions = omega (arith, length-append fluents actions) in
      ap record_of is_read ∙ rw count

  pub laws-written : (old : List Law)
      → laws_left (described lent (description_text T fluents actions forms spell ls ++ more)) old ≡ ls ++ drop (length ls) old
  laws-written old = ap (λ o. laws_left o old) is_read

  is-shown : described 64 (description_text T fluents actions forms spell ls ++ more)
      ≡ answered (read (draft_written T fluents actions ls) more (lines_written fluents actions forms ls))
  is-shown = read-written T fluents actions forms spell any ls 64 (any_lent lent 64 T fluents actions ls w.few-laws w) more few

  -- a number that nothing declares shows the empty name
  pub shown-fluent : (f : ℕ) → shown_fluent (description_text T fluents actions forms spell ls ++ more) f ≡ get_or fluents f []
  unfolding shown_fluent
  shown-fluent f = ap (λ o. shown_by fluent_name o f) is-shown ∙ shown-in-front fluents actions f

  pub shown-action : (k : ℕ) → shown_action (description_text T fluents actions forms spell ls ++ more) k ≡ get_or actions k []
  unfolding shown_action
  shown-action k = ap (λ o. shown_by action_name o k) is-shown ∙ get_or-append-add fluents actions k []

-- the same where nothing follows
pub shown-name : (lent T : ℕ) (fluents actions : List (List ℕ)) (forms : ℕ → Form) (spell : Spelling) → InCapitals spell
    → (ls : List Law) → Writable lent T fluents actions ls → (i : ℕ)
    → (shown_fluent (description_text T fluents actions forms spell ls) i ≡ get_or fluents i [])
    × (shown_action (description_text T fluents actions forms spell ls) i ≡ get_or actions i [])
shown-name lent T fluents actions forms spell any ls w i =
    let whole = append-nil (description_text T fluents actions forms spell ls) in (
      rw whole at (shown-fluent lent T fluents actions forms spell any ls w [] (omega arith) i),
      rw whole at (shown-action lent T fluents actions forms spell any ls w [] (omega arith) i),
    )
