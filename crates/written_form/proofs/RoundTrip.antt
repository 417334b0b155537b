-- Every written description whose names are used as they were declared is read back, whatever follows it.
-- Assumes nothing.
use mathlib.Core.Path.{◌≡◌, refl, ap, ◌∙◌}
use mathlib.Core.Bool.{true}
use mathlib.Core.List.{List, [], ◌∷◌, ◌++◌, append-nil, append_assoc}
use mathlib.Core.Option.{none}
use Prim.Native.Nat.{ℕ, suc, ◌+◌, ◌-◌, ◌≤◌, ◌<◌}
use native.Mathlib.Omega.{arith}
use borrow.Author.Tests.{le-ltb}
use lib.ListN.{length, length-append}
use Rattle.basics.proofs.Tests.{each_append}
use Rattle.basics.specs.Replies.{answered}
use Rattle.action_language.specs.declared.Law.{Law}
use Rattle.written_form.specs.Writable.{Writable, laws_lines, lines_written, draft_written, AreNames, Distinct, draft}
use Rattle.text_forms.specs.Bytes.{newline}
use Rattle.text_forms.specs.Lines.{horizon_key, fluent_key, action_key, static_key, end_key, no_key}
use Rattle.spelling.specs.Spelling.{is_name}
use Rattle.text_forms.specs.Names.{declared_at}
use Rattle.description_lines.specs.LineSteps.{Due, horizon_due, first_fluent_due, fluent_due, action_due, law_due, Draft}
use Rattle.description_lines.specs.LineSteps.{allowed, next, line_step}
use Rattle.description_lines.specs.Descriptions.{blank, read, lines_from, described}
use Rattle.written_form.specs.Writing.{Form, as_declared, line_text, horizon_text, laws_text, names_text, description_text}
use Rattle.written_form.proofs.WrittenNames.{distinct-front, name-lacks, undeclared}
use Rattle.written_form.proofs.WrittenSteps.{horizon-clean, horizon-step, fluent-step, action-step, Passes}
use Rattle.written_form.proofs.WrittenSteps.{nothing-passes, line-passes, then, ends, due_behind, same-due}
use Rattle.written_form.proofs.WrittenSteps.{later-due, may-behind}
use Rattle.written_form.proofs.Written.{written-laws}
use Rattle.written_form.proofs.WrittenLaws.{laws-pass}
use Rattle.written_form.proofs.WrittenSizes.{description-size}

-- names: the fluents or the actions, where `at` gives the draft by the names declared so far
module _ (lent key : ℕ) (known : key < no_key) (later : Due) (may-later : allowed later key ≡ true) (at : List (List ℕ) → Draft) (limit : ℕ)
    (step : (due : Due) (done : List (List ℕ)) (x : List ℕ) → allowed due key ≡ true → length done < limit → is_name x ≡ true
    → declared_at done x ≡ none → line_step lent due (at done) key x ≡ next later (at (done ++ (x ∷ [])))) where
  names-pass : (xs done : List (List ℕ)) (due : Due) → allowed due key ≡ true → length done + length xs ≤ limit → AreNames xs
      → Distinct (done ++ xs) → Passes lent (length xs) (names_text key xs) due (at done) (due_behind due later xs) (at (done ++ xs))
  names-pass [] done due may few are distinct = rw (append-nil done) (nothing-passes due (at done))
  names-pass (x ∷ xs) done due may few are distinct =
      let here : Passes lent 1 (line_text key x) due (at done) later (at (done ++ (x ∷ []))) =
      line-passes due (at done) key x known (name-lacks newline refl x are.0)
      (step due done x may (omega arith) are.0 (undeclared done x xs distinct)) in
      let shape = append_assoc done (x ∷ []) xs in
      let rest =
      names-pass xs (done ++ (x ∷ [])) later may-later (omega (arith, length-append done (x ∷ []))) are.1 (rw shape distinct) in
      then here (rw (shape, same-due later xs) at rest) (suc (length xs)) (omega arith)

longer : (done : List (List ℕ)) (x : List ℕ) → length (done ++ (x ∷ [])) ≡ suc (length done)
longer done x = omega (arith, length-append done (x ∷ []))

module _ (lent T : ℕ) (fluents actions : List (List ℕ)) (forms : ℕ → Form) (ls : List Law) (w : Writable lent T fluents actions ls) where
  due_after_actions : Due
  due_after_actions = due_behind fluent_due action_due actions

  -- all lines but the end line
  body-passes : Passes lent (1 + length fluents + length actions + laws_lines forms 0 ls)
      (line_text horizon_key (horizon_text T) ++ names_text fluent_key fluents ++ names_text action_key actions
      ++ laws_text (fluents ++ actions) forms as_declared 0 ls)
      horizon_due blank (due_behind due_after_actions law_due ls) (draft_written T fluents actions ls)
  unfolding due_after_actions
  body-passes =
      let names = fluents ++ actions in
      let n = length fluents in
      let (are-fluents, are-actions) = (each_append (λ x. is_name x ≡ true) fluents actions).0 w.are-names in
      let top = line-passes horizon_due blank horizon_key (horizon_text T) (omega arith) (horizon-clean T)
      (horizon-step lent horizon_due blank T w.horizon-from w.horizon-to refl) in
      let first = names-pass lent fluent_key (omega arith) fluent_due refl (λ done. draft T (length done) done []) 24
      (λ due done x may few name new. rw (longer done x) (fluent-step lent due (draft T (length done) done []) x may few name new))
      fluents [] first_fluent_due refl (omega (arith, w.few-fluents)) are-fluents (distinct-front fluents actions w.distinct) in
      let second = names-pass lent action_key (omega arith) action_due refl (λ done. draft T n done []) (n + 8)
      (λ due done x may few name new. action-step lent due (draft T n done []) x may few name new)
      actions fluents fluent_due refl (omega (arith, w.few-actions)) are-actions w.distinct in
      let third =
      laws-pass lent T n names w.are-names w.distinct (omega (arith, length-append fluents actions)) forms 0 ls [] due_after_actions
      (may-behind fluent_due action_due actions static_key refl refl)
      (omega (arith, w.few-laws, w.held-laws)) (written-laws lent T fluents actions ls w) w.laws-tidy in
      then (then (then top (rw (later-due first_fluent_due fluent_due fluents w.some-fluent) at first) (1 + n) refl)
      second (1 + n + length actions) refl) third _ refl

  -- the written description is read back, and what follows it is left; under 20,000 bytes are written, so 65,535 are not passed
  pub read-declared : (more : List ℕ) → length more ≤ 45535
      → described lent (description_text T fluents actions forms as_declared ls ++ more)
      ≡ answered (read (draft_written T fluents actions ls) more (lines_written fluents actions forms ls))
  unfolding described description_text due_after_actions
  read-declared more few =
      let text = description_text T fluents actions forms as_declared ls in
      let body =
      line_text horizon_key (horizon_text T) ++ names_text fluent_key fluents ++ names_text action_key actions
      ++ laws_text (fluents ++ actions) forms as_declared 0 ls in
      let lines = 1 + length fluents + length actions + laws_lines forms 0 ls in
      let all = length (text ++ more) in
      let (enough, size) = description-size lent T fluents actions forms ls w in
      let total = length-append text more in
      let fuel : suc all ≡ lines + suc (all - lines) = omega arith in
      rw (le-ltb 65535 all (omega arith))
      (
      ap (λ k. lines_from k lent 1 horizon_due blank (text ++ more)) fuel
      ∙ ap (lines_from (lines + suc (all - lines)) lent 1 horizon_due blank) (append_assoc body (line_text end_key []) more)
      ∙ body-passes.run (suc (all - lines)) 1 (line_text end_key [] ++ more)
      ∙ ends lent (due_behind due_after_actions law_due ls) (draft_written T fluents actions ls)
      (may-behind due_after_actions law_due ls end_key (may-behind fluent_due action_due actions end_key refl refl) refl)
      (all - lines) (lines + 1) more
      )
