-- A written history is read back, however the names are spelled where they are used, in it and in the description.
-- Assumes nothing.
use mathlib.Core.Path.{◌≡◌, refl, sym, ap, ◌∙◌}
use mathlib.Core.Bool.{Bool, true}
use mathlib.Core.List.{List, [], ◌++◌}
use Prim.Native.Nat.{ℕ, zero, suc, ◌≤◌}
use lib.ListN.{length, take, drop}
use Rattle.basics.specs.Replies.{Reply, answered}
use Rattle.action_language.specs.Atoms.{atom_count}
use Rattle.action_language.specs.declared.Law.{Law}
use Rattle.text_forms.specs.Lines.{state_key, act_key, end_key}
use Rattle.history_values.specs.Values.{ActionsValued}
use Rattle.history_reader.specs.Histories.{read_history}
use Rattle.written_form.specs.Writing.{Form, Spelling, as_declared, line_text, list_text, description_text}
use Rattle.written_form.specs.Writable.{AreNames, Writable}
use Rattle.written_form.specs.HistoryWriting.{codes_from, steps_text, values_text, every_action, only_done, actions_or_false}
use Rattle.written_form.specs.Respelling.{InCapitals, Respelled, same_text, used-line}
use Rattle.written_form.proofs.WrittenNames.{plains}
use Rattle.written_form.proofs.WrittenLists.{list-lacks-newline}
use Rattle.written_form.proofs.WrittenValues.{Values, actions-valued}
use Rattle.written_form.proofs.HistoryTrip.{history-declared}
use Rattle.written_form.proofs.Respelled.{history-alike}
use Rattle.written_form.proofs.SpelledDescription.{list-spelled, description-respelled}

module _ (names : List (List ℕ)) (are : AreNames names) (spell : Spelling) (any : InCapitals spell) (choice : ℕ → ℕ → Bool) (n m : ℕ) where
  steps-respelled : (t k : ℕ) (vs : List ℕ)
      → Respelled (steps_text names as_declared choice n m t k vs) (steps_text names spell choice n m t k vs)
  steps-respelled t zero vs =
      let cs = codes_from (λ i. true) 0 (take n vs) in
      used-line state_key (list_text names plains cs) (list_text names (spell t 0) cs) (line_text end_key [])
      (line_text end_key []) refl (list-lacks-newline names are cs)
      (list-spelled names (spell t 0) (any t 0) cs) (same_text (line_text end_key []))
  steps-respelled t (suc k) vs =
      let cs = codes_from (λ i. true) 0 (take n vs) in
      let acts = codes_from (choice t) n (take m (drop n vs)) in
      let rest = drop m (drop n vs) in
      used-line state_key (list_text names plains cs) (list_text names (spell t 0) cs) _ _ refl
      (list-lacks-newline names are cs) (list-spelled names (spell t 0) (any t 0) cs)
      (used-line act_key (list_text names plains acts) (list_text names (spell t 1) acts) _ _ refl (list-lacks-newline names are acts)
      (list-spelled names (spell t 1) (any t 1) acts) (steps-respelled (suc t) k rest))

module _ (T : ℕ) (fluents actions : List (List ℕ)) (forms : ℕ → Form) (spell spell' : Spelling) (ls : List Law) (vs : List ℕ) where
  -- what is read of the values as they are written, by the names of the description as it is written, whatever follows that
  abbrev pub read_back : List ℕ → (ℕ → ℕ → Bool) → Reply (List ℕ)
  read_back more choice =
      read_history (description_text T fluents actions forms spell ls ++ more) (values_text T fluents actions spell' choice vs) (length vs)

  module _ (any : InCapitals spell) (any' : InCapitals spell') (lent : ℕ) (w : Writable lent T fluents actions ls) (vals : Values vs)
      (count : length vs ≡ atom_count (length fluents) (length actions) T) (more : List ℕ) (few : length more ≤ 45535) where
    -- an action's 0 is read back as false, and all else as it is
    pub history-read : (choice : ℕ → ℕ → Bool) → read_back more choice ≡ answered (actions_or_false (length fluents) (length actions) T vs)
    unfolding values_text
    history-read choice =
        sym
        (history-alike (description_text T fluents actions forms as_declared ls ++ more)
        (description_text T fluents actions forms spell ls ++ more)
        (values_text T fluents actions as_declared choice vs) (values_text T fluents actions spell' choice vs) (length vs)
        (description-respelled T fluents actions forms spell any ls w.are-names more)
        (steps-respelled (fluents ++ actions) w.are-names spell' any' choice (length fluents) (length actions) 0 T vs))
        ∙ history-declared T fluents actions forms ls vs lent w vals count more few choice

    -- where no action is 0, the values are read back whichever false actions are listed: so also where every one is, or none
    module _ (valued : ActionsValued (length fluents) (length actions) T vs) where
      pub history-written : (choice : ℕ → ℕ → Bool) → read_back more choice ≡ answered vs
      history-written choice = history-read choice ∙ ap answered (actions-valued (length fluents) (length actions) T vs valued)

      pub history-written-every : read_back more every_action ≡ answered vs
      history-written-every = history-written every_action

      pub history-written-done : read_back more only_done ≡ answered vs
      history-written-done = history-written only_done
