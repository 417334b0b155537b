-- Every written history whose names are used as they were declared is read back, whichever false actions are listed.
-- Assumes nothing.
use mathlib.Core.Path.{◌≡◌, refl, sym, ap, ◌∙◌}
use mathlib.Core.Bool.{Bool, true}
use mathlib.Core.List.{List, [], ◌++◌, map, append-nil, append_assoc}
use Prim.Native.Nat.{ℕ, zero, suc, ◌+◌, ◌-◌, ◌*◌, ◌≤◌, ◌<◌}
use native.Mathlib.Omega.{arith}
use borrow.Author.Tests.{le-ltb, eq-eqb}
use lib.ListN.{length, get_or, take, drop, replicate, length-append, length-map, length-take, length-drop}
use lib.ListN.{take-append-drop, drop_of_length-le}
use lib.Seq.{take_all, length-take-le}
use Rattle.basics.proofs.Tests.{each_map, each_append}
use Rattle.basics.specs.Replies.{Reply, answered}
use Rattle.action_language.specs.Atoms.{atom_count}
use Rattle.action_language.specs.declared.Law.{Law}
use Rattle.written_form.specs.Writable.{Writable, draft_written, AreNames, Distinct}
use Rattle.text_forms.specs.Lines.{keys, no_key, state_key, act_key, end_key, first_line}
use Rattle.text_forms.specs.Lists.{Listed}
use Rattle.description_lines.specs.LineSteps.{Draft}
use Rattle.history_values.specs.Values.{with_literals, or_false, filled}
use Rattle.history_reader.specs.Histories.{most, listed, list_line, state_line, act_line, history_end, states_from, by_names, read_history}
use Rattle.written_form.specs.Writing.{Form, as_declared, line_text, list_text, description_text}
use Rattle.written_form.specs.HistoryWriting.{codes_from, state_text, act_text, steps_text, values_text, actions_or_false}
use Rattle.written_form.proofs.WrittenLines.{first-line}
use Rattle.written_form.proofs.WrittenNames.{plains}
use Rattle.written_form.proofs.WrittenLists.{list-size, list-lacks-newline, list_read}
use Rattle.written_form.proofs.WrittenSizes.{line-size}
use Rattle.written_form.proofs.RoundTrip.{read-declared}
use Rattle.written_form.proofs.Accepted.{any_lent}
use Rattle.written_form.proofs.WrittenValues.{Values, marked_from, mark-values, marked_all, fill-values, codes-from-in}

values-split : (n : ℕ) (vs : List ℕ) → Values vs → Values (take n vs) × Values (drop n vs)
values-split n vs h =
    let h' : Values (take n vs ++ drop n vs) = rw (take-append-drop n vs) h in
    (each_append (λ v. v ≤ 3) (take n vs) (drop n vs)).0 h'

module _ (d : Draft) (m : ℕ) (are : AreNames d.names) (distinct : Distinct d.names) (size : length d.names ≡ d.fluents + m)
    (small : length d.names ≤ 32) where
  -- one line: what it marks in the places from low on, as many as there are of a sort
  line_read : (f : ℕ → Bool) (key low high base l : ℕ) (p vs rest : List ℕ) (go : List ℕ → List ℕ → Reply (List ℕ))
      → key < no_key → length p ≡ base + low
      → low ≤ high → high ≤ length d.names → Values vs
      → let ws = take (high - low) vs in
      list_line d key low high (first_line (line_text key (list_text d.names plains (codes_from f low ws)) ++ rest)) l
      base (p ++ replicate (length vs) 0) go
      ≡ go (p ++ (marked_from f low ws ++ replicate (length (drop (high - low) vs)) 0)) rest
  line_read f key low high base l p vs rest go known there within held vals =
      let names = d.names in
      let ws = take (high - low) vs in
      let ys = drop (high - low) vs in
      let cs = codes_from f low ws in
      let old : List ℕ = p ++ replicate (length vs) 0 in
      let part = (values-split (high - low) vs vals).0 in
      let (inside, count) = codes-from-in f low high ws (omega (arith, length-take (high - low) vs)) part in
      let few : length cs ≤ most = omega (arith, length-take (high - low) vs) in
      ap (λ first. list_line d key low high first l base old go)
      (first-line key known (list_text names plains cs) (list-lacks-newline names are cs) rest)
      ∙ rw (eq-eqb key key refl)
      (ap (λ (x : Listed). listed x l base old (λ vs'. go vs' rest)) (list_read names are distinct low high most held cs inside few))
      ∙ ap (λ (all : List ℕ). go (with_literals base (p ++ replicate (length all) 0) cs) rest) (sym (take-append-drop (high - low) vs))
      ∙ ap (λ vs'. go vs' rest) (mark-values f base low p ws ys there part)

  end_read : (vs : List ℕ) (l : ℕ) → history_end (first_line (line_text end_key [])) l vs ≡ answered vs
  end_read vs l = ap (λ first. history_end first l vs) (first-line end_key (omega arith) [] tt [])

  state-read : (t l : ℕ) (p vs rest : List ℕ) (go : List ℕ → List ℕ → Reply (List ℕ)) → length p ≡ t * length d.names → Values vs
      → state_line d (first_line (state_text d.names plains (take d.fluents vs) ++ rest)) l t (p ++ replicate (length vs) 0) go
      ≡ go (p ++ take d.fluents vs ++ replicate (length (drop d.fluents vs)) 0) rest
  state-read t l p vs rest go there vals =
      let n = d.fluents in
      let width : n - 0 ≡ n = omega arith in
      rw (width, marked_all 0 (take n vs)) at
      (line_read (λ i. true) state_key 0 n (t * length d.names) l p vs rest go (omega arith) (omega arith)
      (omega arith) (omega arith) vals)
      ∙ ap (λ vs'. go vs' rest) (sym (append_assoc p (take n vs) (replicate (length (drop n vs)) 0)))

  -- the actions that the line doesn't list are filled
  act-read : (f : ℕ → Bool) (t l : ℕ) (p vs rest : List ℕ) (go : List ℕ → List ℕ → Reply (List ℕ))
      → length p ≡ t * length d.names + d.fluents
      → m ≤ length vs → Values vs
      → act_line d (first_line (act_text d.names plains f d.fluents (take m vs) ++ rest)) l t (p ++ replicate (length vs) 0) go
      ≡ go (p ++ map or_false (take m vs) ++ replicate (length (drop m vs)) 0) rest
  act-read f t l p vs rest go there long vals =
      let n = d.fluents in
      let base = t * length d.names in
      let width : length d.names - n ≡ m = omega arith in
      let fill = fill-values f (base + n) n p (take m vs) (replicate (length (drop m vs)) 0) there (values-split m vs vals).0 in
      rw width (
      rw width at
      (line_read f act_key n (length d.names) base l p vs rest (λ vs' rest'. go (filled (base + n) m vs') rest')
      (omega arith) there (omega arith)
      (omega arith) vals)
      ∙ ap (λ vs'. go vs' rest) (rw (length-take-le m vs long) at fill)
      )

  steps-read : (choice : ℕ → ℕ → Bool) (k t l : ℕ) (p vs : List ℕ) → length p ≡ t * length d.names
      → length vs ≡ atom_count d.fluents m k → Values vs
      → states_from k d t l (p ++ replicate (length vs) 0) (steps_text d.names as_declared choice d.fluents m t k vs)
      ≡ answered (p ++ actions_or_false d.fluents m k vs)
  steps-read choice zero t l p vs there count vals =
      let n = d.fluents in
      let whole : length vs ≤ n = omega arith in
      let all = take_all n vs whole in
      let nothing = drop_of_length-le vs {i = n} whole in
      state-read t l p vs (line_text end_key []) (λ vs' rest. history_end (first_line rest) (suc l) vs') there vals
      ∙ end_read (p ++ take n vs ++ replicate (length (drop n vs)) 0) (suc l)
      ∙ ap answered (rw (all, nothing) (append-nil (p ++ vs)))
  steps-read choice (suc k) t l p vs there count vals =
      let n = d.fluents in
      let fs = take n vs in
      let ys = drop n vs in
      let acts = map or_false (take m ys) in
      let zs = drop m ys in
      let took = length-take n vs in
      let left = length-drop n vs in
      let took' = length-take m ys in
      let left' = length-drop m ys in
      let as_many = length-map (take m ys) or_false in
      let behind = (values-split n vs vals).1 in
      let there' = length-append p fs in
      let there'' = length-append (p ++ fs) acts in
      let text = steps_text d.names as_declared choice n m (suc t) k zs in
      state-read t l p vs (act_text d.names plains (choice t) n (take m ys) ++ text)
      (λ vs' rest. act_line d (first_line rest) (suc l) t vs' (λ vs'' rest'. states_from k d (suc t) (suc (suc l)) vs'' rest')) there vals
      ∙ act-read (choice t) t (suc l) (p ++ fs) ys text (λ vs'' rest'. states_from k d (suc t) (suc (suc l)) vs'' rest')
      (omega arith) (omega arith) behind
      ∙ steps-read choice k (suc t) (suc (suc l)) (p ++ fs ++ acts) zs (omega arith) (omega arith) (values-split m ys behind).1
      ∙ ap answered (append_assoc (p ++ fs) acts (actions_or_false n m k zs) ∙ append_assoc p fs (acts ++ actions_or_false n m k zs))

-- the size of a written history
module _ (names : List (List ℕ)) (are : AreNames names) (n m : ℕ) (size : length names ≡ n + m) (few-fluents : n ≤ 24) (few-actions : m ≤ 8)
    (choice : ℕ → ℕ → Bool) where
  part-size : (f : ℕ → Bool) (key low width : ℕ) (vs : List ℕ) → length (get_or keys key []) ≤ 5 → low + width ≤ length names → Values vs
      → length (line_text key (list_text names plains (codes_from f low (take width vs)))) ≤ 7 + 36 * width
  part-size f key low width vs short held vals =
      let ws = take width vs in
      let cs = codes_from f low ws in
      let took = length-take width vs in
      let (inside, count) = codes-from-in f low (low + width) ws (omega arith) (values-split width vs vals).0 in
      let (least, greatest) = list-size names are cs (each_map (λ c b. omega (arith, b.1)) cs inside) in
      omega (arith, line-size key (list_text names plains cs))

  steps-size : (k t : ℕ) (vs : List ℕ) → Values vs → length (steps_text names as_declared choice n m t k vs) ≤ 1166 * k + 876
  steps-size zero t vs vals =
      omega (
        arith,
        part-size (λ i. true) state_key 0 n vs (omega arith) (omega arith) vals,
        length-append (state_text names plains (take n vs)) (line_text end_key []),
      )
  steps-size (suc k) t vs vals =
      let ys = drop n vs in
      let behind = (values-split n vs vals).1 in
      let state = state_text names plains (take n vs) in
      let act = act_text names plains (choice t) n (take m ys) in
      let rest = steps_text names as_declared choice n m (suc t) k (drop m ys) in
      omega (
        arith,
        part-size (λ i. true) state_key 0 n vs (omega arith) (omega arith) vals,
        part-size (choice t) act_key n m ys (omega arith) (omega arith) behind,
        steps-size k (suc t) (drop m ys) (values-split m ys behind).1,
        length-append state (act ++ rest),
        length-append act rest,
      )

module _ (T : ℕ) (fluents actions : List (List ℕ)) (forms : ℕ → Form) (ls : List Law) (vs : List ℕ) where
  module _ (lent : ℕ) (w : Writable lent T fluents actions ls) (vals : Values vs) where
    pub history-size : (choice : ℕ → ℕ → Bool) → length (values_text T fluents actions as_declared choice vs) ≤ 40000
    unfolding values_text
    history-size choice =
        let steps =
        steps-size (fluents ++ actions) w.are-names (length fluents) (length actions)
        (length-append fluents actions) w.few-fluents
        w.few-actions choice T 0 vs vals in
        omega (arith, w.horizon-to)

    module _ (count : length vs ≡ atom_count (length fluents) (length actions) T) (more : List ℕ) (few : length more ≤ 45535) where
      -- an action's 0 is read back as false, and all else as it is
      pub history-declared : (choice : ℕ → ℕ → Bool)
          → read_history (description_text T fluents actions forms as_declared ls ++ more)
          (values_text T fluents actions as_declared choice vs) (length vs)
          ≡ answered (actions_or_false (length fluents) (length actions) T vs)
      unfolding read_history values_text
      history-declared choice =
          let text = values_text T fluents actions as_declared choice vs in
          let d = draft_written T fluents actions ls in
          let names = length-append fluents actions in
          let width : length (fluents ++ actions) - length fluents ≡ length actions = omega arith in
          ap (λ o. by_names o text (length vs))
          (read-declared 64 T fluents actions forms ls (any_lent lent 64 T fluents actions ls w.few-laws w) more few)
          ∙ rw (width, ← count, eq-eqb (length vs) (length vs) refl, le-ltb 65535 (length text) (omega (arith, history-size choice)))
          (steps-read d (length actions) w.are-names w.distinct names
          (omega (arith, w.few-fluents, w.few-actions)) choice T 0 1 [] vs (omega arith) count vals)
