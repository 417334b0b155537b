-- `histories::check_end` meets its contract: another key, a value, bytes behind the line, or the end.
-- Assumes nothing.
use native.Mathlib.Omega.{arith}
use mathlib.Core.Path.{◌≡◌, sym, ◌∙◌, ap}
use mathlib.Core.List.{List}
use Prim.Native.Nat.{ℕ, ◌-◌, ◌≤◌, ◌<◌}
use native.Mathlib.Numerals.{add-one}
use lib.ListN.{length, take, drop, length-take, length-drop}
use Rattle.basics.specs.Replies.{Reply}
use Rattle.text_forms.specs.Lines.{keyed, end_key, first_line}
use Rattle.text_forms.specs.declared.LineAt.{LineAt}
use Rattle.text_forms.specs.declared.Key.TheVariants.{End}
use Rattle.text_forms.specs.Keys.{number_or}
use Rattle.text_forms.specs.Places.{line_at}
use Rattle.text.proofs.Placing.{key_in, line_of, line-answers, line-fits}
use Rattle.history_reader.specs.Histories.{history_end}
use Rattle.history_reader.proofs.Keyed.{same-key, other-key}
use Rattle.history_reader.proofs.Marking.{end-other, end-valued, end_more, end_whole}
use Rattle.history_reader.proofs.histories.check_end.Goals.{then-ne-via-then-ne, then-ne-via-else-ne+then-l}
use Rattle.history_reader.proofs.histories.check_end.Goals as goal

-- what the end line comes to, by the line that was found
module _ (text : List ℕ) (at line : ℕ) (l : LineAt) (is : l ≡ line_at text at) (vs : List ℕ) where
  there : line_of text l ≡ first_line (drop at text)
      → history_end (line_of text l) line vs ≡ history_end (first_line (drop at text)) line vs
  there e = ap (λ o. history_end o line vs) e

  found : {R : Reply (List ℕ)}
      → R ≡ history_end (keyed (key_in (number_or l.key)) (take (l.to - l.from) (drop l.from text)) (drop l.next text)) line vs
      → R ≡ history_end (first_line (drop at text)) line vs
  unfolding line_of
  found e = e ∙ there (line-answers text at is)

  ended : {R : Reply (List ℕ)} → number_or l.key ≡ end_key
      → R ≡ history_end (keyed (key_in end_key) (take (l.to - l.from) (drop l.from text)) (drop l.next text)) line vs
      → R ≡ history_end (first_line (drop at text)) line vs
  ended same e =
      found (e ∙ ap (λ k. history_end (keyed (key_in k) (take (l.to - l.from) (drop l.from text)) (drop l.next text)) line vs) (sym same))

pub returns-then-ne-clause-answers : goal.returns-then-ne-clause-answers
returns-then-ne-clause-answers c vs =
    let a = c.args in
    let l = c.line_at-l.result in
    let is = c.line_at-l.ensures in
    let value = take (l.to - l.from) (drop l.from a.text.now) in
    let rest = drop l.next a.text.now in
    elim c.then-ne.branch [
      | then-ne-via-then-ne w ↦
          found a.text.now a.at a.line l is vs
          (end-other a.line vs (number_or l.key) value rest (other-key l.key End _ c.ne.ensures w.if-ne.true))
      | then-ne-via-else-ne+then-l w ↦
          let long : 0 < length value =
          omega (
            arith,
            w.if-l.true,
            length-take (l.to - l.from) (drop l.from a.text.now),
            length-drop l.from a.text.now,
            (line-fits _ _ is).inside,
          ) in
          ended a.text.now a.at a.line l is vs (same-key l.key End _ c.ne.ensures w.if-ne.false) (end-valued a.line vs value rest long)
    ]

pub returns-then-l-text-clause-answers : goal.returns-then-l-text-clause-answers
returns-then-l-text-clause-answers c vs =
    let a = c.args in
    let l = c.line_at-l.result in
    let value = take (l.to - l.from) (drop l.from a.text.now) in
    let rest = drop l.next a.text.now in
    let none : length value ≤ 0 = omega (arith, length-take (l.to - l.from) (drop l.from a.text.now)) in
    let more : 0 < length rest = omega (arith, length-drop l.next a.text.now) in
    ended a.text.now a.at a.line l c.line_at-l.ensures vs (same-key l.key End _ c.ne.ensures c.if-ne.false)
    (rw (add-one a.line) (end_more a.line vs value rest none more))

pub returns-clause-answers : goal.returns-clause-answers
returns-clause-answers c vs =
    let a = c.args in
    let l = c.line_at-l.result in
    let value = take (l.to - l.from) (drop l.from a.text.now) in
    let rest = drop l.next a.text.now in
    let none : length value ≤ 0 = omega (arith, length-take (l.to - l.from) (drop l.from a.text.now)) in
    let done : length rest ≤ 0 = omega (arith, length-drop l.next a.text.now) in
    ended a.text.now a.at a.line l c.line_at-l.ensures vs (same-key l.key End _ c.ne.ensures c.if-ne.false)
    (end_whole a.line vs value rest none done)
