-- A line at which a history is refused is one of the first few.
-- Assumes nothing.
use mathlib.Core.Path.{◌≡◌, refl}
use mathlib.Core.List.{List, [], ◌∷◌}
use mathlib.Core.Option.{Option, none, some}
use Prim.Native.Nat.{ℕ, zero, suc, ◌+◌, ◌*◌, ◌≤◌}
use native.Mathlib.Omega.{arith}
use lib.Dec.{eqb}
use Rattle.text_forms.specs.Lines.{Line, first_line, end_key}
use Rattle.basics.specs.Replies.{Reply, refused, answered}
use Rattle.text_forms.specs.Lists as lists
use Rattle.text_forms.specs.Lists.{Listed, codes, list_of}
use Rattle.description_lines.specs.LineSteps.{Draft}
use Rattle.history_reader.specs.Histories.{at_end, history_end, listed, list_line, undone_false, states_from}
use Rattle.history_reader.specs.Histories as histories
use Rattle.reader_bounds.proofs.Drafts.{chosen}

-- a line at which a history is refused is one of the first 2 T + 3, or place 0, or its length
abbrev pub PlaceUpTo : ℕ → Reply (List ℕ) → Type 0
PlaceUpTo k (refused number place) = place ≤ k
PlaceUpTo k (answered vs) = Unit

module _ (line : ℕ) where
  at-end : (vs rest : List ℕ) → PlaceUpTo (suc line) (at_end vs line rest)
  at-end vs [] = tt
  at-end vs (b ∷ bs) = omega arith

  end-place : (o : Option Line) (vs : List ℕ) → PlaceUpTo (suc line) (history_end o line vs)
  end-place none vs = omega arith
  end-place (some l) vs = by_value l.value refl
    where
      by_value : (v : List ℕ) → l.value ≡ v → PlaceUpTo (suc line) (history_end (some l) line vs)
      by_value [] e = chosen (PlaceUpTo (suc line)) (eqb l.key end_key) (λ _. rw e (at-end vs l.rest)) (λ _. omega arith)
      by_value (b ∷ bs) e = chosen (PlaceUpTo (suc line)) (eqb l.key end_key) (λ _. rw e (omega arith)) (λ _. omega arith)

  module _ (k : ℕ) (later : line ≤ k) where
    listed-place : (l : Listed) (base : ℕ) (vs : List ℕ) (go : List ℕ → Reply (List ℕ)) → ((vs' : List ℕ) → PlaceUpTo k (go vs'))
        → PlaceUpTo k (listed l line base vs go)
    listed-place (lists.refused n) base vs go h = later
    listed-place (codes cs) base vs go h = h _

    list-place : (d : Draft) (key low high : ℕ) (o : Option Line) (base : ℕ) (vs : List ℕ) (go : List ℕ → List ℕ → Reply (List ℕ))
        → ((vs' rest : List ℕ) → PlaceUpTo k (go vs' rest)) → PlaceUpTo k (list_line d key low high o line base vs go)
    list-place d key low high none base vs go h = later
    list-place d key low high (some l) base vs go h =
        chosen (PlaceUpTo k) (eqb l.key key)
        (λ _.
        listed-place (list_of d.names low high histories.most l.value) base vs (λ vs'. go vs' l.rest) (λ vs'. h vs' l.rest))
        (λ _. later)

pub place-within : (j k : ℕ) → j ≤ k → (r : Reply (List ℕ)) → PlaceUpTo j r → PlaceUpTo k r
place-within j k h (refused number place) p = omega arith
place-within j k h (answered vs) p = tt

pub states-place : (n : ℕ) (d : Draft) (t line : ℕ) (vs text : List ℕ) → PlaceUpTo (line + 2 * n + 2) (states_from n d t line vs text)
states-place zero d t line vs text =
    list-place line (line + 2 * 0 + 2) (omega arith) d _ _ _ (first_line text) _ vs _
    (λ vs' rest. place-within (suc (suc line)) (line + 2 * 0 + 2) (omega arith)
    (history_end (first_line rest) (suc line) vs') (end-place (suc line) (first_line rest) vs'))
states-place (suc n) d t line vs text =
    list-place line (line + 2 * suc n + 2) (omega arith) d _ _ _ (first_line text) _ vs _
    (λ vs' rest.
    list-place (suc line) (line + 2 * suc n + 2) (omega arith) d _ _ _ (first_line rest) _ vs' _
    (λ vs'' rest'.
    place-within (suc (suc line) + 2 * n + 2) (line + 2 * suc n + 2) (omega arith)
    (states_from n d (suc t) (suc (suc line)) (undone_false d t vs'') rest')
    (states-place n d (suc t) (suc (suc line)) (undone_false d t vs'') rest')))
