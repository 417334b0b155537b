-- What the history reader takes: as many values as atoms, each 0 to 3, and no action atom at 0.
-- Assumes nothing.
use mathlib.Core.Path.{◌≡◌, refl, subst, ◌∙◌}
use mathlib.Core.Bool.{Bool, true, false, cond}
use mathlib.Core.List.{List, [], ◌∷◌}
use Prim.Native.Nat.{ℕ, zero, suc, ◌+◌, ◌-◌, ◌*◌, ◌/◌, ◌%◌, ◌≤◌}
use native.Mathlib.Omega.{arith}
use borrow.Author.Tests.{eqb-true, ltb-true}
use lib.Dec.{eqb, ltb}
use lib.ListN.{length, get_or, set, replicate, length-set, length-replicate}
use Rattle.basics.specs.Search.{Each}
use Rattle.basics.specs.Replies.{Reply, refused, answered}
use Rattle.description_lines.specs.LineSteps.{Draft}
use Rattle.description_lines.specs.Descriptions.{Taken, read, described}
use Rattle.history_values.specs.Values.{with_true, with_false, with_literals, or_false, filled, ActionsValued}
use Rattle.history_reader.specs.Histories.{states_from, atoms, recorded, by_names, read_history}
use Rattle.history_reader.proofs.Kept.{OfAnswer, states-keep, states-act}
use Rattle.reader_bounds.specs.Records.{Valued, TakenValued}
use Rattle.reader_bounds.proofs.Drafts.{chosen, names-declared}

-- n values, each 0 to 3
abbrev Good : ℕ → List ℕ → Type 0
Good n vs = (length vs ≡ n) × Each (λ v. v ≤ 3) vs

value-at : (vs : List ℕ) (i : ℕ) → Each (λ v. v ≤ 3) vs → get_or vs i 0 ≤ 3
value-at [] i h = omega arith
value-at (v ∷ vs) zero h = h.0
value-at (v ∷ vs) (suc i) h = value-at vs i h.1

value_set : (vs : List ℕ) (i v : ℕ) → v ≤ 3 → Each (λ w. w ≤ 3) vs → Each (λ w. w ≤ 3) (set vs i v)
value_set [] i v b h = tt
value_set (w ∷ vs) zero v b h = (b, h.1)
value_set (w ∷ vs) (suc i) v b h = (h.0, value_set vs i v b h.1)

-- one more literal of an atom
marked-value : (v sign : ℕ) → v ≤ 3 → cond (eqb sign 0) (with_true v) (with_false v) ≤ 3
marked-value v sign h =
    chosen (λ (w : ℕ). w ≤ 3) (eqb sign 0)
    (λ _. chosen (λ (w : ℕ). w ≤ 3) (eqb (v % 2) 0) (λ e. let even = eqb-true (v % 2) 0 e in omega arith) (λ _. h))
    (λ _. chosen (λ (w : ℕ). w ≤ 3) (ltb v 2) (λ e. let low = ltb-true v 2 e in omega arith) (λ _. h))

marked-good : (n base : ℕ) (vs cs : List ℕ) → Good n vs → Good n (with_literals base vs cs)
marked-good n base vs [] g = g
marked-good n base vs (c ∷ cs) g =
    let at = base + c / 2 in
    let v = cond (eqb (c % 2) 0) (with_true (get_or vs at 0)) (with_false (get_or vs at 0)) in
    marked-good n base (set vs at v) cs
    (length-set vs at v ∙ g.0, value_set vs at v (marked-value (get_or vs at 0) (c % 2) (value-at vs at g.1)) g.1)

filled-good : (n at k : ℕ) (vs : List ℕ) → Good n vs → Good n (filled at k vs)
filled-good n at zero vs g = g
filled-good n at (suc k) vs g =
    let v = get_or vs at 0 in
    filled-good n (suc at) k (set vs at (or_false v)) (
      length-set vs at (or_false v) ∙ g.0,
      value_set vs at (or_false v) (chosen (λ (w : ℕ). w ≤ 3) (eqb v 0) (λ _. omega arith) (λ _. value-at vs at g.1)) g.1,
    )

zeros-good : (n : ℕ) → Good n (replicate n 0)
zeros-good n = (length-replicate n 0, go n)
  where
    go : (k : ℕ) → Each (λ (v : ℕ). v ≤ 3) (replicate k 0)
    go zero = tt
    go (suc k) = (omega arith, go k)

-- a reply that is no refusal, by the description
abbrev ValuedReply : List ℕ → ℕ → Reply (List ℕ) → Type 0
ValuedReply description room (refused number place) = Unit
ValuedReply description room (answered vs) = Valued description room vs

module _ (description text : List ℕ) (room : ℕ) (d : Draft) (rest : List ℕ) (lines : ℕ)
    (is : described 64 description ≡ answered (read d rest lines)) where
  abbrev m : ℕ
  m = length d.names - d.fluents

  size : length d.names ≡ d.fluents + m
  size = omega (arith, names-declared description d rest lines is)

  lines-valued : room ≡ atoms d → (r : Reply (List ℕ)) → OfAnswer (Good (atoms d)) r
      → OfAnswer (ActionsValued d.fluents m d.horizon) r
      → ValuedReply description room r
  lines-valued e (refused number place) g a = tt
  lines-valued e (answered vs) g a =
      record { draft = d; rest = rest; lines = lines; is = is; fills = e; count = g.0; each = g.1; acted = a }

  by-room : (b : Bool) → eqb room (atoms d) ≡ b → ValuedReply description room (recorded d text room)
  by-room true e =
      let none : List ℕ = replicate (atoms d) 0 in
      rw e
      (chosen (ValuedReply description room) (ltb 65535 (length text)) (λ _. tt)
      (λ _. lines-valued (eqb-true room (atoms d) e) (states_from d.horizon d 0 1 none text)
      (states-keep d d.horizon (λ t. Good (atoms d)) (λ t base vs cs g. marked-good (atoms d) base vs cs g)
      (λ t early vs g. filled-good (atoms d) (t * length d.names + d.fluents) m vs g)
      d.horizon 0 1 none text (omega arith) (zeros-good (atoms d)))
      (states-act d m size d.horizon 1 none text (length-replicate (atoms d) 0))))
  by-room false e = rw e tt

by-draft : (description text : List ℕ) (room : ℕ) (o : Reply Taken) → described 64 description ≡ o
    → ValuedReply description room (by_names o text room)
by-draft description text room (refused number place) is = tt
by-draft description text room (answered (read d rest lines)) is = by-room description text room d rest lines is (eqb room (atoms d)) refl

pub taken-valued : TakenValued
unfolding read_history
taken-valued description text room values e =
    subst (ValuedReply description room) e (by-draft description text room (described 64 description) refl)
