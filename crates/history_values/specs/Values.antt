-- What a line of a history does to the values (01, "Atoms and values"; 02, §2).
-- Assumes nothing.
use Rattle.std.specs.Prelude.{◌≡◌, cond, List, [], ◌∷◌, ℕ, zero, suc, ◌+◌, ◌/◌, ◌%◌, ◌<◌, eqb, ltb, get_or, set}
use Rattle.action_language.specs.Atoms.{action_atom}

-- a value byte with one more literal of its atom: 0 none, 1 true, 2 false, 3 both
abbrev pub with_true : ℕ → ℕ
with_true v = cond (eqb (v % 2) 0) (v + 1) v

abbrev pub with_false : ℕ → ℕ
with_false v = cond (ltb v 2) (v + 2) v

-- the values with the literals of some codes at one time, where the values of that time begin at place `base`
abbrev pub with_literals : ℕ → List ℕ → List ℕ → List ℕ
with_literals base vs [] = vs
with_literals base vs (c ∷ cs) =
    let at = base + c / 2 in
    let v = get_or vs at 0 in
    with_literals base (set vs at (cond (eqb (c % 2) 0) (with_true v) (with_false v))) cs

-- an action that its act line does not list is false
abbrev pub or_false : ℕ → ℕ
or_false v = cond (eqb v 0) 2 v

-- the same for k actions, the first of them at place `at`
abbrev pub filled : ℕ → ℕ → List ℕ → List ℕ
filled at zero vs = vs
filled at (suc k) vs = filled (suc at) k (set vs at (or_false (get_or vs at 0)))

-- no action atom is left at 0, for n fluents, m actions and horizon T
abbrev pub ActionsValued : ℕ → ℕ → ℕ → List ℕ → Type 0
ActionsValued n m T vs = (t k : ℕ) → t < T → k < m → get_or vs (action_atom n m t k) 0 ≡ 0 → ⊥
