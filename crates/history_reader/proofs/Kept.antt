-- What each line of a history keeps holds of the values that are answered; so no action atom is left at 0.
-- Assumes nothing.
use mathlib.Core.Path.{◌≡◌, refl, sym, ◌∙◌, subst}
use mathlib.Core.Bool.{Bool, true, false, cond}
use mathlib.Core.List.{List, [], ◌∷◌}
use mathlib.Core.Option.{Option, none, some}
use Prim.Native.Nat.{ℕ, zero, suc, ◌+◌, ◌-◌, ◌*◌, ◌≤◌, ◌<◌}
use native.Mathlib.Nat.{mul-le-mul_right, suc-mul}
use native.Mathlib.Omega.{arith}
use borrow.Author.Tests.{eqb-true, ltb-true, ltb-false}
use lib.Dec.{eqb, ltb}
use lib.ListN.{length, get_or, replicate, length-replicate}
use Rattle.basics.specs.Replies.{Reply, refused, answered}
use Rattle.action_language.specs.Atoms.{action_atom, atom_count}
use Rattle.text_forms.specs.Lines.{Line, first_line, end_key}
use Rattle.text_forms.specs.Lists as lists
use Rattle.text_forms.specs.Lists.{Listed, codes, list_of}
use Rattle.description_lines.specs.LineSteps.{Draft}
use Rattle.description_lines.specs.Descriptions.{Taken, read, described}
use Rattle.history_values.specs.Values.{with_literals, filled, ActionsValued}
use Rattle.history_values.proofs.Filling.{length_marked, length-filled, marked-zero, filled_zero, filled-valued}
use Rattle.std.specs.Prelude.{Ok}
use Rattle.history_reader.specs.Histories.{history_end, most, listed, list_line, undone_false, states_from, atoms, ActionsFilled}

-- what holds of the values, where there are some
abbrev pub OfAnswer : (List ℕ → Type 0) → Reply (List ℕ) → Type 0
OfAnswer P (refused number place) = Unit
OfAnswer P (answered vs) = P vs

module _ (P : List ℕ → Type 0) where
  pub end-keeps : (o : Option Line) (line : ℕ) (vs : List ℕ) → P vs → OfAnswer P (history_end o line vs)
  end-keeps none line vs p = tt
  end-keeps (some l) line vs p = by (eqb l.key end_key) refl l.value refl l.rest refl
    where
      by : (b : Bool) → eqb l.key end_key ≡ b → (value : List ℕ) → l.value ≡ value → (rest : List ℕ) → l.rest ≡ rest
          → OfAnswer P (history_end (some l) line vs)
      by true e [] f [] g = rw (e, f, g) p
      by true e [] f (b ∷ bs) g = rw (e, f, g) tt
      by true e (b ∷ bs) f rest g = rw (e, f) tt
      by false e value f rest g = rw e tt

  -- a line of literals, with what follows it where the line is due and its list is taken
  pub list-keeps : (d : Draft) (key low high : ℕ) (o : Option Line) (line base : ℕ) (vs : List ℕ) (go : List ℕ → List ℕ → Reply (List ℕ))
      → ((l : Line) → o ≡ some l → l.key ≡ key → (cs : List ℕ) → list_of d.names low high most l.value ≡ codes cs
      → OfAnswer P (go (with_literals base vs cs) l.rest))
      → OfAnswer P (list_line d key low high o line base vs go)
  list-keeps d key low high none line base vs go h = tt
  list-keeps d key low high (some l) line base vs go h = by (eqb l.key key) refl (list_of d.names low high most l.value) refl
    where
      by : (b : Bool) → eqb l.key key ≡ b → (list : Listed) → list_of d.names low high most l.value ≡ list
          → OfAnswer P (cond b (listed list line base vs (λ ws. go ws l.rest)) (refused 2 line))
      by true e (lists.refused k) f = tt
      by true e (codes cs) f = h l refl (eqb-true l.key key e) cs f
      by false e list f = tt

-- P holds of the values before the lines of a time; each list keeps it, and an act line's filling takes it to the next time
module _ (d : Draft) (T : ℕ) (P : ℕ → List ℕ → Type 0)
    (keeps-marked : (t base : ℕ) (vs cs : List ℕ) → P t vs → P t (with_literals base vs cs))
    (keeps-filled : (t : ℕ) → t < T → (vs : List ℕ) → P t vs → P (suc t) (undone_false d t vs)) where
  pub states-keep : (k t line : ℕ) (vs text : List ℕ) → t + k ≡ T → P t vs → OfAnswer (P T) (states_from k d t line vs text)
  states-keep zero t line vs text e p =
      let last : t ≡ T = omega arith in
      list-keeps (P T) d _ _ _ (first_line text) line _ vs _
      (λ l _ _ cs _. end-keeps (P T) (first_line l.rest) (suc line) _
      (subst (λ s. P s (with_literals (t * length d.names) vs cs)) last (keeps-marked t _ vs cs p)))
  states-keep (suc k) t line vs text e p =
      list-keeps (P T) d _ _ _ (first_line text) line _ vs _
      (λ l _ _ cs _. list-keeps (P T) d _ _ _ (first_line l.rest) (suc line) _ _ _
      (λ l' _ _ cs' _. states-keep k (suc t) (suc (suc line)) _ l'.rest (omega arith)
      (keeps-filled t (omega arith) _ (keeps-marked t _ _ cs' (keeps-marked t _ vs cs p)))))

-- the actions before time t have values
module _ (d : Draft) (m : ℕ) (size : length d.names ≡ d.fluents + m) (T : ℕ) where
  abbrev Acted : ℕ → List ℕ → Type 0
  Acted t vs = (length vs ≡ atom_count d.fluents m T) × ActionsValued d.fluents m t vs

  acted-marked : (t base : ℕ) (vs cs : List ℕ) → Acted t vs → Acted t (with_literals base vs cs)
  acted-marked t base vs cs a =
      (length_marked base vs cs ∙ a.0, λ s k before few e. a.1 s k before few (marked-zero base vs cs (action_atom d.fluents m s k) e))

  acted-filled : (t : ℕ) → t < T → (vs : List ℕ) → Acted t vs → Acted (suc t) (undone_false d t vs)
  acted-filled t early vs a = (length-filled at count vs ∙ a.0, λ s k before few e. by s k before few e (ltb s t) refl)
    where
      n : ℕ
      n = d.fluents

      at : ℕ
      at = t * length d.names + n

      count : ℕ
      count = length d.names - n

      by : (s k : ℕ) → s < suc t → k < m → get_or (filled at count vs) (action_atom n m s k) 0 ≡ 0 → (b : Bool) → ltb s t ≡ b → ⊥
      by s k before few e true f = a.1 s k (ltb-true s t f) few (filled_zero at count vs (action_atom n m s k) e)
      by s k before few e false f =
          let same : s ≡ t = omega (arith, before, ltb-false s t f) in
          let later : suc t * (n + m) ≤ T * (n + m) = mul-le-mul_right (n + m) (omega arith) in
          let here : action_atom n m s k ≡ at + k = rw (same, size) in
          filled-valued at count vs (action_atom n m s k) (omega arith) (omega (arith, size))
          (rw same (omega (arith, a.0, later, suc-mul t (n + m)))) e

  pub states-act : (line : ℕ) (vs text : List ℕ) → length vs ≡ atom_count d.fluents m T
      → OfAnswer (ActionsValued d.fluents m T) (states_from T d 0 line vs text)
  states-act line vs text e =
      weaker (states_from T d 0 line vs text)
      (states-keep d T Acted acted-marked acted-filled T 0 line vs text (omega arith) (e, λ s k before few _. absurd (omega arith)))
    where
      weaker : (r : Reply (List ℕ)) → OfAnswer (Acted T) r → OfAnswer (ActionsValued d.fluents m T) r
      weaker (refused number place) h = tt
      weaker (answered ws) h = h.1

-- the same of a description that was read, which is whatever description its text is read as
abbrev pub OfTaken : (Draft → Type 0) → Reply Taken → Type 0
OfTaken P (refused number place) = Unit
OfTaken P (answered (read d rest lines)) = P d

pub actions-filled : (description text : List ℕ) (d : Draft) (rest : List ℕ) (lines : ℕ)
    → described 64 description ≡ answered (read d rest lines)
    → d.fluents ≤ length d.names → (room : ℕ) → room ≡ atoms d → (vs : List ℕ)
    → states_from d.horizon d 0 1 (replicate room 0) text ≡ answered vs
    → ActionsFilled description (Ok tt) vs
actions-filled description text d rest lines is declared room e vs f d' rest' lines' is' =
    let m = length d.names - d.fluents in
    let acts = subst (OfAnswer (ActionsValued d.fluents m d.horizon)) f
    (states-act d m (omega arith) d.horizon 1 (replicate room 0) text (length-replicate room 0 ∙ e)) in
    subst (OfTaken (λ x. ActionsValued x.fluents (length x.names - x.fluents) x.horizon vs)) (sym is ∙ is') acts
