-- A fact of every rule of a translation, by the laws, the steps and the atoms that the rules are for.
-- Assumes nothing.
use mathlib.Core.Path.{◌≡◌}
use mathlib.Core.Logic.Iff
use mathlib.Core.Logic.{◌↔◌}
use mathlib.Core.List.{List, [], ◌∷◌, ◌++◌, map}
use Prim.Native.Nat.{ℕ, zero, suc, ◌+◌, ◌*◌, ◌<◌}
use native.Mathlib.Omega.{arith}
use Rattle.basics.specs.Search.{Each, range}
use Rattle.basics.proofs.Tests.{each_append}
use Rattle.basics.proofs.Lists.{each-iff, each_both, each-forall, each-mapped, each-range}
use Rattle.logic_programs.specs.Rules.{lit, Rule}
use Rattle.action_language.specs.declared.Kind.{Kind}
use Rattle.action_language.specs.declared.Kind.TheVariants.{Static, Dynamic}
use Rattle.action_language.specs.declared.Law.{Law}
use Rattle.action_language.specs.Atoms.{fluent_atom, action_atom}
use Rattle.translation_rules.specs.RuleForms.{static_rule, dynamic_rule, choices}
use Rattle.translation_rules.specs.Rules.{static_rules, dynamic_rules, per_law, action_atoms, choice_atoms, translation}

-- the rule of a law for the step from time t: its head is at t + 1
abbrev pub step_rule : ℕ → ℕ → Kind → Law → Rule
step_rule N t Static l = static_rule N l (suc t)
step_rule N t Dynamic l = dynamic_rule N l t

-- of the rule of a static law for time 0
abbrev pub AtStart : (Rule → Type 0) → ℕ → Kind → Law → Type 0
AtStart P N Static l = P (static_rule N l 0)
AtStart P N Dynamic l = Unit

-- of the two rules that leave atom B open
abbrev pub AtChoice : (Rule → Type 0) → ℕ → Type 0
AtChoice P B =
    P (record { head = lit (2 * B + 1); negated = (2 * B) ∷ []; plain = [] })
    × P (record { head = lit (2 * B); negated = (2 * B + 1) ∷ []; plain = [] })

-- of each rule: at the start, in the steps, of the fluents at time 0, of the actions
abbrev pub EachRule : (Rule → Type 0) → ℕ → ℕ → ℕ → List Law → Type 0
EachRule P n m T ls =
    Each (λ l. AtStart P (n + m) l.kind l) ls
    × ((t : ℕ) → t < T → Each (λ l. P (step_rule (n + m) t l.kind l)) ls)
    × ((f : ℕ) → f < n → AtChoice P f)
    × ((t : ℕ) → t < T → (k : ℕ) → k < m → AtChoice P (action_atom n m t k))

module _ (P : Rule → Type 0) where
  each-per_law : (f : Kind → Law → List Rule) (ls : List Law) → Each P (per_law f ls) ↔ Each (λ l. Each P (f l.kind l)) ls
  each-per_law f [] = (λ h. h, λ h. h)
  each-per_law f (l ∷ ls) = Iff.trans (each_append P (f l.kind l) (per_law f ls)) (Iff.and (λ h. h, λ h. h) (each-per_law f ls))

  -- the rules of one law
  each-law : (N T : ℕ) (k : Kind) (l : Law)
      → (Each P (static_rules N T k l) × Each P (dynamic_rules N T k l)) ↔ (AtStart P N k l × ((t : ℕ) → t < T → P (step_rule N t k l)))
  each-law N T Static l = (λ h. (h.0.0, later.0 h.0.1), λ h. ((h.0, later.1 h.1), tt))
    where
      later : Each P (map (static_rule N l) (range 1 T)) ↔ ((t : ℕ) → t < T → P (static_rule N l (suc t)))
      later = Iff.trans (each-mapped P (static_rule N l) (range 1 T)) (each-range (λ t. P (static_rule N l t)) 1 T suc (λ t. omega arith))
  each-law N T Dynamic l = (λ h. (tt, steps.0 h.1), λ h. (tt, steps.1 h.1))
    where
      steps : Each P (map (dynamic_rule N l) (range 0 T)) ↔ ((t : ℕ) → t < T → P (dynamic_rule N l t))
      steps =
          Iff.trans (each-mapped P (dynamic_rule N l) (range 0 T))
          (each-range (λ t. P (dynamic_rule N l t)) 0 T (λ t. t) (λ t. omega arith))

  -- the rules of all laws
  each-laws : (N T : ℕ) (ls : List Law) → (Each P (per_law (static_rules N T) ls) × Each P (per_law (dynamic_rules N T) ls))
      ↔ (Each (λ l. AtStart P N l.kind l) ls × ((t : ℕ) → t < T → Each (λ l. P (step_rule N t l.kind l)) ls))
  each-laws N T ls =
      Iff.trans (Iff.and (each-per_law (static_rules N T) ls) (each-per_law (dynamic_rules N T) ls))
      (Iff.trans (Iff.symm (each_both (λ l. Each P (static_rules N T l.kind l)) (λ l. Each P (dynamic_rules N T l.kind l)) ls))
      (Iff.trans (each-iff (λ l. each-law N T l.kind l) ls)
      (Iff.trans (each_both (λ l. AtStart P N l.kind l) (λ l. (t : ℕ) → t < T → P (step_rule N t l.kind l)) ls)
      (Iff.and (λ h. h, λ h. h) (each-forall (λ l t. P (step_rule N t l.kind l)) T ls)))))

  -- the rules of the atoms left open
  each-choices : (Bs : List ℕ) → Each P (choices Bs) ↔ Each (AtChoice P) Bs
  each-choices [] = (λ h. h, λ h. h)
  each-choices (B ∷ Bs) = (λ h. ((h.0, h.1.0), (each-choices Bs).0 h.1.1), λ h. (h.0.0, (h.0.1, (each-choices Bs).1 h.1)))

  each-actions : (n m t T : ℕ) (at : ℕ → ℕ) → ((i : ℕ) → t + i ≡ at i)
      → Each (AtChoice P) (action_atoms n m t T) ↔ ((i : ℕ) → i < T → (k : ℕ) → k < m → AtChoice P (action_atom n m (at i) k))
  each-actions n m t zero at e = (λ h i b. absurd (omega arith), λ h. tt)
  each-actions n m t (suc T) at e =
      let here : at 0 ≡ t = omega (arith, e 0) in
      let now = each-range (AtChoice P) (action_atom n m t 0) m (action_atom n m t) (λ k. omega arith) in
      let later = each-actions n m (suc t) T (λ i. at (suc i)) (λ i. omega (arith, e (suc i))) in
      Iff.trans (each_append (AtChoice P) (range (action_atom n m t 0) m) (action_atoms n m (suc t) T)) (
        λ h i. elim i as (λ i. i < suc T → (k : ℕ) → k < m → AtChoice P (action_atom n m (at i) k))
            [ zero ↦ λ b. rw here (now.0 h.0) | suc j ↦ λ b. later.0 h.1 j (omega arith) ],
        λ h. (now.1 (rw here at (h 0 (omega arith))), later.1 (λ i b. h (suc i) (omega arith))),
      )

pub each-rule : (P : Rule → Type 0) (n m T : ℕ) (ls : List Law) → Each P (translation n m T ls) ↔ EachRule P n m T ls
unfolding translation
each-rule P n m T ls =
    Iff.trans (each_append P (statics ++ dynamics) (choices (choice_atoms n m T))) (
      λ h. let l = laws.0 h.0 in let c = atoms.0 h.1 in (l.0, l.1, c.0, c.1),
      λ h. (laws.1 (h.0, h.1), atoms.1 (h.2, h.3)),
    )
  where
    statics : List Rule
    statics = per_law (static_rules (n + m) T) ls

    dynamics : List Rule
    dynamics = per_law (dynamic_rules (n + m) T) ls

    laws : Each P (statics ++ dynamics)
        ↔ (Each (λ l. AtStart P (n + m) l.kind l) ls × ((t : ℕ) → t < T → Each (λ l. P (step_rule (n + m) t l.kind l)) ls))
    laws = Iff.trans (each_append P statics dynamics) (each-laws P (n + m) T ls)

    atoms : Each P (choices (choice_atoms n m T))
        ↔ (((f : ℕ) → f < n → AtChoice P f) × ((t : ℕ) → t < T → (k : ℕ) → k < m → AtChoice P (action_atom n m t k)))
    atoms =
        Iff.trans (each-choices P (choice_atoms n m T))
        (Iff.trans (each_append (AtChoice P) (range (fluent_atom n m 0 0) n) (action_atoms n m 0 T))
        (Iff.and (each-range (AtChoice P) (fluent_atom n m 0 0) n (λ f. f) (λ f. omega arith))
        (each-actions P n m 0 T (λ t. t) (λ t. omega arith))))
