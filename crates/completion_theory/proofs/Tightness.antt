-- Levels that refusal 13 lets pass show that a table is tight; then what holds by the formulas is an answer set.
-- Assumes nothing.
use mathlib.Core.Path.{◌≡◌, refl, sym, ◌∙◌, ap}
use mathlib.Core.Logic.Iff
use mathlib.Core.Logic.{◌↔◌, inl, inr, ⊎_elim}
use mathlib.Core.Bool.{true, false, not}
use mathlib.Core.List.{List}
use mathlib.Core.Option.{none}
use Prim.Native.Nat.{ℕ, ◌+◌, ◌*◌, ◌/◌, ◌%◌, ◌<◌}
use native.Mathlib.Omega.{arith}
use borrow.Author.Tests.{ltb-true, lt-ltb}
use lib.ListN.{length, get_or}
use Rattle.basics.specs.Search.{Each, first}
use Rattle.basics.proofs.Tests.{not-both, false_of_not, true_of_not, not_iff, all-each, each_map, each_at}
use Rattle.basics.proofs.Lists.{each-iff, none-iff}
use Rattle.logic_programs.specs.Literals.{set_of, holds_true, holds_false, OneValue}
use Rattle.logic_programs.specs.Rules.{Head, lit, falsum, Rule}
use Rattle.logic_programs.specs.Words.{rules_of, bad_rule}
use Rattle.logic_programs.specs.AnswerSets.{Consistent, AnswerSet}
use Rattle.answer_set_theory.proofs.Least.{HeadBelow}
use Rattle.answer_set_theory.proofs.Decoding.{accepted-below}
use Rattle.answer_set_theory.proofs.Theorems.{set_of-below}
use Rattle.tight_programs.specs.TightPrograms.{LowerParts, Tight}
use Rattle.tight_programs.specs.LiteralCompletion.{Completion, HeadOver, Over, CompleteSet}
use Rattle.tight_programs.proofs.LiteralCompletion.{proposition-3}
use Rattle.completion_theory.specs.LevelLists.{level_of, is_below, head_above, stands_above}

-- Levels

above-iff : (levels : List ℕ) (h : Head) (cs : List ℕ) → head_above levels h cs ≡ true ↔ LowerParts (level_of levels) cs h
above-iff levels (lit h) cs = (
  λ e. each_map (λ c t. ltb-true (level_of levels c) (level_of levels h) t) cs ((all-each (is_below levels (level_of levels h)) cs).0 e),
  λ low. (all-each (is_below levels (level_of levels h)) cs).1 (each_map (λ c b. lt-ltb (level_of levels c) (level_of levels h) b) cs low),
)
above-iff levels falsum cs = (λ e. tt, λ low. refl)

pub not-above-iff : (levels : List ℕ) (r : Rule) → not (stands_above levels r) ≡ true
    ↔ (LowerParts (level_of levels) r.plain r.head → ⊥)
not-above-iff levels r =
    let above = above-iff levels r.head r.plain in
    Iff.trans (not_iff (stands_above levels r))
    (λ f low. not-both (above.1 low) f, λ h. false_of_not (stands_above levels r) (λ t. h (above.0 t)))

pub tight-iff : (levels : List ℕ) (Π : List Rule) → first (λ r. not (stands_above levels r)) 0 Π ≡ none ↔ Tight (level_of levels) Π
tight-iff levels Π = Iff.trans (none-iff (λ r. not (stands_above levels r)) 0 Π) (each-iff stands Π)
  where
    stands : (r : Rule) → not (stands_above levels r) ≡ false ↔ LowerParts (level_of levels) r.plain r.head
    stands r =
        let above = above-iff levels r.head r.plain in (
          λ f. above.0 (true_of_not (stands_above levels r) (λ e. not-both ((not_iff (stands_above levels r)).1 e) f)),
          λ low. false_of_not (not (stands_above levels r)) (λ t. not-both (above.1 low) ((not_iff (stands_above levels r)).0 t)),
        )

-- An atom's two literals, by its value

pub even-in : (vs : List ℕ) (a : ℕ) → set_of vs (2 * a) ≡ holds_true (get_or vs a 0)
unfolding set_of
even-in vs a =
    let even : (2 * a) % 2 ≡ 0 = omega arith in
    let half : (2 * a) / 2 ≡ a = omega arith in
    rw (even, half)

pub odd-in : (vs : List ℕ) (a : ℕ) → set_of vs (2 * a + 1) ≡ holds_false (get_or vs a 0)
unfolding set_of
odd-in vs a =
    let odd : (2 * a + 1) % 2 ≡ 1 = omega arith in
    let half : (2 * a + 1) / 2 ≡ a = omega arith in
    rw (odd, half)

-- A set with one value for each atom is complete and consistent

module _ (vs : List ℕ) (one : Each OneValue vs) where
  value : (a : ℕ) → a < length vs → OneValue (get_or vs a 0)
  value a b = (each_at OneValue 0 vs).0 one a b

  not-both-values : (v : ℕ) → OneValue v → holds_true v ≡ true → holds_false v ≡ true → ⊥
  unfolding holds_true holds_false
  not-both-values v o t f = ⊎_elim (λ (e : v ≡ 1). not-both (rw e at f) refl) (λ (e : v ≡ 2). not-both (rw e at t) refl) o

  pub one-consistent : Consistent (set_of vs)
  one-consistent a t f =
      let low = set_of-below vs (2 * a) t in
      not-both-values (get_or vs a 0) (value a (omega arith)) (sym (even-in vs a) ∙ t) (sym (odd-in vs a) ∙ f)

  pub one-complete : CompleteSet (length vs) (set_of vs)
  unfolding holds_true holds_false
  one-complete = record {
    over = set_of-below vs;
    complete = λ a b.
        ⊎_elim (λ (e : get_or vs a 0 ≡ 1). inl (even-in vs a ∙ ap holds_true e))
        (λ (e : get_or vs a 0 ≡ 2). inr (odd-in vs a ∙ ap holds_false e)) (value a b);
  }

-- An accepted table is over the literals of the values' atoms

table-over : (n : ℕ) (ws : List ℕ) → bad_rule n ws ≡ none → Over n (rules_of ws)
table-over n ws e = each_map (λ r b. (head r.head b.0, b.1, b.2)) (rules_of ws) (accepted-below n ws e)
  where
    head : (h : Head) → HeadBelow (2 * n) h → HeadOver n h
    head (lit c) b = b
    head falsum b = tt

-- 000, Proposition 3, for one value an atom
pub completion-answer-set : (vs ws : List ℕ) → bad_rule (length vs) ws ≡ none → Each OneValue vs
    → (level : ℕ → ℕ) → Tight level (rules_of ws)
    → Completion (length vs) (rules_of ws) (set_of vs) ↔ AnswerSet (rules_of ws) (set_of vs)
completion-answer-set vs ws fits one level tight =
    let by = proposition-3 level (length vs) (rules_of ws) tight (table-over (length vs) ws fits) (set_of vs) (one-complete vs one) in
    (λ h. by.1 (one-consistent vs one, h), λ h. (by.0 h).1)
