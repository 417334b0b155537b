-- The rule at the front of a table: its body, its head's mark, and its levels; and the marks of the heads, rule by rule.
-- Assumes nothing.
use mathlib.Core.Path.{◌≡◌, refl, sym, ap, ◌∙◌}
use mathlib.Core.Bool.{Bool, true, false, cond, not, ◌&&◌, ◌||◌, and-false}
use mathlib.Core.List.{List}
use mathlib.Core.Logic.{◌⊎◌, inl, inr}
use Prim.Native.Nat.{ℕ, ◌<◌}
use native.Mathlib.Omega.{arith}
use borrow.Author.Tests.{eqb-true, eqb-false, eq-eqb, ne_eqb}
use lib.Dec.{eqb}
use lib.ListN.{length, get_or, drop, set, length-set}
use Rattle.basics.specs.Search.{all}
use Rattle.basics.proofs.Loops.{and-stop, and-go}
use Rattle.basics.proofs.Stored.{get_d_set}
use Rattle.logic_programs.specs.Literals.{Lits, complement}
use Rattle.logic_programs.specs.Rules.{lit, falsum}
use Rattle.logic_programs.specs.Words.{head_of, rule_size, rule_at, rules_of}
use Rattle.rule_tables.specs.Internal.{Sound}
use Rattle.rule_tables.proofs.Walking.{rules-front, sound-head}
use Rattle.completion_theory.specs.Findings.{body_holds, same_head}
use Rattle.completion_theory.specs.LevelLists.{is_below, level_of, stands_above}
use Rattle.completion.specs.Internal.{marked_head, mark_of, head_of_mark, held_at}

-- a body: first its negated parts are looked at, then its plain ones
module _ (X : Lits) (ws : List ℕ) (r : Bool) (is : r ≡ all (λ c. X (complement c)) (rule_at ws).negated) where
  pub holds-stop : r ≡ false → r ≡ body_holds X (rule_at ws)
  holds-stop e = e ∙ and-stop r (all X (rule_at ws).plain) is (ap not e)

  pub holds-go : (q : Bool) → r ≡ true → q ≡ all X (rule_at ws).plain → q ≡ body_holds X (rule_at ws)
  holds-go q e plain = and-go r q is (ap not e) plain

-- a head word's mark is that of its head
same-mark : (w k : ℕ) → (w ≡ 65535 → ⊥) → w < 2048 → eqb w k ≡ same_head (lit w) (head_of_mark k)
same-mark w k literal low = go (eqb k 2048) refl
  where
    go : (b : Bool) → eqb k 2048 ≡ b → eqb w k ≡ same_head (lit w) (head_of_mark k)
    go true t = let q : k ≡ 2048 = eqb-true k 2048 t in rw t (ne_eqb w k (λ (e : w ≡ k). omega arith))
    go false f = rw f refl

false-mark : (k : ℕ) → eqb 2048 k ≡ same_head falsum (head_of_mark k)
false-mark k = go (eqb k 2048) refl
  where
    go : (b : Bool) → eqb k 2048 ≡ b → eqb 2048 k ≡ same_head falsum (head_of_mark k)
    go true t = let q : k ≡ 2048 = eqb-true k 2048 t in rw t (eq-eqb 2048 k (omega arith))
    go false f = rw f (ne_eqb 2048 k (λ (e : 2048 ≡ k). eqb-false k 2048 f (omega arith)))

module _ (ws : List ℕ) (h : 0 < length ws) (s : Sound ws) where
  -- a head word is 65535, or the code of one of 1,024 atoms' literals
  abbrev Coded : Bool → Type 0
  Coded b = eqb (get_or ws 0 0) 65535 ≡ b

  pub mark-below : (m : ℕ) → m ≡ mark_of (get_or ws 0 0) → m < 2049
  mark-below m is = go (eqb (get_or ws 0 0) 65535) refl
    where
      go : (b : Bool) → Coded b → m < 2049
      go true t = let e : m ≡ 2048 = rw t at is in omega arith
      go false f = let e : m ≡ get_or ws 0 0 = rw f at is in omega (arith, sound-head ws h s (eqb-false _ _ f))

  mark-head : (k : ℕ) → eqb (mark_of (get_or ws 0 0)) k ≡ same_head (head_of (get_or ws 0 0)) (head_of_mark k)
  mark-head k = go (eqb (get_or ws 0 0) 65535) refl
    where
      go : (b : Bool) → Coded b → eqb (mark_of (get_or ws 0 0)) k ≡ same_head (head_of (get_or ws 0 0)) (head_of_mark k)
      go true t = rw t (false-mark k)
      go false f = rw f (same-mark (get_or ws 0 0) k (eqb-false _ _ f) (sound-head ws h s (eqb-false _ _ f)))

  -- what is marked, or will be by the rules that are left
  module _ (X : Lits) (held : List Bool) (k : ℕ) where
    held-front : (marked_head held k || held_at (rules_of ws) X k)
        ≡ (marked_head held k
        || ((same_head (head_of (get_or ws 0 0)) (head_of_mark k) && body_holds X (rule_at ws))
        || held_at (rules_of (drop (rule_size ws) ws)) X k))
    held-front = rw (rules-front ws h)

    held-idle : {R : Bool} → (marked_head held k || held_at (rules_of ws) X k) ≡ R → body_holds X (rule_at ws) ≡ false
        → (marked_head held k || held_at (rules_of (drop (rule_size ws) ws)) X k) ≡ R
    held-idle inv e = rw (held-front, e, and-false (same_head (head_of (get_or ws 0 0)) (head_of_mark k))) at inv

    held-mark : {R : Bool} → (marked_head held k || held_at (rules_of ws) X k) ≡ R → body_holds X (rule_at ws) ≡ true
        → mark_of (get_or ws 0 0) < length held
        → (marked_head (set held (mark_of (get_or ws 0 0)) true) k || held_at (rules_of (drop (rule_size ws) ws)) X k) ≡ R
    held-mark inv e below =
        rw (get_d_set held (mark_of (get_or ws 0 0)) true false below k, mark-head k)
        (joined (same_head (head_of (get_or ws 0 0)) (head_of_mark k)) (marked_head held k) _ ∙ (rw (held-front, e) at inv))
      where
        joined : (q m rest : Bool) → (cond q true m || rest) ≡ (m || ((q && true) || rest))
        joined true true rest = refl
        joined true false rest = refl
        joined false true rest = refl
        joined false false rest = refl

  -- a turn: the mark of the rule's head is set, or nothing is
  pub held-turn : (X : Lits) (old new : List Bool) (r : Bool) (m : ℕ) → r ≡ body_holds X (rule_at ws) → m ≡ mark_of (get_or ws 0 0)
      → ((r ≡ true) × (new ≡ set old m true)) ⊎ ((r ≡ false) × (new ≡ old)) → length old ≡ 2049 → {R : Lits}
      → ((k : ℕ) → (marked_head old k || held_at (rules_of ws) X k) ≡ R k)
      → (length new ≡ 2049) × ((k : ℕ) → (marked_head new k || held_at (rules_of (drop (rule_size ws) ws)) X k) ≡ R k)
  held-turn X old new r m is at_mark (inl w) size inv = (
    rw w.1 (length-set old m true ∙ size),
    λ k. rw (w.1, at_mark)
        (held-mark X old k (inv k) (sym is ∙ w.0) (omega (arith, mark-below m at_mark))),
  )
  held-turn X old new r m is at_mark (inr w) size inv = (
    rw w.1 size,
    λ k. rw w.1 (held-idle X old k (inv k) (sym is ∙ w.0)),
  )

-- the head at the front stands above the plain parts
module _ (levels ws : List ℕ) where
  pub literal-above : (top : ℕ) (r : Bool) → (get_or ws 0 0 ≡ 65535 → ⊥) → top ≡ level_of levels (get_or ws 0 0)
      → r ≡ all (is_below levels top) (rule_at ws).plain → r ≡ stands_above levels (rule_at ws)
  literal-above top r literal is parts = rw (ne_eqb (get_or ws 0 0) 65535 literal) (rw is at parts)
