-- The first literal outside a set, and what a rule waits for.
-- Assumes nothing.
use mathlib.Core.Path.{◌≡◌, refl}
use mathlib.Core.Bool.{Bool, true, false, not, cond, ◌&&◌, and-false}
use mathlib.Core.List.{List, [], ◌∷◌}
use mathlib.Core.Logic.{◌≢◌}
use Prim.Native.Nat.{ℕ, ◌-◌, ◌<◌}
use native.Mathlib.Omega.{arith}
use borrow.Author.Tests.{ltb-true}
use lib.Dec.{ltb}
use lib.ListN.{length, get_or, take, drop}
use Rattle.basics.specs.Search.{Each, all}
use Rattle.basics.proofs.Tests.{and-iff, not_iff}
use Rattle.logic_programs.specs.Literals.{Lits}
use Rattle.logic_programs.specs.Words.{rule_at}
use Rattle.answer_sets.specs.Internal.{outside, waits_for, head_word_at, plain_at, Waiting}

-- where there is none, all are in the set; where there is one, not all are, nor in any other set without it
none-outside : (Y : Lits) (cs : List ℕ) → Each (λ c. c < 2048) cs → outside Y cs ≡ 65535 → all Y cs ≡ true
none-outside Y [] low e = refl
none-outside Y (c ∷ cs) low e = go (Y c) refl (none-outside Y cs low.1) e
  where
    go : (b : Bool) → Y c ≡ b → (outside Y cs ≡ 65535 → all Y cs ≡ true) → cond b (outside Y cs) c ≡ 65535 → (Y c && all Y cs) ≡ true
    go true t ih q = rw t (ih q)
    go false f ih q = absurd (omega (arith, low.0))

one_outside : (Y Z : Lits) (cs : List ℕ) → outside Y cs ≢ 65535 → Z (outside Y cs) ≡ false → all Z cs ≡ false
one_outside Y Z [] n e = absurd (n refl)
one_outside Y Z (c ∷ cs) n e = go (Y c) refl (one_outside Y Z cs) n e
  where
    go : (b : Bool) → Y c ≡ b → (outside Y cs ≢ 65535 → Z (outside Y cs) ≡ false → all Z cs ≡ false)
        → cond b (outside Y cs) c ≢ 65535 → Z (cond b (outside Y cs) c) ≡ false → (Z c && all Z cs) ≡ false
    go true t ih m f = rw (ih m f) (and-false (Z c))
    go false q ih m f = rw f

outside-lacks : (Y : Lits) (cs : List ℕ) → outside Y cs ≢ 65535 → Y (outside Y cs) ≡ false
outside-lacks Y [] n = absurd (n refl)
outside-lacks Y (c ∷ cs) n = go (Y c) refl (outside-lacks Y cs) n
  where
    go : (b : Bool) → Y c ≡ b → (outside Y cs ≢ 65535 → Y (outside Y cs) ≡ false) → cond b (outside Y cs) c ≢ 65535
        → Y (cond b (outside Y cs) c) ≡ false
    go true t ih m = ih m
    go false f ih m = f

-- what a rule waits for, test by test
module _ (rest : List ℕ) (w : ℕ) (Y : Lits) where
  pub waits-still : (r : Bool) → r ≡ (ltb w 2048 && not (Y w)) → r ≡ true → w ≡ waits_for rest w Y
  unfolding waits_for
  waits-still r is e = rw (← is, e)

  pub waits-none : (r h : Bool) → r ≡ (ltb w 2048 && not (Y w)) → r ≡ false → h ≡ Y (get_or rest 0 0) → h ≡ true
      → 65535 ≡ waits_for rest w Y
  unfolding waits_for
  waits-none r h is e head t = rw (← is, e, ← head, t)

  pub waits-part : (r h : Bool) → r ≡ (ltb w 2048 && not (Y w)) → r ≡ false → h ≡ Y (get_or rest 0 0) → h ≡ false
      → (p : ℕ) → p ≡ outside Y (rule_at rest).plain → p ≡ waits_for rest w Y
  unfolding waits_for
  waits-part r h is e head f p q = rw (← is, e, ← head, f) q

-- a rule that waits for nothing has its head in Y, or its body holds there; one that waits for something has neither, and goes on
-- waiting
module _ (ws : List ℕ) (s w : ℕ) (Y : Lits) (held : Waiting ws s w) where
  pub settled : waits_for (drop s ws) w Y ≡ 65535 → (Y (head_word_at ws s) ≡ false) → all Y (plain_at ws s) ≡ true
  unfolding waits_for
  settled e head = go (ltb w 2048 && not (Y w)) refl e
    where
      go : (b : Bool) → (ltb w 2048 && not (Y w)) ≡ b
          → cond b w (cond (Y (head_word_at ws s)) 65535 (outside Y (plain_at ws s))) ≡ 65535 → all Y (plain_at ws s) ≡ true
      go true t q = absurd (omega (arith, ltb-true w 2048 ((and-iff (ltb w 2048) (not (Y w))).0 t).0))
      go false f q = none-outside Y (plain_at ws s) held.parts (rw head at q)

  pub still : waits_for (drop s ws) w Y ≢ 65535 → (all Y (plain_at ws s) ≡ false) × Waiting ws s (waits_for (drop s ws) w Y)
  unfolding waits_for
  still n = go (ltb w 2048 && not (Y w)) refl n
    where
      go : (b : Bool) → (ltb w 2048 && not (Y w)) ≡ b → cond b w (cond (Y (head_word_at ws s)) 65535 (outside Y (plain_at ws s))) ≢ 65535
          → (all Y (plain_at ws s) ≡ false) × Waiting ws s (cond b w (cond (Y (head_word_at ws s)) 65535 (outside Y (plain_at ws s))))
      go true t m =
          let both = (and-iff (ltb w 2048) (not (Y w))).0 t in
          (held.body (ltb-true w 2048 both.0) Y ((not_iff (Y w)).0 both.1), held)
      go false f m = part (Y (head_word_at ws s)) m
        where
          part : (b : Bool) → cond b 65535 (outside Y (plain_at ws s)) ≢ 65535
              → (all Y (plain_at ws s) ≡ false) × Waiting ws s (cond b 65535 (outside Y (plain_at ws s)))
          part true k = absurd (k refl)
          part false k = (
            one_outside Y Y (plain_at ws s) k (outside-lacks Y (plain_at ws s) k),
            record { whole = held.whole; head = held.head; parts = held.parts; body = λ b Z e. one_outside Y Z (plain_at ws s) k e },
          )

-- the words from the start of a rule on, as the code takes them
abbrev pub words_from : List ℕ → ℕ → List ℕ
words_from table s = take (length table - s) (drop s table)
