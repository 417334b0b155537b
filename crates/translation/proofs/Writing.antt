-- What the writers' proofs share: runs of stores one behind the other, and the products that times make.
-- Assumes nothing.
use mathlib.Core.Path.{◌≡◌, refl, sym, ap, ◌∙◌}
use mathlib.Core.List.{List, [], ◌∷◌, ◌++◌, append_assoc, append-nil}
use Prim.Native.Nat.{ℕ, suc, ◌+◌, ◌*◌, ◌≤◌, zero, ◌-◌, ◌/◌, ◌%◌, ◌<◌}
use native.Mathlib.Nat.{mul-le-mul, add-zero, zero-add, add-suc, suc-add}
use native.Mathlib.Omega.{arith}
use native.Mathlib.Numerals.{add-one}
use lib.ListN.{length, drop, length-append, get_or, get_or-append}
use borrow.Rule.Slice.PartMut.{put_mid}
use Rattle.std.proofs.lemmas.Slice.{put_mid-paste}
use lib.Seq.{take_all, sets, length-sets, sets-eq, get_or-append-add}
use Rattle.basics.specs.Search.{range}
use Rattle.action_language.specs.declared.Kind.{Kind}
use Rattle.action_language.specs.declared.Kind.TheVariants.{Static, Dynamic}
use Rattle.action_language.specs.declared.Law.{Law}
use Rattle.translation_rules.specs.RuleForms.{choices}
use Rattle.translation_rules.specs.Rules.{static_rules, dynamic_rules, per_law, action_atoms, translation}
use Rattle.translation.specs.declared.writers.Writer.{Writer}
use Rattle.translation.specs.Internal.{law_rules}
use Rattle.translation.specs.Writers.{Wrote}
use Rattle.logic_programs.specs.Rules.{Rule}
use Rattle.logic_programs.specs.Words.{words}
use Rattle.translation_rules.proofs.Counts.{words_append}
use mathlib.Core.Logic.{⊎_elim}
use borrow.Author.Tests.{ltb-true, ltb-false}
use lib.Dec.{ltb}
use Rattle.basics.proofs.Tests.{true-or-false}

pub product-bound : (t n a b : ℕ) → t ≤ a → n ≤ b → t * n ≤ a * b
product-bound t n a b p q = mul-le-mul p q

-- a run of stores is made of two, one behind the other
pub sets-append : (l : List ℕ) (i : ℕ) (xs ys : List ℕ) → sets l i (xs ++ ys) ≡ sets (sets l i xs) (i + length xs) ys
sets-append l i [] ys = rw add-zero
sets-append l i (x ∷ xs) ys = rw (add-suc, ← suc-add) (sets-append _ (suc i) xs ys)

-- a part of the table after a copy into it
pub copied : (table : List ℕ) (at n : ℕ) (ys ws : List ℕ) → ys ≡ ws → n ≡ length ws → at + n ≤ length table
    → put_mid at n table ys ≡ sets table at ws
copied table at n ys ws e size fits =
    put_mid-paste at n table ys ws n e refl size ∙ rw (take_all n ws (omega arith), size) (sym (sets-eq ws table at (omega arith)))

-- What a loop of a writer keeps: the words ws that are left for the table behind its place come to the words ws₀ that were to be
-- stored when it began.
pub record Left (now : Writer) (ws : List ℕ) (old : Writer) (ws₀ : List ℕ) : Type 0 where
  pub same_table : now.table.ghost_name ≡ old.table.ghost_name
  pub as_long : length now.table.now ≡ length old.table.now
  pub ends : now.at + length ws ≡ old.at + length ws₀
  pub stores : sets now.table.now now.at ws ≡ sets old.table.now old.at ws₀

-- the words that a turn stores, and those left for later turns
pub record Split (ws : List ℕ) : Type 0 where
  pub first : List ℕ
  pub rest : List ℕ
  pub whole : ws ≡ first ++ rest

abbrev pub front : (xs ys : List ℕ) → Split (xs ++ ys)
front xs ys = record { first = xs; rest = ys; whole = refl }

abbrev pub last : (xs : List ℕ) → Split xs
last xs = record { first = xs; rest = []; whole = sym (append-nil xs) }

module _ {now : Writer} {ws : List ℕ} {old : Writer} {ws₀ : List ℕ} (left : Left now ws old ws₀) where
  -- a turn has stored the first of them
  pub wrote : (s : Split ws) {next : Writer} → Wrote s.first now next → Left next s.rest old ws₀
  wrote s {next} w =
      record {
        same_table = w.same_table ∙ left.same_table;
        as_long = rw (w.stored, length-sets now.table.now now.at s.first) left.as_long;
        ends = omega (arith, length-append s.first s.rest, ap length s.whole, left.ends, w.behind);
        stores = rw (w.stored, w.behind, ← sets-append now.table.now now.at s.first s.rest, ← s.whole) left.stores;
      }

  -- there is room for the first of them
  pub room : (s : Split ws) → old.at + length ws₀ ≤ length old.table.now → now.at + length s.first ≤ length now.table.now
  room s h = omega (arith, length-append s.first s.rest, ap length s.whole, left.ends, left.as_long)

  -- none is left
  pub ended : ws ≡ [] → Wrote ws₀ old now
  ended e =
      record { same_table = left.same_table; behind = omega (arith, ap length e, left.ends); stored = rw e at left.stores }

-- all of them are left
pub begun : (now : Writer) (ws ws₀ : List ℕ) → ws ≡ ws₀ → Left now ws now ws₀
begun now ws ws₀ e = rw e (record { same_table = refl; as_long = refl; ends = refl; stores = refl })

pub choices-append : (Bs Cs : List ℕ) → choices (Bs ++ Cs) ≡ choices Bs ++ choices Cs
choices-append [] Cs = refl
choices-append (B ∷ Bs) Cs = rw (choices-append Bs Cs)

per_law-ext : (f g : Kind → Law → List Rule) → ((k : Kind) (l : Law) → f k l ≡ g k l) → (ls : List Law) → per_law f ls ≡ per_law g ls
per_law-ext f g same [] = refl
per_law-ext f g same (l ∷ ls) = rw (same l.kind l, per_law-ext f g same ls)

-- the words of a translation, pass by pass
module _ (n m T : ℕ) (ls : List Law) where
  abbrev pub static_words : List ℕ
  static_words = words (per_law (law_rules (n + m) (T + 1) 0) ls)

  abbrev pub dynamic_words : List ℕ
  dynamic_words = words (per_law (law_rules (n + m) 0 T) ls)

  abbrev pub fluent_words : List ℕ
  fluent_words = words (choices (range 0 n))

  abbrev pub action_words : List ℕ
  action_words = words (choices (action_atoms n m 0 T))

  static-pass : (k : Kind) (l : Law) → static_rules (n + m) T k l ≡ law_rules (n + m) (T + 1) 0 k l
  static-pass Static l = rw (add-one T)
  static-pass Dynamic l = refl

  dynamic-pass : (k : Kind) (l : Law) → dynamic_rules (n + m) T k l ≡ law_rules (n + m) 0 T k l
  dynamic-pass Static l = refl
  dynamic-pass Dynamic l = refl

  pub passes : words (translation n m T ls) ≡ static_words ++ (dynamic_words ++ (fluent_words ++ action_words))
  unfolding translation
  passes =
      let e : 0 * (n + m) + 0 ≡ 0 = omega arith in
      rw (e, per_law-ext _ _ static-pass ls, per_law-ext _ _ dynamic-pass ls) (simp (choices-append, words_append, append_assoc))

-- stores from the first place on replace the front
pub sets-front : (ws l : List ℕ) → 0 + length ws ≤ length l → sets l 0 ws ≡ ws ++ drop (length ws) l
sets-front ws l h = sets-eq ws l 0 h ∙ rw (zero-add (length ws))

-- a word of the choices of a range is one of the choices of an atom
pub choices-at : (first count i : ℕ) → i < 8 * count
    → get_or (words (choices (range first count))) i 0 ≡ get_or (words (choices ((first + i / 8) ∷ []))) (i % 8) 0
choices-at first zero i h = absurd (omega arith)
choices-at first (suc count) i h =
    ⊎_elim (λ t. here (ltb-true i 8 t)) (λ f. later (ltb-false i 8 f) (choices-at (suc first) count (i - 8))) (true-or-false (ltb i 8))
  where
    this : List ℕ
    this = words (choices (first ∷ []))

    rest : List ℕ
    rest = words (choices (range (suc first) count))

    here : i < 8 → get_or (this ++ rest) i 0 ≡ get_or (words (choices ((first + i / 8) ∷ []))) (i % 8) 0
    here b =
        let time : first + i / 8 ≡ first = omega arith in
        let place : i % 8 ≡ i = omega arith in
        rw (time, place) (get_or-append this rest 0 i b)

    later : 8 ≤ i
        → (i - 8 < 8 * count → get_or rest (i - 8) 0 ≡ get_or (words (choices ((suc first + (i - 8) / 8) ∷ []))) ((i - 8) % 8) 0)
        → get_or (this ++ rest) i 0 ≡ get_or (words (choices ((first + i / 8) ∷ []))) (i % 8) 0
    later b next =
        let time : suc first + (i - 8) / 8 ≡ first + i / 8 = omega arith in
        let place : (i - 8) % 8 ≡ i % 8 = omega arith in
        let behind : 8 + (i - 8) ≡ i = omega arith in
        rw behind at (get_or-append-add this rest (i - 8) 0) ∙ rw (time, place) at (next (omega arith))
