-- Going through the rules once: the lowest that is broken, and the starts of the rules that a derivation has to look at.
-- Assumes nothing.
use mathlib.Core.Path.{◌≡◌, refl, sym, ◌∙◌, ap}
use mathlib.Core.Bool.{Bool, true, false, not, ◌&&◌, ◌||◌, and-false, or-false, false≢true}
use mathlib.Core.List.{List, [], ◌∷◌, ◌++◌}
use mathlib.Core.Option.{none, some}
use mathlib.Core.Logic.{◌⊎◌, ⊎_elim}
use Prim.Native.Nat.{ℕ, ◌+◌, ◌*◌, ◌≤◌, ◌<◌}
use native.Mathlib.Numerals.{add-one}
use native.Mathlib.Omega.{arith}
use borrow.Author.Count.{below_more}
use borrow.Author.Tests.{eqb-false}
use lib.Dec.{eqb}
use lib.ListN.{length, get_or, take, drop, set, length-set, length-drop}
use lib.Seq.{take-suc-set, drop-drop, get_or-drop, get_or-set_same, get_or-set_other}
use Rattle.basics.specs.Search.{all, first}
use Rattle.basics.proofs.Tests.{not-both, false_of_not, and-iff, each_map}
use Rattle.logic_programs.specs.Literals.{Lits}
use Rattle.logic_programs.specs.AnswerSets.{Subset}
use Rattle.logic_programs.specs.Words.{rule_size, rule_at, head_of, rules_of}
use Rattle.rule_tables.specs.Bodies.{applies, head_in, front_applies}
use Rattle.rule_tables.specs.Internal.{Sound}
use Rattle.rule_tables.proofs.Fronts.{whole-applies}
use Rattle.rule_tables.proofs.Walking.{rules-front, rules-end, rule-stop, rule-go, rule_end, sound-size, sound-head}
use Rattle.rule_tables.proofs.Walking.{sound-few, sound-fits, sound-rest, sound-before}
use Rattle.answer_set_theory.specs.Verdicts.{round, head_is, is_broken}
use Rattle.answer_sets.specs.Internal.{head_word_at, plain_at, heads, Waiting, Begun, Roomy}
use Rattle.answer_set_theory.proofs.Least.{applies-subset}
use Rattle.answer_set_theory.proofs.Passes.{unbroken-closed}
use Rattle.answer_set_theory.proofs.Decoding.{accepted-rule}

or_assoc : (a b c : Bool) → (a || (b || c)) ≡ ((a || b) || c)
or_assoc true b c = refl
or_assoc false b c = refl

pub heads-append : (ws : List ℕ) (Z : Lits) (c : ℕ) (ss rs : List ℕ) → heads ws (ss ++ rs) Z c ≡ (heads ws ss Z c || heads ws rs Z c)
heads-append ws Z c [] rs = refl
heads-append ws Z c (s ∷ ss) rs =
    rw (heads-append ws Z c ss rs) (or_assoc (eqb (head_word_at ws s) c && all Z (plain_at ws s)) (heads ws ss Z c) (heads ws rs Z c))

-- the array of starts has n places; before word `at` are as many rules as `rule` says, none of them broken, and `count` of them apply in X;
-- rest is what is left. A rule takes 131,073 words at most
pub record Scanned (table : List ℕ) (X : Lits) (n : ℕ) (starts rest : List ℕ) (at rule count : ℕ) : Type 0 where
  pub behind : rest ≡ drop at table
  pub sound : Sound rest
  pub numbered : rule ≤ sound.before
  pub few : count ≤ rule
  pub fits : count ≤ n
  pub low : at ≤ 131073 * rule
  pub high : 3 * rule ≤ at
  pub size : length starts ≡ n
  pub roomy : Roomy table n
  pub unbroken : first (is_broken X) rule (rules_of rest) ≡ first (is_broken X) 0 (rules_of table)
  pub waiting : (j : ℕ) → j < count → Waiting table (get_or starts j 0) 65535
  pub enough : (Z : Lits) → Subset Z X → (c : ℕ)
      → (heads table (take count starts) Z c || round (rules_of rest) X Z c) ≡ round (rules_of table) X Z c

literal-head : (X : Lits) (w : ℕ) → head_in (head_of w) X ≡ true → eqb w 65535 ≡ false
literal-head X w e = false_of_not (eqb w 65535) (λ t. false≢true (rw t at e))

-- the rule at the front: sound, and so whole
module _ (table : List ℕ) (X : Lits) (n : ℕ) (starts rest : List ℕ) (at rule count : ℕ)
    (inv : Scanned table X n starts rest at rule count) (h : 0 < length rest) where
  pub below : rule < 4096
  below = omega (arith, sound-few rest h inv.sound, inv.numbered)

  pub here : rule_size rest ≤ length rest
  here = sound-size rest h inv.sound

  pub up_to : at + length rest ≤ length table
  up_to = let size : length rest ≡ length (drop at table) = ap length inv.behind in omega (arith, length-drop at table)

  pub room : count < n
  room = ⊎_elim (λ all. omega (arith, below, inv.few)) (λ short. omega (arith, here, up_to, inv.few, inv.high)) inv.roomy

  on : drop (rule_size rest) rest ≡ drop (at + rule_size rest) table
  on = ap (λ (l : List ℕ). drop (rule_size rest) l) inv.behind ∙ drop-drop (rule_size rest) at table

  rest-enough : (Z : Lits) → Subset Z X → (c : ℕ)
      → (heads table (take count starts) Z c
      || ((head_is (head_of (get_or rest 0 0)) c && applies X Z (rule_at rest)) || round (rules_of (drop (rule_size rest) rest)) X Z c))
      ≡ round (rules_of table) X Z c
  rest-enough Z sub c = rw (rules-front rest h) at (inv.enough Z sub c)

  -- it is broken
  pub scan-stop : (a i : Bool) → a ≡ front_applies X X rest → a ≡ true → i ≡ head_in (head_of (get_or rest 0 0)) X → i ≡ false
      → some rule ≡ first (is_broken X) 0 (rules_of table)
  scan-stop a i is t head f =
      let applied = sym (whole-applies X X rest here is) ∙ t in
      let lacks = sym head ∙ f in
      rule-stop (is_broken X) rule rest h inv.unbroken (rw (applied, lacks))

  module _ (small : (k : ℕ) → get_or table k 0 < 65536) where
    step : at + rule_size rest ≤ 131073 * (rule + 1)
    step = omega (arith, inv.low, word 1, word 2)
      where
        word : (i : ℕ) → get_or rest i 0 < 65536
        word i = rw (inv.behind, get_or-drop at table i 0) (small (at + i))

    -- it does not apply in X, nor in a part of X
    passes-by : applies X X (rule_at rest) ≡ false
        → Scanned table X n starts (drop (rule_size rest) rest) (at + rule_size rest) (rule + 1) count
    passes-by a = record {
      behind = on;
      sound = sound-rest rest h inv.sound;
      numbered = omega (arith, sound-before rest h inv.sound, inv.numbered);
      few = omega (arith, inv.few);
      fits = inv.fits;
      low = step;
      high = omega (arith, inv.high);
      size = inv.size;
      roomy = inv.roomy;
      unbroken = rule-go (is_broken X) rule rest h inv.unbroken (rw a);
      waiting = inv.waiting;
      enough = λ Z sub c.
          let idle : applies X Z (rule_at rest) ≡ false =
          false_of_not (applies X Z (rule_at rest)) (λ t. not-both (applies-subset X sub (rule_at rest) t) a) in
          rw (idle, and-false (head_is (head_of (get_or rest 0 0)) c)) at (rest-enough Z sub c);
    }

    -- it applies in X, which has its head: its start is stored
    keeps : applies X X (rule_at rest) ≡ true → head_in (head_of (get_or rest 0 0)) X ≡ true
        → Scanned table X n (set starts count at) (drop (rule_size rest) rest) (at + rule_size rest) (rule + 1) (count + 1)
    keeps a i = record {
      behind = on;
      sound = sound-rest rest h inv.sound;
      numbered = omega (arith, sound-before rest h inv.sound, inv.numbered);
      few = omega (arith, inv.few);
      fits = omega (arith, room);
      low = step;
      high = omega (arith, inv.high);
      size = length-set starts count at ∙ inv.size;
      roomy = inv.roomy;
      unbroken = rule-go (is_broken X) rule rest h inv.unbroken (rw (a, i));
      waiting = below_more (λ j. Waiting table (get_or (set starts count at) j 0) 65535) count
          (λ j l. rw (get_or-set_other starts count j at 0 (λ q. omega arith)) (inv.waiting j l))
          (rw (get_or-set_same starts count at 0 (omega (arith, room, inv.size))) starting);
      enough = λ Z sub c.
          rw (
            add-one count,
            take-suc-set starts count at (omega (arith, room, inv.size)),
            heads-append table Z c (take count starts) (at ∷ []),
            ← inv.behind,
          )
          (joined (heads table (take count starts) Z c) (eqb (get_or rest 0 0) c && all Z (rule_at rest).plain)
          (round (rules_of (drop (rule_size rest) rest)) X Z c)
          ∙ (rw (literal-head X (get_or rest 0 0) i, kept) at (rest-enough Z sub c)));
    }
      where
        joined : (p b q : Bool) → ((p || (b || false)) || q) ≡ (p || (b || q))
        joined true b q = refl
        joined false true q = refl
        joined false false q = refl

        kept : all (λ d. not (X d)) (rule_at rest).negated ≡ true
        kept = ((and-iff (all (λ d. not (X d)) (rule_at rest).negated) (all X (rule_at rest).plain)).0 a).0

        starting : Waiting table at 65535
        starting = record {
          whole = rw (← inv.behind) (omega (arith, here, up_to));
          head = rw (← inv.behind) (sound-head rest h inv.sound (eqb-false _ _ (literal-head X (get_or rest 0 0) i)));
          parts =
              rw (← inv.behind) (each_map (λ c b. omega (arith, inv.sound.few)) (rule_at rest).plain
              (accepted-rule inv.sound.atoms rest (sound-fits rest h inv.sound)).2);
          body = λ b. absurd (omega arith);
        }

    pub scan-turn : {a : Bool} → a ≡ front_applies X X rest → (starts' : List ℕ) (count' : ℕ)
        → ((a ≡ true) × ((i : Bool) × (i ≡ head_in (head_of (get_or rest 0 0)) X) × (i ≡ true))
        × (starts' ≡ set starts count at) × (count' ≡ count + 1))
        ⊎ ((a ≡ false) × (starts' ≡ starts) × (count' ≡ count))
        → Scanned table X n starts' (drop (rule_size rest) rest) (at + rule_size rest) (rule + 1) count'
    scan-turn is starts' count' came =
        let e = whole-applies X X rest here is in
        ⊎_elim
        (λ w. rw (w.2, w.3) (keeps (sym e ∙ w.0) (sym w.1.1 ∙ w.1.2)))
        (λ w. rw (w.1, w.2) (passes-by (sym e ∙ w.0)))
        came

module _ (table : List ℕ) (X : Lits) (n : ℕ) (starts rest : List ℕ) (at rule count : ℕ)
    (inv : Scanned table X n starts rest at rule count) (h : length rest ≤ 0) where
  pub scan-unbroken : none ≡ first (is_broken X) 0 (rules_of table)
  scan-unbroken = rule_end (is_broken X) rule rest h inv.unbroken

  pub scan-done : Begun table X starts count
  scan-done = record {
    few = omega (arith, inv.fits, inv.size);
    closed = unbroken-closed (rules_of table) X (sym scan-unbroken);
    waiting = inv.waiting;
    enough = λ Z sub c. sym (or-false _) ∙ (rw (rules-end rest h) at (inv.enough Z sub c));
  }

-- before the first rule of the table
pub scan-start : (table : List ℕ) (X : Lits) (starts : List ℕ) → Sound table → Roomy table (length starts)
    → Scanned table X (length starts) starts table 0 0 0
scan-start table X starts s roomy = record {
  behind = refl;
  sound = s;
  numbered = omega arith;
  few = omega arith;
  fits = omega arith;
  low = omega arith;
  high = omega arith;
  size = refl;
  roomy = roomy;
  unbroken = refl;
  waiting = λ j l. absurd (omega arith);
  enough = λ Z sub c. refl;
}
