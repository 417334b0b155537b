-- One round over the rules that wait, turn by turn, and the rounds of a derivation.
-- Assumes nothing.
use mathlib.Core.Path.{◌≡◌, refl, sym, ◌∙◌, fun_ext}
use mathlib.Core.Bool.{Bool, true, false, ◌&&◌, ◌||◌, and-false, or-false}
use mathlib.Core.List.{List, [], ◌∷◌, ◌++◌, append-nil}
use mathlib.Core.Logic.{◌⊎◌, ⊎_elim, ◌≢◌}
use Prim.Native.Nat.{ℕ, ◌+◌, ◌≤◌, ◌<◌}
use native.Mathlib.Numerals.{add-one}
use native.Mathlib.Omega.{arith}
use borrow.Author.Count.{below_more}
use borrow.Author.Tests.{eqb-true}
use lib.Dec.{eqb}
use lib.ListN.{length, get_or, take, drop, set, replicate, length-set, length-take, length-replicate, get_or-replicate, drop_of_length-le}
use lib.Seq.{drop-cons, get_or-take, take-suc-set, take-set-lt, drop-set-lt, append_snoc, get_or-set_same, get_or-set_other}
use Rattle.basics.specs.Search.{all}
use Rattle.basics.proofs.Loops.{to_the_end}
use Rattle.logic_programs.specs.Literals.{Lits}
use Rattle.logic_programs.specs.AnswerSets.{Subset, Closed, reduct, literal_headed}
use Rattle.logic_programs.specs.Words.{rules_of}
use Rattle.literal_sets.specs.Marks.{marked}
use Rattle.literal_sets.proofs.Bits.{with_mark, in-clear, in-stored, length-with}
use Rattle.answer_set_theory.specs.Verdicts.{round, rounds}
use Rattle.answer_sets.specs.Internal.{head_word_at, plain_at, heads, waits_for, Waiting, EachWaiting, Begun, Made}
use Rattle.answer_set_theory.proofs.Least.{rounds-within}
use Rattle.answer_set_theory.proofs.Sets.{all-within, within-subset}
use Rattle.answer_sets.proofs.Outside.{words_from, settled, still}
use Rattle.answer_sets.proofs.Starts.{heads-append}
use Rattle.answer_sets.proofs.Judging.{round-after}

-- the first i of `count` rules are looked at, and `left` of them still wait; n and m are the lengths of the two arrays
pub record Turned (table : List ℕ) (Y : Lits) (before : List ℕ) (n m count : ℕ) (new starts waits : List ℕ) (left i : ℕ) : Type 0 where
  pub packed : left ≤ i
  pub within : i ≤ count
  pub marks-size : length new ≡ 32
  pub starts-size : length starts ≡ n
  pub waits-size : length waits ≡ m
  pub done : EachWaiting table starts waits left
  pub ahead : (j : ℕ) → i ≤ j → j < count → Waiting table (get_or starts j 0) (get_or waits j 0)
  pub bodies : (c : ℕ) → heads table (take left starts) Y c ≡ false
  pub same : (Z : Lits) → Subset Y Z → (c : ℕ)
      → (marked new c || heads table (take left starts ++ drop i (take count starts)) Z c) ≡ (Y c || heads table before Z c)

module _ (table : List ℕ) (Y : Lits) (before : List ℕ) (n m count : ℕ) (new starts waits : List ℕ) (left i : ℕ)
    (inv : Turned table Y before n m count new starts waits left i) (some-starts : count ≤ n) (some-waits : count ≤ m) where
  pub next : i < count → Waiting table (get_or starts i 0) (get_or waits i 0)
  next h = inv.ahead i (omega arith) h

  front : i < count → drop i (take count starts) ≡ get_or starts i 0 ∷ drop (i + 1) (take count starts)
  front h =
      let size : i < length (take count starts) = omega (arith, length-take count starts, inv.starts-size) in
      rw (add-one, drop-cons (take count starts) i 0 size, get_or-take)

  -- the rule leaves, and its head is marked
  leaves : i < count → waits_for (drop (get_or starts i 0) table) (get_or waits i 0) Y ≡ 65535 → (head : ℕ)
      → head ≡ head_word_at table (get_or starts i 0)
      → Turned table Y before n m count (with_mark new head) starts waits left (i + 1)
  leaves h e head is = record {
    packed = omega (arith, inv.packed);
    within = omega arith;
    marks-size = length-with new head ∙ inv.marks-size;
    starts-size = inv.starts-size;
    waits-size = inv.waits-size;
    done = inv.done;
    ahead = λ j l. inv.ahead j (omega arith);
    bodies = inv.bodies;
    same = λ Z sub c.
        rw (
          in-stored new head (omega (arith, inv.marks-size, (next h).head)) c,
          heads-append table Z c (take left starts) (drop (i + 1) (take count starts)),
        )
        (marks Z sub c (eqb head c) refl
        (rw (
          front h,
          heads-append table Z c (take left starts) (get_or starts i 0 ∷ drop (i + 1) (take count starts)),
          ← is,
        ) at (inv.same Z sub c)));
  }
    where
      marks : (Z : Lits) → Subset Y Z → (c : ℕ) (b : Bool) → eqb head c ≡ b
          → (marked new c || (heads table (take left starts) Z c
          || ((eqb head c && all Z (plain_at table (get_or starts i 0))) || heads table (drop (i + 1) (take count starts)) Z c)))
          ≡ (Y c || heads table before Z c)
          → ((b || marked new c) || (heads table (take left starts) Z c || heads table (drop (i + 1) (take count starts)) Z c))
          ≡ (Y c || heads table before Z c)
      marks Z sub c true t q =
          gained (Y c) refl (rw t at q)
        where
          full : (a b d : Bool) → (a || (b || ((true && true) || d))) ≡ true
          full true b d = refl
          full false true d = refl
          full false false d = refl

          gained : (b : Bool) → Y c ≡ b
              → (marked new c || (heads table (take left starts) Z c
              || ((true && all Z (plain_at table (get_or starts i 0))) || heads table (drop (i + 1) (take count starts)) Z c)))
              ≡ (Y c || heads table before Z c) → true ≡ (Y c || heads table before Z c)
          gained true y p = rw y
          gained false y p =
              let holds = settled table (get_or starts i 0) (get_or waits i 0) Y (next h) e (rw (← is, eqb-true head c t) y) in
              let larger : all Z (plain_at table (get_or starts i 0)) ≡ true =
              (all-within Z (plain_at table (get_or starts i 0))).1
              (within-subset sub (plain_at table (get_or starts i 0)) ((all-within Y (plain_at table (get_or starts i 0))).0 holds)) in
              sym (full (marked new c) (heads table (take left starts) Z c) (heads table (drop (i + 1) (take count starts)) Z c))
              ∙ (rw larger at p)
      marks Z sub c false f q = rw f at q

  -- the rule goes on waiting, and moves to the front
  stays : i < count → (w : ℕ) → w ≡ waits_for (drop (get_or starts i 0) table) (get_or waits i 0) Y → w ≢ 65535
      → Turned table Y before n m count new (set starts left (get_or starts i 0)) (set waits left w) (left + 1) (i + 1)
  stays h w is waiting =
      let low = inv.packed in
      let size = inv.starts-size in
      let size' = inv.waits-size in
      let s = get_or starts i 0 in
      let (lacks, held) = still table s (get_or waits i 0) Y (next h) (λ q. waiting (is ∙ q)) in
      let more : take (left + 1) (set starts left s) ≡ take left starts ++ (s ∷ []) =
      rw (add-one left, take-suc-set starts left s (omega arith)) in
      let rest : drop (i + 1) (take count (set starts left s)) ≡ drop (i + 1) (take count starts) =
      rw (take-set-lt count starts left s (omega arith), drop-set-lt (i + 1) (take count starts) left s (omega arith)) in
      record {
        packed = omega arith;
        within = omega arith;
        marks-size = inv.marks-size;
        starts-size = length-set starts left s ∙ size;
        waits-size = length-set waits left w ∙ size';
        done = below_more (λ j. Waiting table (get_or (set starts left s) j 0) (get_or (set waits left w) j 0)) left
            (λ j l. rw (
              get_or-set_other starts left j s 0 (λ q. omega arith),
              get_or-set_other waits left j w 0 (λ q. omega arith),
            ) (inv.done j l))
            (rw (get_or-set_same starts left s 0 (omega arith), get_or-set_same waits left w 0 (omega arith), is) held);
        ahead = λ j l k.
            rw (get_or-set_other starts left j s 0 (λ q. omega arith), get_or-set_other waits left j w 0 (λ q. omega arith))
            (inv.ahead j (omega arith) k);
        bodies = λ c.
            rw (more, heads-append table Y c (take left starts) (s ∷ []), inv.bodies c, lacks, and-false (eqb (head_word_at table s) c));
        same =
            λ Z sub c. rw (more, rest, append_snoc (take left starts) s (drop (i + 1) (take count starts)), ← front h) (inv.same Z sub c);
      }

  -- what a turn leaves
  pub turn : i < count → (w : ℕ) → w ≡ waits_for (words_from table (get_or starts i 0)) (get_or waits i 0) Y
      → (new' starts' waits' : List ℕ) (left' : ℕ)
      → ((w ≡ 65535) × (new' ≡ with_mark new (get_or (words_from table (get_or starts i 0)) 0 0)) × (starts' ≡ starts)
      × (waits' ≡ waits) × (left' ≡ left))
      ⊎ ((w ≢ 65535) × (new' ≡ new) × (starts' ≡ set starts left (get_or starts i 0)) × (waits' ≡ set waits left w) × (left' ≡ left + 1))
      → Turned table Y before n m count new' starts' waits' left' (i + 1)
  turn h w is new' starts' waits' left' came =
      let e = rw (to_the_end (get_or starts i 0) table) at is in
      ⊎_elim
      (λ t. rw (t.1, t.2, t.3, t.4)
      (leaves h (sym e ∙ t.0) (get_or (words_from table (get_or starts i 0)) 0 0) (rw (to_the_end (get_or starts i 0) table))))
      (λ t. rw (t.1, t.2, t.3, t.4) (stays h w e t.0))
      came

  pub turned : count ≤ i → (left ≤ count) × EachWaiting table starts waits left × Made table Y before new (take left starts)
  turned h =
      let none_ahead : take left starts ++ drop i (take count starts) ≡ take left starts =
      rw (drop_of_length-le (take count starts) {i = i} (omega (arith, length-take count starts)), append-nil) in (
        omega (arith, inv.packed, inv.within),
        inv.done,
        record {
          size = inv.marks-size;
          added = λ c. sym (or-false (marked new c)) ∙ (rw (none_ahead, inv.bodies c) at (inv.same Y (λ d e. e) c));
          kept = λ Z sub c. rw none_ahead at (inv.same Z sub c);
        },
      )

-- two arrays of one length, nothing waited for in the second
-- after k rounds: for every set between the marks and X, what is marked and the rules that wait have the heads of the whole program
pub record Reached (table : List ℕ) (X : Lits) (starts waits : List ℕ) (count : ℕ) (marks : List ℕ) (k : ℕ) : Type 0 where
  pub starts-room : count ≤ length starts
  pub waits-room : count ≤ length waits
  pub marks-size : length marks ≡ 32
  pub closed : Closed (literal_headed (reduct (rules_of table) X)) X
  pub waiting : EachWaiting table starts waits count
  pub is : marked marks ≡ rounds k (rules_of table) X
  pub covers : (Z : Lits) → Subset (marked marks) Z → Subset Z X → (c : ℕ)
      → (marked marks c || heads table (take count starts) Z c) ≡ round (rules_of table) X Z c

pub reach-start : (table : List ℕ) (X : Lits) (starts waits : List ℕ) (count : ℕ) (marks : List ℕ) → Begun table X starts count
    → (n : ℕ) → waits ≡ replicate n 65535 → count ≤ n → marks ≡ replicate 32 0 → Reached table X starts waits count marks 0
reach-start table X starts waits count marks begun n w few m =
    rw (w, m) (record {
      starts-room = begun.few;
      waits-room = rw (length-replicate {A = ℕ} n 65535) few;
      marks-size = length-replicate {A = ℕ} 32 0;
      closed = begun.closed;
      waiting = λ j l. rw (get_or-replicate {A = ℕ} n j 65535 0 (omega arith)) (begun.waiting j l);
      is = fun_ext (λ c. in-clear 32 c);
      covers = λ Z _ sub c. rw (in-clear 32 c) (begun.enough Z sub c);
    })

module _ (table : List ℕ) (X : Lits) (starts waits : List ℕ) (count : ℕ) (marks : List ℕ) (k : ℕ)
    (inv : Reached table X starts waits count marks k)
    (new after : List ℕ) (made : Made table (marked marks) (take count starts) new after) where
  -- a round over the rules that wait is a round over all
  pub round_whole : marked new ≡ round (rules_of table) X (marked marks)
  round_whole = fun_ext
      (λ c. made.added c ∙ inv.covers (marked marks) (λ d e. e) (rw inv.is (rounds-within k (rules_of table) X X inv.closed)) c)

  pub reach-next : (starts' waits' : List ℕ) (left : ℕ) → after ≡ take left starts' → left ≤ count
      → length starts' ≡ length starts → length waits' ≡ length waits
      → EachWaiting table starts' waits' left → Reached table X starts' waits' left new (k + 1)
  reach-next starts' waits' left e less size size' each = record {
    starts-room = omega (arith, inv.starts-room);
    waits-room = omega (arith, inv.waits-room);
    marks-size = made.size;
    closed = inv.closed;
    waiting = each;
    is = round-after (rules_of table) X (marked marks) k inv.is (marked new) round_whole;
    covers =
        λ Z up sub c. let wide : Subset (marked marks) Z = λ d t. up d (rw (made.added d, t)) in
        rw (← e) (made.kept Z wide c) ∙ inv.covers Z wide sub c;
  }

-- before the first rule that waits
pub turn-start : (table : List ℕ) (old starts waits : List ℕ) (count : ℕ) → length old ≡ 32 → EachWaiting table starts waits count
    → Turned table (marked old) (take count starts) (length starts) (length waits) count old starts waits 0 0
turn-start table old starts waits count size each = record {
  packed = omega arith;
  within = omega arith;
  marks-size = size;
  starts-size = refl;
  waits-size = refl;
  done = λ j l. absurd (omega arith);
  ahead = λ j l h. each j h;
  bodies = λ c. refl;
  same = λ Z sub c. refl;
}
