-- Internal: the rules that a derivation still has to look at, by the words at which they start. No public promise rests on it; a
-- reader may pass it over.
-- Assumes nothing.
use Rattle.std.specs.Prelude.{◌≡◌, ◌⊎◌, false, not, cond, ◌&&◌, ◌||◌, List, [], ◌∷◌, ℕ, ◌+◌, ◌*◌, ◌≤◌, ◌<◌}
use Rattle.std.proofs.Math.Option as found
use Rattle.std.specs.Prelude.{Result, Ok, Err}
use Rattle.answer_sets.specs.declared.pending.Broken.{Broken}
use Rattle.std.specs.Prelude.{eqb, ltb, length, get_or, take, drop}
use Rattle.basics.specs.Search.{Each, all}
use Rattle.logic_programs.specs.Literals.{Lits}
use Rattle.logic_programs.specs.AnswerSets.{Closed, Subset, reduct, literal_headed}
use Rattle.logic_programs.specs.Words.{rule_size, rule_at, rules_of}
use Rattle.answer_set_theory.specs.Verdicts.{round}
use Rattle.literal_sets.specs.Marks.{marked}

-- the head's word and the plain parts of the rule that starts at word s
abbrev pub head_word_at : List ℕ → ℕ → ℕ
head_word_at ws s = get_or (drop s ws) 0 0

abbrev pub plain_at : List ℕ → ℕ → List ℕ
plain_at ws s = (rule_at (drop s ws)).plain

-- the heads of the rules that start at these words and whose plain parts are all in Z
abbrev pub heads : List ℕ → List ℕ → Lits → Lits
heads ws [] Z c = false
heads ws (s ∷ ss) Z c = (eqb (head_word_at ws s) c && all Z (plain_at ws s)) || heads ws ss Z c

-- the first of some literals that is not in Y, or 65535
abbrev pub outside : Lits → List ℕ → ℕ
outside Y [] = 65535
outside Y (c ∷ cs) = cond (Y c) (outside Y cs) c

-- what the rule at the front, which waited for w, waits for now: for w as long as Y lacks it; for nothing, 65535, once its head is
-- in Y or its body holds; or else for a plain part that Y lacks
unfoldable pub waits_for : List ℕ → ℕ → Lits → ℕ
waits_for rest w Y =
    cond (ltb w 2048 && not (Y w)) w
    (cond (Y (get_or rest 0 0)) 65535
    (outside Y (rule_at rest).plain))

-- a rule starts at word s, whole, with codes below 2,048, and while it waits for w its body holds in no set without w
pub record Waiting (ws : List ℕ) (s w : ℕ) : Type 0 where
  pub whole : s + rule_size (drop s ws) ≤ length ws
  pub head : head_word_at ws s < 2048
  pub parts : Each (λ c. c < 2048) (plain_at ws s)
  pub body : w < 2048 → (Z : Lits) → Z w ≡ false → all Z (plain_at ws s) ≡ false

-- so does each of the first n starts with what it waits for
abbrev pub EachWaiting : List ℕ → List ℕ → List ℕ → ℕ → Type 0
EachWaiting ws starts waits n = (j : ℕ) → j < n → Waiting ws (get_or starts j 0) (get_or waits j 0)

-- n places are enough for every rule of an accepted table: there are 4,096 at most, of three words at least
abbrev pub Roomy : List ℕ → ℕ → Type 0
Roomy ws n = (4096 ≤ n) ⊎ (length ws ≤ 3 * n)

-- the n starts that a derivation by X begins with, where X is closed: for every part of X they have the heads of the whole program
pub record Begun (ws : List ℕ) (X : Lits) (starts : List ℕ) (n : ℕ) : Type 0 where
  pub few : n ≤ length starts
  pub closed : Closed (literal_headed (reduct (rules_of ws) X)) X
  pub waiting : (j : ℕ) → j < n → Waiting ws (get_or starts j 0) 65535
  pub enough : (Z : Lits) → Subset Z X → (c : ℕ) → heads ws (take n starts) Z c ≡ round (rules_of ws) X Z c

-- a round over the rules that start at these words, from the set Y to new marks: the heads whose bodies hold in Y are added, and
-- what is marked or still waits after it is as good as what was before, for every set that Y is part of
pub record Made (ws : List ℕ) (Y : Lits) (before new after : List ℕ) : Type 0 where
  pub size : length new ≡ 32
  pub added : (c : ℕ) → marked new c ≡ (Y c || heads ws before Y c)
  pub kept : (Z : Lits) → Subset Y Z → (c : ℕ) → (marked new c || heads ws after Z c) ≡ (Y c || heads ws before Z c)

-- the rule that the code's answer says is broken
abbrev pub broken_by : {A : Type 0} → Result A Broken → found.Option ℕ
broken_by (Ok answer) = found.none
broken_by (Err broken) = found.some broken.rule
