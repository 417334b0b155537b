-- Worked examples of the definitions themselves and not of the verdict: sets that are answer sets and sets that are not, a
-- reduct, a least closed set, and the words of rules.
-- Assumes nothing.
use Rattle.std.specs.Prelude.{◌≡◌, true, false, ◌||◌, List, [], ◌∷◌, map, ℕ, ◌+◌, eqb}
use Rattle.basics.specs.Search.{Each, chosen, range}
use Rattle.logic_programs.specs.Literals.{Lits, complement, set_of, OneValue, none_or_both}
use Rattle.logic_programs.specs.ValueFaults.{missing, clash, neither, value_fault, or_fault}
use Rattle.logic_programs.specs.Rules.{Head, lit, falsum, Rule}
use Rattle.logic_programs.specs.AnswerSets.{PositiveRule, reduct, Closed, ProperSubset, Consistent, AnswerSet}
use Rattle.logic_programs.specs.AnswerSets.{literal_headed, IsLeastClosed}
use Rattle.logic_programs.specs.Words.{words, rules_of}

-- the set of the listed literals
abbrev pub codes : List ℕ → Lits
codes [] c = false
codes (d ∷ ds) c = eqb c d || codes ds c

-- p, q and r are atoms 0, 1 and 2
abbrev pub p : ℕ
p = 0

abbrev pub ¬p : ℕ
¬p = 1

abbrev pub q : ℕ
q = 2

abbrev pub r : ℕ
r = 4

-- head ← plain parts, not negated parts
abbrev pub rule : Head → List ℕ → List ℕ → Rule
rule head plain negated = record { head = head; negated = negated; plain = plain }

abbrev pub positive : Head → List ℕ → PositiveRule
positive head body = record { head = head; body = body }

-- a program and an answer set of it
pub record ListedSet : Type 0 where
  pub program : List Rule
  pub set : List ℕ

abbrev pub IsAnswerSet : ListedSet → Type 0
IsAnswerSet e = AnswerSet e.program (codes e.set)

abbrev pub answer_sets : List ListedSet
answer_sets =
    record { program = []; set = [] }
    -- p ← p
    ∷ record { program = rule (lit p) (p ∷ []) [] ∷ []; set = [] }
    -- ⊥ ← p
    ∷ record { program = rule falsum (p ∷ []) [] ∷ []; set = [] }
    -- p; q ← p
    ∷ record { program = rule (lit p) [] [] ∷ rule (lit q) (p ∷ []) [] ∷ []; set = p ∷ q ∷ [] }
    -- p ← not q
    ∷ record { program = rule (lit p) [] (q ∷ []) ∷ []; set = p ∷ [] }
    -- p ← not ¬p; ¬p ← not p
    ∷ record { program = rule (lit p) [] (¬p ∷ []) ∷ rule (lit ¬p) [] (p ∷ []) ∷ []; set = p ∷ [] }
    ∷ record { program = rule (lit p) [] (¬p ∷ []) ∷ rule (lit ¬p) [] (p ∷ []) ∷ []; set = ¬p ∷ [] }
    ∷ []

-- why a set is no answer set: an atom has both values, it is not closed under the reduct, or this smaller one is closed too
pub data Reason : Type 0 where
  inconsistent : Reason
  unclosed : Reason
  smaller : List ℕ → Reason

abbrev pub Shown : Reason → List Rule → Lits → Type 0
Shown inconsistent Π X = Consistent X → ⊥
Shown unclosed Π X = Closed (reduct Π X) X → ⊥
Shown (smaller cs) Π X = ProperSubset (codes cs) X × Closed (reduct Π X) (codes cs)

-- a program and a set that is no answer set of it
pub record OtherSet : Type 0 where
  pub program : List Rule
  pub set : List ℕ
  pub reason : Reason

abbrev pub IsOther : OtherSet → Type 0
IsOther e = Shown e.reason e.program (codes e.set) × (AnswerSet e.program (codes e.set) → ⊥)

abbrev pub other_sets : List OtherSet
other_sets =
    record { program = []; set = p ∷ []; reason = smaller [] }
    -- p ← p
    ∷ record { program = rule (lit p) (p ∷ []) [] ∷ []; set = p ∷ []; reason = smaller [] }
    -- p; q ← q: the smaller set isn't empty
    ∷ record { program = rule (lit p) [] [] ∷ rule (lit q) (q ∷ []) [] ∷ []; set = p ∷ q ∷ []; reason = smaller (p ∷ []) }
    -- p; q ← p
    ∷ record { program = rule (lit p) [] [] ∷ rule (lit q) (p ∷ []) [] ∷ []; set = p ∷ []; reason = unclosed }
    -- p; ⊥ ← p
    ∷ record { program = rule (lit p) [] [] ∷ rule falsum (p ∷ []) [] ∷ []; set = p ∷ []; reason = unclosed }
    -- p ← not p
    ∷ record { program = rule (lit p) [] (p ∷ []) ∷ []; set = []; reason = unclosed }
    ∷ record { program = rule (lit p) [] (p ∷ []) ∷ []; set = p ∷ []; reason = smaller [] }
    -- p; ¬p
    ∷ record { program = rule (lit p) [] [] ∷ rule (lit ¬p) [] [] ∷ []; set = p ∷ ¬p ∷ []; reason = inconsistent }
    ∷ []

-- p ← not r; q ← p, not r; r ← p, not q; ⊥ ← r, not ¬p, and its reduct by {p, q}: the third rule is dropped
abbrev pub four : List Rule
four =
    rule (lit p) [] (r ∷ [])
    ∷ rule (lit q) (p ∷ []) (r ∷ [])
    ∷ rule (lit r) (p ∷ []) (q ∷ [])
    ∷ rule falsum (r ∷ []) (¬p ∷ [])
    ∷ []

abbrev pub four_reduct : List PositiveRule
four_reduct = positive (lit p) [] ∷ positive (lit q) (p ∷ []) ∷ positive falsum (r ∷ []) ∷ []

-- rules 0, 1, 2, 6 and 7 of 01's recipe, and their words
abbrev pub recipe_rules : List Rule
recipe_rules =
    rule (lit 8) (4 ∷ []) []
    ∷ rule falsum (4 ∷ 0 ∷ []) []
    ∷ rule (lit 6) (0 ∷ []) (7 ∷ [])
    ∷ rule (lit 1) [] (0 ∷ [])
    ∷ rule (lit 0) [] (1 ∷ [])
    ∷ []

abbrev pub recipe_words : List ℕ
recipe_words =
    8 ∷ 0 ∷ 1 ∷ 4
    ∷ 65535 ∷ 0 ∷ 2 ∷ 4 ∷ 0
    ∷ 6 ∷ 1 ∷ 1 ∷ 7 ∷ 0
    ∷ 1 ∷ 1 ∷ 0 ∷ 0
    ∷ 0 ∷ 1 ∷ 0 ∷ 1
    ∷ []

-- values, and what is said of them: both below none, none below both, and one value each
abbrev pub faulty : List (List ℕ)
faulty = (1 ∷ 3 ∷ 0 ∷ []) ∷ (2 ∷ 0 ∷ 3 ∷ []) ∷ (1 ∷ 2 ∷ []) ∷ []

-- all of it: each set is an answer set or is not, for the reason given; the reduct and its least closed set; the words of
-- the rules and back; the literals that four value bytes stand for, which values are one value, the fault of values and what is
-- said of it, and complements
pub record DefinitionsHold : Type 0 where
  pub answer-sets : Each IsAnswerSet answer_sets
  pub other-sets : Each IsOther other_sets
  pub reduct-drops : reduct four (codes (p ∷ q ∷ [])) ≡ four_reduct
  pub least : IsLeastClosed (literal_headed four_reduct) (codes (p ∷ q ∷ []))
  pub not-closed : IsLeastClosed (literal_headed four_reduct) (codes (p ∷ [])) → ⊥
  pub not_least : IsLeastClosed (literal_headed four_reduct) (codes (p ∷ q ∷ r ∷ [])) → ⊥
  pub written : words recipe_rules ≡ recipe_words
  pub decoded : rules_of recipe_words ≡ recipe_rules
  pub held : chosen (set_of (0 ∷ 1 ∷ 2 ∷ 3 ∷ [])) (range 0 8) ≡ 2 ∷ 5 ∷ 6 ∷ 7 ∷ []
  pub one_value : Each OneValue (1 ∷ 2 ∷ [])
  pub not-one-value : Each (λ v. OneValue v → ⊥) (0 ∷ 3 ∷ [])
  pub none-or-both : map none_or_both (0 ∷ 1 ∷ 2 ∷ 3 ∷ []) ≡ true ∷ false ∷ false ∷ true ∷ []
  pub faults : map value_fault faulty ≡ clash 1 ∷ missing 1 ∷ neither ∷ []
  pub said : map (λ vs. or_fault (value_fault vs) (λ a. 10 + a) (λ a. 20 + a) 0) faulty ≡ 21 ∷ 11 ∷ 0 ∷ []
  pub complements : map complement (p ∷ ¬p ∷ r ∷ 5 ∷ []) ≡ ¬p ∷ p ∷ 5 ∷ r ∷ []
