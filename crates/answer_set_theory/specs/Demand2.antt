-- Demand 2: what the engine's reply says of values and a table, by answer sets, the reduct and its least closed set.
-- Assumes nothing.
use Rattle.std.specs.Prelude.{◌≡◌, ◌↔◌, true, false, List, [], ℕ, ◌+◌, ◌*◌, length, get_or}
use Rattle.basics.specs.Search.{Lowest, Nowhere}
use Rattle.basics.specs.Replies.{Reply, answered}
use Rattle.logic_programs.specs.Literals.{Lits, set_of}
use Rattle.logic_programs.specs.Rules.{falsum, Rule}
use Rattle.logic_programs.specs.AnswerSets.{meets, reduct, Within, HeadIn, AnswerSet, literal_headed, IsLeastClosed}
use Rattle.answer_set_theory.specs.Verdicts.{Verdict, clash, broken, unfounded, passes}
use Rattle.logic_programs.specs.Words.{rules_of}
use Rattle.rule_tables.specs.Acceptance.{Accepted}

-- atom a has both values
abbrev pub Clashing : Lits → ℕ → Type 0
Clashing X a = (X (2 * a) ≡ true) × (X (2 * a + 1) ≡ true)

-- the reduct keeps the rule, its plain parts are all in X, and its head is false or not in X
abbrev pub BrokenRule : Lits → Rule → Type 0
BrokenRule X r = (meets r.negated X ≡ false) × Within r.plain X × (HeadIn r.head X → ⊥)

-- what stands for a rule past the end
abbrev pub no_rule : Rule
no_rule = record { head = falsum; negated = []; plain = [] }

-- rule i, counted from 0, is broken
abbrev pub BrokenAt : List Rule → Lits → ℕ → Type 0
BrokenAt Π X i = BrokenRule X (get_or Π i no_rule)

-- literal c is in X outside the least closed set of the reduct's rules with literal heads
abbrev pub Unfounded : List Rule → Lits → ℕ → Type 0
Unfounded Π X c = (X c ≡ true) × ((L : Lits) × IsLeastClosed (literal_headed (reduct Π X)) L × (L c ≡ false))

-- the reply to the program Π and the set X over n atoms: the first that holds of clash, broken and unfounded, each with the
-- lowest of its kind, and passes exactly if X is an answer set
pub record RightVerdict (n : ℕ) (Π : List Rule) (X : Lits) (reply : Reply Verdict) : Type 0 where
  pub clash-exactly : (a : ℕ) → reply ≡ answered (clash a) ↔ Lowest (Clashing X) n a
  pub broken-exactly : (r : ℕ) → reply ≡ answered (broken r)
      ↔ (Nowhere (Clashing X) n × Lowest (BrokenAt Π X) (length Π) r)
  pub unfounded-exactly : (c : ℕ) → reply ≡ answered (unfounded c)
      ↔ (Nowhere (Clashing X) n × Nowhere (BrokenAt Π X) (length Π) × Lowest (Unfounded Π X) (2 * n) c)
  pub passes-exactly : reply ≡ answered passes ↔ AnswerSet Π X

unfoldable pub Demand2 : List ℕ → List ℕ → Reply Verdict → Type 0
Demand2 vs ws reply = Accepted vs ws → RightVerdict (length vs) (rules_of ws) (set_of vs) reply
