-- The engine accepts what is within its limits and nothing else.
-- Assumes nothing.
use mathlib.Core.Path.{◌≡◌, sym, ap, ◌∙◌}
use mathlib.Core.Logic.{◌↔◌}
use mathlib.Core.Bool.{Bool, cond}
use mathlib.Core.List.{List}
use mathlib.Core.Option.{none, some}
use Prim.Native.Nat.{ℕ, ◌*◌, ◌≤◌, ◌<◌}
use native.Mathlib.Omega.{arith}
use borrow.Author.Tests.{ltb-false, le-ltb}
use lib.Dec.{ltb}
use lib.ListN.{length}
use Rattle.basics.specs.Search.{Each}
use Rattle.basics.proofs.Tests.{each_map}
use Rattle.basics.proofs.Lists.{none-iff}
use Rattle.logic_programs.specs.Literals.{bad_value}
use Rattle.logic_programs.specs.Rules.{Head, lit, falsum, Rule}
use Rattle.logic_programs.specs.Words.{rules_of, bad_rule}
use Rattle.rule_tables.specs.Acceptance.{too_many_values}
use Rattle.answer_set_theory.specs.Limits.{LiteralOver, HeadOver, RuleOver, AcceptedValues, AcceptedTable, WithinLimits}
use Rattle.answer_set_theory.proofs.Least.{HeadBelow}
use Rattle.answer_set_theory.proofs.Decoding.{RuleBelow, CodesBelow, codes-coded, rules-words, words-accepted}
use Rattle.answer_set_theory.proofs.Decoding.{accepted-below, accepted-count, accepted-words}
use Rattle.rule_tables.proofs.Testing.{few-values}

-- Values

values-iff : (vs : List ℕ) → ((too_many_values vs ≡ none) × (bad_value vs ≡ none)) ↔ AcceptedValues vs
values-iff vs = (
  λ h. record {
    few = omega (arith, few-values vs h.0);
    small = each_map (λ v e. let b = ltb-false 3 v e in omega arith) vs ((none-iff (ltb 3) 0 vs).0 h.1);
  },
  λ a. (
    ap (λ (b : Bool). cond b (some (length vs)) none) (le-ltb 1024 (length vs) (omega (arith, a.few))),
    (none-iff (ltb 3) 0 vs).1 (each_map (λ v b. le-ltb 3 v (omega arith)) vs a.small),
  ),
)

-- Tables

module _ (n : ℕ) where
  head-iff : (h : Head) → HeadBelow (2 * n) h ↔ HeadOver n h
  head-iff (lit c) = (λ b. omega arith, λ b. omega arith)
  head-iff falsum = (λ b. tt, λ b. tt)

  parts-iff : (cs : List ℕ) → Each (λ c. c < 2 * n) cs ↔ Each (LiteralOver n) cs
  parts-iff cs = (each_map (λ c b. omega arith) cs, each_map (λ c b. omega arith) cs)

  rule-over : (r : Rule) → RuleBelow (2 * n) r → RuleOver n r
  rule-over r b =
      record { head = (head-iff r.head).0 b.0; negated = (parts-iff r.negated).0 b.1; plain = (parts-iff r.plain).0 b.2 }

  rules-below : (Π : List Rule) → Each (RuleOver n) Π → CodesBelow (2 * n) Π
  rules-below Π over =
      each_map (λ r o. ((head-iff r.head).1 o.head, (parts-iff r.negated).1 o.negated, (parts-iff r.plain).1 o.plain)) Π over

  pub table-iff : (ws : List ℕ) → bad_rule n ws ≡ none ↔ AcceptedTable n ws
  table-iff ws = (
    λ e. record {
      rules = rules_of ws;
      as-words = accepted-words n ws e;
      few = omega (arith, accepted-count n ws e);
      over = each_map rule-over (rules_of ws) (accepted-below n ws e);
    },
    λ t. rw (← t.as-words) (words-accepted n t.rules (rules-below t.rules t.over) (omega (arith, t.few))),
  )

  pub table-rules : n ≤ 1024 → (ws : List ℕ) (t : AcceptedTable n ws) → rules_of ws ≡ t.rules
  table-rules few ws t =
      ap rules_of (sym t.as-words)
      ∙ rules-words t.rules (codes-coded (2 * n) t.rules (rules-below t.rules t.over) (omega arith))

pub within-limits : (vs ws : List ℕ) → WithinLimits vs ws
within-limits vs ws = record {
  accepted-exactly = (
    λ a. ((values-iff vs).0 (a.0, a.1), (table-iff (length vs) ws).0 a.2),
    λ h. let v = (values-iff vs).1 h.0 in (v.0, v.1, (table-iff (length vs) ws).1 h.1),
  );
  judged = λ v t. table-rules (length vs) (omega (arith, v.few)) ws t;
}
