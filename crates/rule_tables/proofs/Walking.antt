-- Going through a table rule by rule: its words decode to its rules in steps, the rule at the front of sound words and the words
-- behind it, and the search for a first rule.
-- Assumes nothing.
use mathlib.Core.Path.{◌≡◌, refl, sym, ◌∙◌, ap}
use mathlib.Core.Bool.{Bool, true, false, cond, ◌&&◌}
use mathlib.Core.List.{List, [], ◌∷◌}
use mathlib.Core.Option.{Option, none, some}
use mathlib.Core.Logic.{⊎_elim}
use Prim.Native.Nat.{ℕ, zero, suc, ◌+◌, ◌*◌, ◌≤◌, ◌<◌}
use native.Mathlib.Numerals.{add-one}
use native.Mathlib.Omega.{arith}
use borrow.Author.Tests.{ltb-true, eqb-true}
use lib.Dec.{ltb}
use lib.ListN.{length, get_or, drop}
use Rattle.basics.specs.Search.{first}
use Rattle.basics.proofs.Tests.{or-iff}
use Rattle.logic_programs.specs.Rules.{Rule}
use Rattle.logic_programs.specs.Words.{rule_size, rule_at, rules_in, rule_fits, head_fits, rules_of, bad_rule}
use Rattle.rule_tables.specs.Internal.{Sound}
use Rattle.rule_tables.proofs.Fitting.{after_rule, fewer, bad_rule_from, bad_rule-from, rule_fits-iff}
use Rattle.rule_tables.proofs.Fronts.{bad-front}

-- Any fuel is enough that is not less than the words

rules_in-same : (k j : ℕ) (ws : List ℕ) → length ws ≤ k → length ws ≤ j → rules_in k ws ≡ rules_in j ws
rules_in-same zero zero ws h g = refl
rules_in-same zero (suc j) [] h g = refl
rules_in-same zero (suc j) (w ∷ ws) h g = absurd (omega arith)
rules_in-same (suc k) zero [] h g = refl
rules_in-same (suc k) zero (w ∷ ws) h g = absurd (omega arith)
rules_in-same (suc k) (suc j) [] h g = refl
rules_in-same (suc k) (suc j) (w ∷ ws) h g =
    ap {B = List Rule} (λ rs. rule_at (w ∷ ws) ∷ rs) (rules_in-same k j (after_rule (w ∷ ws)) (fewer w ws k h) (fewer w ws j g))

pub rules_in-enough : (k : ℕ) (ws : List ℕ) → length ws ≤ k → rules_in k ws ≡ rules_in (length ws) ws
rules_in-enough k ws h = rules_in-same k (length ws) ws h (omega arith)

pub rules_of-nil : rules_of [] ≡ []
unfolding rules_of
rules_of-nil = refl

pub rules_of-cons : (w : ℕ) (ws : List ℕ) → rules_of (w ∷ ws) ≡ rule_at (w ∷ ws) ∷ rules_of (drop (rule_size (w ∷ ws)) (w ∷ ws))
unfolding rules_of
rules_of-cons w ws =
    ap {B = List Rule} (λ rs. rule_at (w ∷ ws) ∷ rs)
    (rules_in-enough (length ws) (after_rule (w ∷ ws)) (fewer w ws (length ws) (omega arith)))

-- a table of rules that is not at its end
pub rules-front : (ws : List ℕ) → 0 < length ws → rules_of ws ≡ rule_at ws ∷ rules_of (drop (rule_size ws) ws)
rules-front [] h = absurd (omega arith)
rules-front (w ∷ ws) h = rules_of-cons w ws

pub rules-end : (ws : List ℕ) → length ws ≤ 0 → rules_of ws ≡ []
rules-end [] h = rules_of-nil
rules-end (w ∷ ws) h = absurd (omega arith)

-- the rule at the front of sound words, and the words behind it
pub accepted-sound : (n : ℕ) (ws : List ℕ) → n ≤ 1024 → bad_rule n ws ≡ none → Sound ws
unfolding bad_rule_from
accepted-sound n ws few e = record { atoms = n; few = few; before = 0; at = 0; fits = sym (bad_rule-from n ws) ∙ e }

module _ (ws : List ℕ) (h : 0 < length ws) (s : Sound ws) where
  -- the test of the rule at the front passed
  tested : (s.before < 4096) × (rule_fits s.atoms ws ≡ true)
      × (bad_rule_from s.atoms (suc s.before) (s.at + rule_size ws) (drop (rule_size ws) ws) ≡ none)
  unfolding bad_rule_from
  tested = passed (ltb s.before 4096) (rule_fits s.atoms ws) refl refl (sym (bad-front s.atoms s.before s.at ws h) ∙ s.fits)
    where
      passed : (a b : Bool) → a ≡ ltb s.before 4096 → b ≡ rule_fits s.atoms ws → {next : Option ℕ}
          → cond (a && b) next (some s.at) ≡ none
          → (s.before < 4096) × (rule_fits s.atoms ws ≡ true) × (next ≡ none)
      passed true true few q e = (ltb-true s.before 4096 (sym few), sym q, e)
      passed true false few q e = absurd (let z : ◌≡◌ {A = ℕ} 0 1 = cc in omega arith)
      passed false b few q e = absurd (let z : ◌≡◌ {A = ℕ} 0 1 = cc in omega arith)

  pub sound-few : s.before < 4096
  sound-few = tested.0

  pub sound-fits : rule_fits s.atoms ws ≡ true
  sound-fits = tested.1

  fit : (rule_size ws ≤ length ws) × (head_fits s.atoms (get_or ws 0 0) ≡ true)
  fit = let f = (rule_fits-iff s.atoms ws).0 sound-fits in (f.0, f.1)

  pub sound-size : rule_size ws ≤ length ws
  sound-size = fit.0

  pub sound-head : (get_or ws 0 0 ≡ 65535 → ⊥) → get_or ws 0 0 < 2048
  sound-head literal =
      ⊎_elim (λ e. absurd (literal (eqb-true _ _ e)))
      (λ e. omega (arith, ltb-true (get_or ws 0 0) (2 * s.atoms) e, s.few)) ((or-iff _ _).0 fit.1)

  pub sound-rest : Sound (drop (rule_size ws) ws)
  unfolding bad_rule_from
  sound-rest = record { atoms = s.atoms; few = s.few; before = suc s.before; at = s.at + rule_size ws; fits = tested.2 }

  pub sound-before : sound-rest.before ≡ suc s.before
  unfolding sound-rest
  sound-before = refl

-- the same, for a search of any first rule
module _ (p : Rule → Bool) (k : ℕ) (ws : List ℕ) {R : Option ℕ} where
  pub rule-stop : 0 < length ws → first p k (rules_of ws) ≡ R → p (rule_at ws) ≡ true → some k ≡ R
  rule-stop h inv e = rw (rules-front ws h, e) at inv

  pub rule-go : 0 < length ws → first p k (rules_of ws) ≡ R → p (rule_at ws) ≡ false
      → first p (k + 1) (rules_of (drop (rule_size ws) ws)) ≡ R
  rule-go h inv e = rw add-one (rw (rules-front ws h, e) at inv)

  pub rule_end : length ws ≤ 0 → first p k (rules_of ws) ≡ R → none ≡ R
  rule_end h inv = rw (rules-end ws h) at inv
