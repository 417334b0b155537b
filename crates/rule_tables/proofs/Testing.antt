-- Refusals 10, 11 and 12: what the three tests say before anything else.
-- Assumes nothing.
use mathlib.Core.Path.{◌≡◌, refl}
use mathlib.Core.Bool.{Bool, true, false, cond}
use mathlib.Core.List.{List}
use mathlib.Core.Option.{Option, none, some}
use Prim.Native.Nat.{ℕ, ◌≤◌}
use native.Mathlib.Omega.{arith}
use borrow.Author.Tests.{ltb-false}
use lib.Dec.{ltb}
use lib.ListN.{length}
use Rattle.basics.specs.Replies.{Reply, refused, answered, or_refuse}
use Rattle.logic_programs.specs.Literals.{bad_value}
use Rattle.logic_programs.specs.Words.{bad_rule}
use Rattle.rule_tables.specs.Acceptance.{too_many_values, after_tests, tested, Accepted}

pub few-values : (vs : List ℕ) → too_many_values vs ≡ none → length vs ≤ 1024
few-values vs e = go (ltb 1024 (length vs)) refl e
  where
    go : (b : Bool) → ltb 1024 (length vs) ≡ b → cond b (some (length vs)) none ≡ none → length vs ≤ 1024
    go true q h = absurd (let z : ◌≡◌ {A = ℕ} 0 1 = cc in omega arith)
    go false q h = ltb-false 1024 (length vs) q

module _ (vs ws : List ℕ) where
  -- what the three say by themselves they say before anything
  abbrev alone : Option ℕ → Option ℕ → Option ℕ → Reply (Unit {0})
  alone a b c = or_refuse a 10 (or_refuse b 11 (or_refuse c 12 (answered tt)))

  refuses : {A : Type 0} (a b c : Option ℕ) (next : Reply A) {number place : ℕ} → refused number place ≡ alone a b c
      → refused number place ≡ or_refuse a 10 (or_refuse b 11 (or_refuse c 12 next))
  refuses (some i) b c next e = cc
  refuses none (some i) c next e = cc
  refuses none none (some i) next e = cc
  refuses none none none next e = absurd (let z : ◌≡◌ {A = ℕ} 0 1 = cc in omega arith)

  lets-pass : (a b c : Option ℕ) → answered tt ≡ alone a b c → (a ≡ none) × (b ≡ none) × (c ≡ none)
  lets-pass (some i) b c e = absurd (let z : ◌≡◌ {A = ℕ} 0 1 = cc in omega arith)
  lets-pass none (some i) c e = absurd (let z : ◌≡◌ {A = ℕ} 0 1 = cc in omega arith)
  lets-pass none none (some i) e = absurd (let z : ◌≡◌ {A = ℕ} 0 1 = cc in omega arith)
  lets-pass none none none e = (refl, refl, refl)

  pub still-refused : {A : Type 0} (next : Reply A) {number place : ℕ} → refused number place ≡ tested vs ws
      → refused number place ≡ after_tests vs ws next
  unfolding tested
  still-refused next e = refuses (too_many_values vs) (bad_value vs) (bad_rule (length vs) ws) next e

  pub accepts : answered tt ≡ tested vs ws → Accepted vs ws
  unfolding tested
  accepts e = lets-pass (too_many_values vs) (bad_value vs) (bad_rule (length vs) ws) e

  -- where none refuses, what comes next is said
  pub comes-next : {A : Type 0} (next : Reply A) → Accepted vs ws → next ≡ after_tests vs ws next
  comes-next next h = rw (h.0, h.1, h.2)
