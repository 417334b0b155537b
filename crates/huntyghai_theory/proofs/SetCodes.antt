-- What a number tells: its code and, below 2 to the 56, its value. And demand 2 on numbers: both are one verdict's alone.
-- Assumes nothing.
use mathlib.Core.Path.{◌≡◌, refl, sym, ap, ◌∙◌}
use mathlib.Core.Logic.Iff
use mathlib.Core.Logic.{◌↔◌}
use mathlib.Core.List.{List}
use Prim.Native.Nat.{ℕ, ◌%◌, ◌≤◌, ◌<◌}
use native.Mathlib.Omega.{arith}
use lib.ListN.{length}
use Rattle.basics.specs.Replies.{Reply, answered}
use Rattle.logic_programs.specs.Literals.{set_of}
use Rattle.logic_programs.specs.Words.{rules_of}
use Rattle.rule_tables.specs.Acceptance.{Accepted}
use Rattle.rule_tables.proofs.Testing.{few-values}
use Rattle.answer_set_theory.specs.Verdicts.{Verdict, clash, broken, unfounded, passes, verdict}
use Rattle.answer_set_theory.specs.Answers.{answer}
use Rattle.answer_set_theory.specs.Demand2.{RightVerdict, Demand2}
use Rattle.answer_set_theory.proofs.Decoding.{accepted-count}
use Rattle.answer_set_theory.proofs.Theorems.{accepted-judged, demand-2}
use Rattle.answer_codes.specs.Codes.{coded, reply_code, verdict_code}
use Rattle.huntyghai_theory.specs.SetCodes.{Numbered, SetNumbered}

-- equal numbers have equal codes and, below 2 to the 56, equal values
pub same-value : (k x y : ℕ) → x < 72057594037927936 → y < 72057594037927936 → coded k x ≡ coded k y → x ≡ y
unfolding coded
same-value k x y p q e =
    let low : x % 72057594037927936 ≡ x = omega arith in
    let high : y % 72057594037927936 ≡ y = omega arith in
    omega (arith, e, low, high)

pub other-code : (k j x y : ℕ) → k < 256 → j < 256 → coded k x ≡ coded j y → k ≡ j
unfolding coded
other-code k j x y p q e = omega (arith, e)

-- an answer whose code and value are within bounds and lead back to it
pub record Coded {A : Type 0} (code value : A → ℕ) (from : ℕ → ℕ → A) (a : A) : Type 0 where
  pub code_fits : code a < 256
  pub value-fits : value a < 72057594037927936
  pub back : from (code a) (value a) ≡ a

-- two such answers with one number are one answer
pub one_answer : {A : Type 0} (code value : A → ℕ) (from : ℕ → ℕ → A) (a b : A) → Coded code value from a → Coded code value from b
    → coded (code a) (value a) ≡ coded (code b) (value b) → a ≡ b
one_answer code value from a b p q e =
    let codes : code a ≡ code b = other-code (code a) (code b) (value a) (value b) p.code_fits q.code_fits e in
    let values : value a ≡ value b = same-value (code b) (value a) (value b) p.value-fits q.value-fits (rw codes at e) in
    sym p.back ∙ ap (λ (k : ℕ). from k (value a)) codes ∙ ap (from (code b)) values ∙ q.back

-- the value that a verdict names is within bounds, so a number below the bound tells the verdict
abbrev Small : Verdict → Type 0
Small passes = Unit
Small (clash a) = a < 72057594037927936
Small (broken r) = r < 72057594037927936
Small (unfounded c) = c < 72057594037927936

module _ (v : Verdict) where
  pub tells-passes : verdict_code v ≡ coded 64 0 → v ≡ passes
  tells-passes = go v
    where
      go : (w : Verdict) → verdict_code w ≡ coded 64 0 → w ≡ passes
      go passes e = refl
      go (clash a) e = absurd (omega (arith, other-code 65 64 a 0 (omega arith) (omega arith) e))
      go (broken r) e = absurd (omega (arith, other-code 66 64 r 0 (omega arith) (omega arith) e))
      go (unfounded c) e = absurd (omega (arith, other-code 67 64 c 0 (omega arith) (omega arith) e))

  tells-clash : Small v → (x : ℕ) → x < 72057594037927936 → verdict_code v ≡ coded 65 x → v ≡ clash x
  tells-clash = go v
    where
      go : (w : Verdict) → Small w → (x : ℕ) → x < 72057594037927936 → verdict_code w ≡ coded 65 x → w ≡ clash x
      go passes s x p e = absurd (omega (arith, other-code 64 65 0 x (omega arith) (omega arith) e))
      go (clash a) s x p e = ap clash (same-value 65 a x s p e)
      go (broken r) s x p e = absurd (omega (arith, other-code 66 65 r x (omega arith) (omega arith) e))
      go (unfounded c) s x p e = absurd (omega (arith, other-code 67 65 c x (omega arith) (omega arith) e))

  tells-broken : Small v → (x : ℕ) → x < 72057594037927936 → verdict_code v ≡ coded 66 x → v ≡ broken x
  tells-broken = go v
    where
      go : (w : Verdict) → Small w → (x : ℕ) → x < 72057594037927936 → verdict_code w ≡ coded 66 x → w ≡ broken x
      go passes s x p e = absurd (omega (arith, other-code 64 66 0 x (omega arith) (omega arith) e))
      go (clash a) s x p e = absurd (omega (arith, other-code 65 66 a x (omega arith) (omega arith) e))
      go (broken r) s x p e = ap broken (same-value 66 r x s p e)
      go (unfounded c) s x p e = absurd (omega (arith, other-code 67 66 c x (omega arith) (omega arith) e))

  tells-unfounded : Small v → (x : ℕ) → x < 72057594037927936 → verdict_code v ≡ coded 67 x → v ≡ unfounded x
  tells-unfounded = go v
    where
      go : (w : Verdict) → Small w → (x : ℕ) → x < 72057594037927936 → verdict_code w ≡ coded 67 x → w ≡ unfounded x
      go passes s x p e = absurd (omega (arith, other-code 64 67 0 x (omega arith) (omega arith) e))
      go (clash a) s x p e = absurd (omega (arith, other-code 65 67 a x (omega arith) (omega arith) e))
      go (broken r) s x p e = absurd (omega (arith, other-code 66 67 r x (omega arith) (omega arith) e))
      go (unfounded c) s x p e = ap unfounded (same-value 67 c x s p e)

module _ (vs ws : List ℕ) (number : ℕ) (is : number ≡ reply_code verdict_code (answer vs ws))
    (promised : Demand2 vs ws (answer vs ws)) (accepted : Accepted vs ws) where
  abbrev v : Verdict
  v = verdict (length vs) (rules_of ws) (set_of vs)

  replies : answer vs ws ≡ answered v
  replies = accepted-judged vs ws accepted

  judged : RightVerdict (length vs) (rules_of ws) (set_of vs) (answer vs ws)
  unfolding Demand2
  judged = promised accepted

  few : length vs ≤ 1024
  few = few-values vs accepted.0

  few-rules : length (rules_of ws) ≤ 4096
  few-rules = accepted-count (length vs) ws accepted.2

  is_code : number ≡ verdict_code v
  is_code = is ∙ ap (reply_code verdict_code) replies

  small : Small v
  small = go v replies
    where
      go : (w : Verdict) → answer vs ws ≡ answered w → Small w
      go passes e = tt
      go (clash a) e = omega (arith, few, ((judged.clash-exactly a).0 e).0)
      go (broken r) e = omega (arith, few-rules, ((judged.broken-exactly r).0 e).1.0)
      go (unfounded c) e = omega (arith, few, ((judged.unfounded-exactly c).0 e).2.0)

  -- a number is a verdict's exactly if the reply is that verdict
  told : (w : Verdict) → (verdict_code v ≡ verdict_code w → v ≡ w) → number ≡ verdict_code w ↔ answer vs ws ≡ answered w
  told w tells = (λ e. replies ∙ ap {B = Reply Verdict} answered (tells (sym is_code ∙ e)), λ e. is ∙ ap (reply_code verdict_code) e)

  numbered : Numbered (length vs) (rules_of ws) (set_of vs) number
  numbered = record {
    passes-exactly = Iff.trans (told passes (tells-passes v)) judged.passes-exactly;
    clash-exactly = λ a below. Iff.trans (told (clash a) (tells-clash v small a (omega (arith, few)))) (judged.clash-exactly a);
    broken-exactly = λ r below. Iff.trans (told (broken r) (tells-broken v small r (omega (arith, few-rules)))) (judged.broken-exactly r);
    unfounded-exactly =
        λ c below. Iff.trans (told (unfounded c) (tells-unfounded v small c (omega (arith, few)))) (judged.unfounded-exactly c);
  }

pub set-numbered : (vs ws : List ℕ) (number : ℕ) → number ≡ reply_code verdict_code (answer vs ws)
    → Demand2 vs ws (answer vs ws) → SetNumbered vs ws number
unfolding SetNumbered
set-numbered vs ws number is promised accepted = numbered vs ws number is promised accepted

-- the engine's number is that of passes exactly if it passes
pub passes-told : (vs ws : List ℕ) → Accepted vs ws → reply_code verdict_code (answer vs ws) ≡ coded 64 0 ↔ answer vs ws ≡ answered passes
passes-told vs ws accepted =
    told vs ws (reply_code verdict_code (answer vs ws)) refl (demand-2 vs ws) accepted passes
    (tells-passes (verdict (length vs) (rules_of ws) (set_of vs)))
