-- The causal verdict names the fault of the first time that has one, with the lowest law or fluent.
-- Assumes nothing.
use mathlib.Core.Path.{◌≡◌, refl, sym, ap, ◌∙◌}
use mathlib.Core.Logic.Iff
use mathlib.Core.Logic.{◌↔◌, ◌⊎◌, inl, inr, ⊎_elim}
use mathlib.Core.Bool.{Bool, true, false, not, cond, ◌&&◌}
use mathlib.Core.List.{List}
use mathlib.Core.Option.{Option, none, some}
use Prim.Native.Nat.{ℕ, zero, suc, ◌+◌, ◌*◌, ◌/◌, ◌≤◌, ◌<◌}
use native.Mathlib.Omega.{arith}
use lib.Dec.{ltb}
use lib.ListN.{length, get_or}
use borrow.Author.Tests.{ltb-true, ltb-false}
use Rattle.basics.specs.Search.{first, range, Lowest, Nowhere}
use Rattle.std.specs.Prelude.{Result}
use Rattle.basics.specs.declared.Refusal.{Refusal}
use Rattle.basics.specs.Replies.{Reply, answered, or_else}
use Rattle.basics.proofs.Tests.{true-or-false, not-both, false_of_not, and-iff, not_iff, first-lowest, first-nowhere}
use Rattle.basics.proofs.Tests.{range-lowest, range-nowhere}
use Rattle.action_language.specs.declared.Law.{Law}
use Rattle.action_language.specs.declared.Description.{Description}
use Rattle.action_language.specs.Laws.{is_static, if_list, no_law, laws_of}
use Rattle.transitions.specs.Meaning.{Interpretation, holds, satisfies_head, state_at, action_at}
use Rattle.causal_reading.specs.declared.Reading.{Reading}
use Rattle.law_effects.specs.Applying.{applies_at_start, applies_in_step, literal_in, some_cause, contradicts}
use Rattle.causal_reading.specs.Verdicts.{Causal, contradicted, uncaused, path, steps_from, causal_verdict}
use Rattle.causal_reading.specs.Readings as causal
use Rattle.correctness.specs.Demand3.{Complete}
use Rattle.correctness.specs.CausalFaults.{Unsatisfied, Contradicting, NotCaused, ContradictedAt, UncausedAt}
use Rattle.correctness.specs.CausalFaults.{NoFaultBefore, FaultNamed, NamesFault}
use Rattle.causal_steps.proofs.CausedHeads.{causing-applies, cause-iff-caused}
use Rattle.correctness.proofs.Explained.{satisfied-literal, literal-holds}
use Rattle.correctness.proofs.Reading.{or_else-path, contradicted-no-path, uncaused-no-path, in_step}
use Rattle.correctness.proofs.Demand3.{read-verdict}

-- The first of many faults

abbrev time_of : Causal → ℕ
time_of (contradicted t i) = t
time_of (uncaused t f) = t
time_of path = 0

-- what is said of one time, from the law and the fluent that are found there
abbrev said : ℕ → Option ℕ → Option ℕ → Causal → Causal
said t o p next = or_else o (contradicted t) (or_else p (uncaused t) next)

said-path : (t : ℕ) (o p : Option ℕ) → said t o p path ≡ path ↔ ((o ≡ none) × (p ≡ none))
said-path t o p =
    Iff.trans (or_else-path o (contradicted t) (or_else p (uncaused t) path) (contradicted-no-path t)) (
      λ h. (h.0, ((or_else-path p (uncaused t) path (uncaused-no-path t)).0 h.1).0),
      λ h. (h.0, (or_else-path p (uncaused t) path (uncaused-no-path t)).1 (h.1, refl)),
    )

said-contradicted : (t : ℕ) (o p : Option ℕ) (i : ℕ) → said t o p path ≡ contradicted t i ↔ o ≡ some i
said-contradicted t (some k) p i =
    (λ e. let same : k ≡ i = cc in ap {B = Option ℕ} some same, λ e. let same : k ≡ i = cc in ap (contradicted t) same)
said-contradicted t none (some k) i =
    (λ e. let z : ◌≡◌ {A = ℕ} 0 1 = cc in absurd (omega arith), λ e. let z : ◌≡◌ {A = ℕ} 0 1 = cc in absurd (omega arith))
said-contradicted t none none i =
    (λ e. let z : ◌≡◌ {A = ℕ} 0 1 = cc in absurd (omega arith), λ e. let z : ◌≡◌ {A = ℕ} 0 1 = cc in absurd (omega arith))

said-uncaused : (t : ℕ) (o p : Option ℕ) (f : ℕ) → said t o p path ≡ uncaused t f ↔ ((o ≡ none) × (p ≡ some f))
said-uncaused t (some k) p f =
    (λ e. let z : ◌≡◌ {A = ℕ} 0 1 = cc in absurd (omega arith), λ h. let e = h.0 in let z : ◌≡◌ {A = ℕ} 0 1 = cc in absurd (omega arith))
said-uncaused t none (some k) f =
    (λ e. let same : k ≡ f = cc in (refl, ap {B = Option ℕ} some same), λ h. let e = h.1 in let same : k ≡ f = cc in ap (uncaused t) same)
said-uncaused t none none f =
    (λ e. let z : ◌≡◌ {A = ℕ} 0 1 = cc in absurd (omega arith), λ h. let e = h.1 in let z : ◌≡◌ {A = ℕ} 0 1 = cc in absurd (omega arith))

-- a time decides, or what comes next does
said-next : (t : ℕ) (o p : Option ℕ) (next : Causal)
    → ((said t o p path ≡ path) × (said t o p next ≡ next))
    ⊎ ((said t o p next ≡ said t o p path) × (time_of (said t o p path) ≡ t) × (said t o p path ≡ path → ⊥))
said-next t (some k) p next = inr (refl, refl, contradicted-no-path t k)
said-next t none (some k) next = inr (refl, refl, uncaused-no-path t k)
said-next t none none next = inl (refl, refl)

module _ (laws fluents : ℕ → Option ℕ) where
  -- the verdict on one time
  abbrev here : ℕ → Causal
  here t = said t (laws t) (fluents t) path

  -- the verdict on k times from t on
  abbrev times : ℕ → ℕ → Causal
  times t zero = path
  times t (suc k) = said t (laws t) (fluents t) (times (suc t) k)

  -- a fault is the verdict exactly where its time has it and no earlier time has one
  abbrev FirstFault : ℕ → ℕ → Causal → Type 0
  FirstFault t k x =
      (t ≤ time_of x) × (time_of x < t + k) × ((u : ℕ) → t ≤ u → u < time_of x → here u ≡ path) × (here (time_of x) ≡ x)

  module _ (t k : ℕ) (x : Causal) (fault : path ≡ x → ⊥) where
    passed_on : (times (suc t) k ≡ x ↔ FirstFault (suc t) k x) → ((here t ≡ path) × (times t (suc k) ≡ times (suc t) k))
        → times t (suc k) ≡ x ↔ FirstFault t (suc k) x
    passed_on rest (clear, next) = (
      λ e. let (low, high, before, at) = rest.0 (sym next ∙ e) in (
        omega arith,
        omega arith,
        λ u from below. ⊎_elim (λ later. before u (ltb-true t u later) below)
            (λ not-later. let same : u ≡ t = omega (arith, ltb-false t u not-later) in rw same clear) (true-or-false (ltb t u)),
        at,
      ),
      λ (low, high, before, at). next ∙ ⊎_elim
          (λ later. rest.1 (ltb-true t (time_of x) later, omega arith, λ u from below. before u (omega arith) below, at))
          (λ not-later. let same : time_of x ≡ t = omega (arith, ltb-false t (time_of x) not-later) in
          absurd (fault (sym clear ∙ (rw same at at)))) (true-or-false (ltb t (time_of x))),
    )

    decided : ((times t (suc k) ≡ here t) × (time_of (here t) ≡ t) × (here t ≡ path → ⊥)) → times t (suc k) ≡ x ↔ FirstFault t (suc k) x
    decided (is, time, bad) = (
      λ e. let at : here t ≡ x = sym is ∙ e in
          let same : time_of x ≡ t = sym (ap time_of at) ∙ time in
          (omega arith, omega arith, λ u from below. absurd (omega arith), rw same at),
      λ (low, high, before, at). is ∙ ⊎_elim (λ later. absurd (bad (before t (omega arith) (ltb-true t (time_of x) later))))
          (λ not-later. let same : time_of x ≡ t = omega (arith, ltb-false t (time_of x) not-later) in rw same at at)
          (true-or-false (ltb t (time_of x))),
    )

  times-iff : (t k : ℕ) (x : Causal) → (path ≡ x → ⊥) → times t k ≡ x ↔ FirstFault t k x
  times-iff t zero x fault = (λ e. absurd (fault e), λ h. absurd (omega (arith, h.0, h.1)))
  times-iff t (suc k) x fault =
      ⊎_elim (passed_on t k x fault (times-iff (suc t) k x fault)) (decided t k x fault)
      (said-next t (laws t) (fluents t) (times (suc t) k))

-- What is found at a time

implied : (a b : Bool) → (a && not b) ≡ true ↔ ((a ≡ true) × (b ≡ false))
implied a b = Iff.trans (and-iff a (not b)) (λ h. (h.0, (not_iff b).0 h.1), λ h. (h.0, (not_iff b).1 h.1))

unsatisfied-iff : (s : Interpretation) (l : Law) → contradicts (applies_at_start s) s l ≡ true ↔ Unsatisfied s l
unsatisfied-iff s l =
    Iff.trans (implied (applies_at_start s l) (satisfies_head s l.head)) (
      λ h. let (static, list) = (and-iff (is_static l.kind) (holds s (if_list l))).0 h.0 in (static, list, h.1),
      λ h. ((and-iff (is_static l.kind) (holds s (if_list l))).1 (h.0, h.1), h.2),
    )

module _ (n : ℕ) (s a s' : Interpretation) where
  contradicting-iff : (l : Law) → contradicts (applies_in_step n s a s') s' l ≡ true ↔ Contradicting n s a s' l
  contradicting-iff l = rw (causing-applies n s a s' l.kind l refl) (implied (applies_in_step n s a s' l) (satisfies_head s' l.head))

  not-caused-iff : (ls : List Law) (f : ℕ) → not (some_cause (applies_in_step n s a s') (literal_in s' f) ls) ≡ true
      ↔ NotCaused n s a s' ls f
  not-caused-iff ls f = Iff.trans (not_iff cause) (
    λ e c half holds-there member. let same : c ≡ literal_in s' f = (rw half at (satisfied-literal s' c holds-there)) in
        not-both ((cause-iff-caused n s a s' (literal_in s' f) ls).1 (rw same at member)) e,
    λ h. false_of_not cause (λ t. h (literal_in s' f) half_of (literal-holds s' f) ((cause-iff-caused n s a s' (literal_in s' f) ls).0 t)),
  )
    where
      cause : Bool
      cause = some_cause (applies_in_step n s a s') (literal_in s' f) ls

      half_of : literal_in s' f / 2 ≡ f
      half_of = go (s' f)
        where
          go : (b : Bool) → cond b (2 * f) (2 * f + 1) / 2 ≡ f
          go true = omega arith
          go false = omega arith

module _ (n m T : ℕ) (ls : List Law) (vs : List ℕ) where
  abbrev s : ℕ → Interpretation
  s t = state_at n m vs t

  -- the lowest law and the lowest fluent with a fault at a time
  abbrev law_at : ℕ → Option ℕ
  law_at zero = first (contradicts (applies_at_start (s 0)) (s 0)) 0 ls
  law_at (suc t) = first (contradicts (in_step n m vs t) (s (suc t))) 0 ls

  abbrev fluent_at : ℕ → Option ℕ
  fluent_at zero = none
  fluent_at (suc t) = first (λ f. not (some_cause (in_step n m vs t) (literal_in (s (suc t)) f) ls)) 0 (range 0 n)

  law-lowest : (t i : ℕ) → law_at t ≡ some i ↔ Lowest (ContradictedAt n m ls vs t) (length ls) i
  law-lowest zero i =
      first-lowest _ no_law ls (length ls) refl (ContradictedAt n m ls vs 0) (λ j b. unsatisfied-iff (s 0) (get_or ls j no_law)) i
  law-lowest (suc t) i = first-lowest _ no_law ls (length ls) refl (ContradictedAt n m ls vs (suc t))
      (λ j b. contradicting-iff n (s t) (action_at n m vs t) (s (suc t)) (get_or ls j no_law)) i

  law-nowhere : (t : ℕ) → law_at t ≡ none ↔ Nowhere (ContradictedAt n m ls vs t) (length ls)
  law-nowhere zero = first-nowhere _ no_law ls (length ls) refl (ContradictedAt n m ls vs 0)
      (λ j b. unsatisfied-iff (s 0) (get_or ls j no_law))
  law-nowhere (suc t) = first-nowhere _ no_law ls (length ls) refl (ContradictedAt n m ls vs (suc t))
      (λ j b. contradicting-iff n (s t) (action_at n m vs t) (s (suc t)) (get_or ls j no_law))

  fluent-lowest : (t f : ℕ) → fluent_at t ≡ some f ↔ Lowest (UncausedAt n m ls vs t) n f
  fluent-lowest zero f = (λ e. let z : ◌≡◌ {A = ℕ} 0 1 = cc in absurd (omega arith), λ h. absurd h.1)
  fluent-lowest (suc t) f =
      range-lowest _ n (UncausedAt n m ls vs (suc t)) (λ j b. not-caused-iff n (s t) (action_at n m vs t) (s (suc t)) ls j) f

  fluent-nowhere : (t : ℕ) → fluent_at t ≡ none ↔ Nowhere (UncausedAt n m ls vs t) n
  fluent-nowhere zero = (λ e f b h. h, λ h. refl)
  fluent-nowhere (suc t) =
      range-nowhere _ n (UncausedAt n m ls vs (suc t)) (λ j b. not-caused-iff n (s t) (action_at n m vs t) (s (suc t)) ls j)

  steps-times : (t k : ℕ) → steps_from n m ls vs t k ≡ times law_at fluent_at (suc t) k
  steps-times t zero = refl
  steps-times t (suc k) = ap (said (suc t) (law_at (suc t)) (fluent_at (suc t))) (steps-times (suc t) k)

  verdict-times : causal_verdict n m T ls vs ≡ times law_at fluent_at 0 (suc T)
  unfolding causal_verdict
  verdict-times = ap (or_else (law_at 0) (contradicted 0)) (steps-times 0 T)

  no-fault : (t : ℕ) → ((u : ℕ) → 0 ≤ u → u < t → here law_at fluent_at u ≡ path) ↔ NoFaultBefore n m ls vs t
  no-fault t = (
    λ h u b. let (law, fluent) = (said-path u (law_at u) (fluent_at u)).0 (h u (omega arith) b) in (
      (law-nowhere u).0 law,
      (fluent-nowhere u).0 fluent,
    ),
    λ h u from b. let (law, fluent) = h u b in
        (said-path u (law_at u) (fluent_at u)).1 ((law-nowhere u).1 law, (fluent-nowhere u).1 fluent),
  )

  verdict-fault : (x : Causal) → (x ≡ path → ⊥) → causal_verdict n m T ls vs ≡ x
      ↔ ((time_of x ≤ T) × NoFaultBefore n m ls vs (time_of x) × (here law_at fluent_at (time_of x) ≡ x))
  verdict-fault x fault = rw verdict-times (Iff.trans (times-iff law_at fluent_at 0 (suc T) x (λ e. fault (sym e))) (
    λ (low, high, before, at). (omega arith, (no-fault (time_of x)).0 before, at),
    λ (high, before, at). (omega arith, omega arith, (no-fault (time_of x)).1 before, at),
  ))

  answered-iff : (v x : Causal) → answered v ≡ answered x ↔ v ≡ x
  answered-iff v x = (λ e. cc, λ e. ap {B = Reply Causal} answered e)

  pub fault-named : FaultNamed n m T ls vs (answered (causal_verdict n m T ls vs))
  fault-named = record {
    contradicted-exactly =
        λ t i. Iff.trans (answered-iff _ (contradicted t i)) (Iff.trans (verdict-fault (contradicted t i) (contradicted-no-path t i)) (
          λ (high, before, at). (high, before, (law-lowest t i).0 ((said-contradicted t (law_at t) (fluent_at t) i).0 at)),
          λ (high, before, low). (high, before, (said-contradicted t (law_at t) (fluent_at t) i).1 ((law-lowest t i).1 low)),
        ));
    uncaused-exactly = λ t f. Iff.trans (answered-iff _ (uncaused t f)) (Iff.trans (verdict-fault (uncaused t f) (uncaused-no-path t f)) (
      λ (high, before, at). let (law, fluent) = (said-uncaused t (law_at t) (fluent_at t) f).0 at in
          (high, before, (law-nowhere t).0 law, (fluent-lowest t f).0 fluent),
      λ (high, before, none-there, low). (
        high,
        before,
        (said-uncaused t (law_at t) (fluent_at t) f).1 ((law-nowhere t).1 none-there, (fluent-lowest t f).1 low),
      ),
    ));
  }

pub causal-faults : (d : Description) (ls : List Law) (lent : ℕ) (vs : List ℕ) → Complete d ls lent vs
    → FaultNamed d.fluents d.actions d.horizon (laws_of d ls) vs (causal.reading d ls lent vs)
causal-faults d ls lent vs complete =
    rw (read-verdict d ls lent vs complete) (fault-named d.fluents d.actions d.horizon (laws_of d ls) vs)

-- of an answer that the reading gives
pub names-fault : (d : Description) (ls : List Law) (lent : ℕ) (vs : List ℕ) (r : Result Reading Refusal)
    → causal.reply_of r ≡ causal.reading d ls lent vs → NamesFault d ls lent vs r
unfolding NamesFault
names-fault d ls lent vs r e complete = rw e (causal-faults d ls lent vs complete)
