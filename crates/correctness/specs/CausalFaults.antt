-- Which fault the causal reading names (01, "The causal reading"), in the words of the meaning of C: the fault of the first time
-- that has one, contradicted with the lowest law, else uncaused with the lowest fluent.
-- Assumes nothing.
use Rattle.std.specs.Prelude.{◌≡◌, ◌↔◌, true, false, ℕ, zero, suc, ◌/◌, ◌≤◌, ◌<◌, length, get_or, Result}
use mathlib.Core.List.{List, Memᴰ}
use Rattle.basics.specs.Search.{Lowest, Nowhere}
use Rattle.basics.specs.declared.Refusal.{Refusal}
use Rattle.basics.specs.Replies.{Reply, answered}
use Rattle.action_language.specs.declared.Head.TheVariants.{Lit}
use Rattle.action_language.specs.declared.Law.{Law}
use Rattle.action_language.specs.declared.Description.{Description}
use Rattle.action_language.specs.Laws.{is_static, if_list, no_law, laws_of}
use Rattle.transitions.specs.Meaning.{Interpretation, satisfies, holds, satisfies_head, causing, caused, state_at, action_at}
use Rattle.causal_reading.specs.declared.Reading.{Reading}
use Rattle.causal_reading.specs.Verdicts.{Causal, contradicted, uncaused}
use Rattle.causal_reading.specs.Readings as causal
use Rattle.correctness.specs.Demand3.{Complete}

-- a static law's if-list holds in s while its head does not
abbrev pub Unsatisfied : Interpretation → Law → Type 0
Unsatisfied s l = (is_static l.kind ≡ true) × (holds s (if_list l) ≡ true) × (satisfies_head s l.head ≡ false)

-- a law makes its head caused in the transition from s by a to s', while the head does not hold in s'
abbrev pub Contradicting : ℕ → Interpretation → Interpretation → Interpretation → Law → Type 0
Contradicting n s a s' l = (causing n s a s' l.kind l ≡ true) × (satisfies_head s' l.head ≡ false)

-- the literal of fluent f that holds in s' is not among what is caused
abbrev pub NotCaused : ℕ → Interpretation → Interpretation → Interpretation → List Law → ℕ → Type 0
NotCaused n s a s' ls f = (c : ℕ) → c / 2 ≡ f → satisfies s' c ≡ true → Memᴰ (Lit c) (caused n s a s' ls) → ⊥

-- the faults of a history at a time: by law i, and of fluent f; no step leads to time 0
abbrev pub ContradictedAt : ℕ → ℕ → List Law → List ℕ → ℕ → ℕ → Type 0
ContradictedAt n m ls vs zero i = Unsatisfied (state_at n m vs 0) (get_or ls i no_law)
ContradictedAt n m ls vs (suc t) i = Contradicting n (state_at n m vs t) (action_at n m vs t) (state_at n m vs (suc t)) (get_or ls i no_law)

abbrev pub UncausedAt : ℕ → ℕ → List Law → List ℕ → ℕ → ℕ → Type 0
UncausedAt n m ls vs zero f = ⊥
UncausedAt n m ls vs (suc t) f = NotCaused n (state_at n m vs t) (action_at n m vs t) (state_at n m vs (suc t)) ls f

abbrev pub NoFaultBefore : ℕ → ℕ → List Law → List ℕ → ℕ → Type 0
NoFaultBefore n m ls vs t = (u : ℕ) → u < t → Nowhere (ContradictedAt n m ls vs u) (length ls) × Nowhere (UncausedAt n m ls vs u) n

-- the fault of a history of T steps that is named: law i contradicts, or fluent f is uncaused where no law contradicts, at time t
abbrev pub ContradictedFirst : ℕ → ℕ → ℕ → List Law → List ℕ → ℕ → ℕ → Type 0
ContradictedFirst n m T ls vs t i = (t ≤ T) × NoFaultBefore n m ls vs t × Lowest (ContradictedAt n m ls vs t) (length ls) i

abbrev pub UncausedFirst : ℕ → ℕ → ℕ → List Law → List ℕ → ℕ → ℕ → Type 0
UncausedFirst n m T ls vs t f =
    (t ≤ T) × NoFaultBefore n m ls vs t × Nowhere (ContradictedAt n m ls vs t) (length ls) × Lowest (UncausedAt n m ls vs t) n f

-- what a reply says where it names a fault
pub record FaultNamed (n m T : ℕ) (ls : List Law) (vs : List ℕ) (r : Reply Causal) : Type 0 where
  pub contradicted-exactly : (t i : ℕ) → r ≡ answered (contradicted t i) ↔ ContradictedFirst n m T ls vs t i
  pub uncaused-exactly : (t f : ℕ) → r ≡ answered (uncaused t f) ↔ UncausedFirst n m T ls vs t f

-- of a causal reading's answer, for an accepted description and a set with one value for each atom
unfoldable pub NamesFault : Description → List Law → ℕ → List ℕ → Result Reading Refusal → Type 0
NamesFault d ls lent vs r = Complete d ls lent vs → FaultNamed d.fluents d.actions d.horizon (laws_of d ls) vs (causal.reply_of r)
