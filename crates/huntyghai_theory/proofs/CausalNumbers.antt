-- Demand 3 and the fault on the numbers of the causal reading: of verdicts whose time and place have 16 bits, each has a number of its
-- own.
-- Assumes nothing.
use mathlib.Core.Path.{◌≡◌, refl, sym, ap, ◌∙◌}
use mathlib.Core.Logic.Iff
use mathlib.Core.Logic.{◌↔◌}
use mathlib.Core.Bool.{cond}
use mathlib.Core.List.{List}
use Prim.Native.Nat.{ℕ, ◌/◌, ◌%◌, ◌≤◌, ◌<◌}
use native.Mathlib.Omega.{arith}
use lib.Dec.{eqb}
use lib.ListN.{length}
use Rattle.basics.specs.Search.{Each}
use Rattle.basics.specs.Replies.{Reply, answered}
use Rattle.logic_programs.specs.Literals.{OneValue}
use Rattle.action_language.specs.declared.Description.{Description}
use Rattle.action_language.specs.Laws.{laws_of}
use Rattle.action_language.proofs.Laws.{accepted-counts, accepted-few, accepted-horizon}
use Rattle.causal_reading.specs.Verdicts.{Causal, contradicted, uncaused, path, causal_verdict}
use Rattle.causal_reading.specs.Readings.{reading}
use Rattle.description_lines.specs.LineSteps.{Draft}
use Rattle.description_lines.specs.Descriptions.{read, described, description_of}
use Rattle.whole_inputs.specs.Inputs.{recorded_in}
use Rattle.correctness.specs.Demand3.{Complete}
use Rattle.correctness.specs.CausalFaults.{FaultNamed}
use Rattle.correctness.proofs.Demand3.{demand-3, read-verdict}
use Rattle.correctness.proofs.CausalFaults.{causal-faults}
use Rattle.possible_refusals.proofs.Checks.{fits, in-time, values-count}
use Rattle.answer_codes.specs.Codes.{coded, pair, reply_code, causal_code}
use Rattle.huntyghai_theory.specs.Texts.{reading_of_input}
use Rattle.huntyghai_theory.specs.TextReadings.{InputReads, InputFault}
use Rattle.huntyghai_theory.proofs.SetCodes.{Coded, one_answer}
use Rattle.huntyghai_theory.proofs.TextReadings.{complete}

-- two numbers of 16 bits in one value
pair_small : (high low : ℕ) → pair high low < 72057594037927936
unfolding pair
pair_small high low = omega arith

pair-high : (high low : ℕ) → high < 65536 → pair high low / 65536 ≡ high
unfolding pair
pair-high high low b = omega arith

pair-low : (high low : ℕ) → low < 65536 → pair high low % 65536 ≡ low
unfolding pair
pair-low high low b = omega arith

-- a verdict's code and value, and back
abbrev tag : Causal → ℕ
tag path = 80
tag (contradicted t i) = 81
tag (uncaused t f) = 82

abbrev value : Causal → ℕ
value path = 0
value (contradicted t i) = pair t i
value (uncaused t f) = pair t f

abbrev verdict_of : ℕ → ℕ → Causal
verdict_of k v =
    cond (eqb k 80) path
    (cond (eqb k 81) (contradicted (v / 65536) (v % 65536))
    (uncaused (v / 65536) (v % 65536)))

abbrev Within : Causal → Type 0
Within path = Unit
Within (contradicted t i) = (t < 65536) × (i < 65536)
Within (uncaused t f) = (t < 65536) × (f < 65536)

bounds : (v : Causal) → Within v → Coded tag value verdict_of v
bounds path w = record { code_fits = omega arith; value-fits = omega arith; back = refl }
bounds (contradicted t i) w =
    record { code_fits = omega arith; value-fits = pair_small t i; back = rw (pair-high t i w.0, pair-low t i w.1) }
bounds (uncaused t f) w =
    record { code_fits = omega arith; value-fits = pair_small t f; back = rw (pair-high t f w.0, pair-low t f w.1) }

number_of : (v : Causal) → causal_code v ≡ coded (tag v) (value v)
number_of path = refl
number_of (contradicted t i) = refl
number_of (uncaused t f) = refl

module _ (input : List ℕ) (number : ℕ) (is_number : number ≡ reading_of_input input) (d : Draft) (rest : List ℕ) (lines : ℕ)
    (is : described 64 input ≡ answered (read d rest lines))
    (vs : List ℕ) (recorded : recorded_in input ≡ answered vs) (one : Each OneValue vs) where
  abbrev D : Description
  D = description_of d

  whole : Complete D d.laws 64 vs
  whole = complete input d rest lines is vs (values-count input d rest lines vs is recorded) one

  read-code : reading_of_input input ≡ reply_code causal_code (reading D d.laws 64 vs)
  unfolding reading_of_input
  read-code = rw (recorded, is)

  abbrev v : Causal
  v = causal_verdict d.fluents D.actions d.horizon (laws_of D d.laws) vs

  replies : reading D d.laws 64 vs ≡ answered v
  replies = read-verdict D d.laws 64 vs whole

  named : FaultNamed d.fluents D.actions d.horizon (laws_of D d.laws) vs (reading D d.laws 64 vs)
  named = causal-faults D d.laws 64 vs whole

  -- at most 30 steps, 64 laws and 24 fluents
  few-steps : d.horizon ≤ 30
  few-steps = (accepted-horizon d.horizon (in-time input d rest lines is)).1

  few-laws : length (laws_of D d.laws) ≤ 64
  few-laws = accepted-few D d.laws 64 (fits input d rest lines is)

  few-fluents : d.fluents ≤ 24
  few-fluents = (accepted-counts D d.laws 64 (fits input d rest lines is)).1

  within : Within v
  within = go v replies
    where
      go : (w : Causal) → reading D d.laws 64 vs ≡ answered w → Within w
      go path e = tt
      go (contradicted t i) e =
          let (time, before, law) = (named.contradicted-exactly t i).0 e in
          (omega (arith, time, few-steps), omega (arith, law.0, few-laws))
      go (uncaused t f) e =
          let (time, before, clear, fluent) = (named.uncaused-exactly t f).0 e in
          (omega (arith, time, few-steps), omega (arith, fluent.0, few-fluents))

  -- the number is a verdict's exactly if the reply is that verdict
  tells : (w : Causal) → Within w → number ≡ causal_code w ↔ reading D d.laws 64 vs ≡ answered w
  tells w u = (
    λ e. replies ∙ ap {B = Reply Causal} answered (one_answer tag value verdict_of v w (bounds v within) (bounds w u) (same e)),
    λ e. is_number ∙ read-code ∙ ap (reply_code causal_code) e,
  )
    where
      same : number ≡ causal_code w → coded (tag v) (value v) ≡ coded (tag w) (value w)
      same e = sym (number_of v) ∙ sym (is_number ∙ read-code ∙ ap (reply_code causal_code) replies) ∙ e ∙ number_of w

pub input-reads : (input : List ℕ) (number : ℕ) → number ≡ reading_of_input input → InputReads input number
unfolding InputReads
input-reads input number e d rest lines is vs recorded one =
    Iff.trans (tells input number e d rest lines is vs recorded one path tt)
    (demand-3 (description_of d) d.laws 64 vs (whole input number e d rest lines is vs recorded one)).causal-path

pub input-fault : (input : List ℕ) (number : ℕ) → number ≡ reading_of_input input → InputFault input number
unfolding InputFault
input-fault input number e d rest lines is vs recorded one = record {
  contradicted-exactly = λ t i p q. Iff.trans (tell (contradicted t i) (p, q)) (says.contradicted-exactly t i);
  uncaused-exactly = λ t f p q. Iff.trans (tell (uncaused t f) (p, q)) (says.uncaused-exactly t f);
}
  where
    tell : (w : Causal) → Within w → number ≡ causal_code w ↔ reading (description_of d) d.laws 64 vs ≡ answered w
    tell = tells input number e d rest lines is vs recorded one

    says : FaultNamed d.fluents (description_of d).actions d.horizon (laws_of (description_of d) d.laws) vs
        (reading (description_of d) d.laws 64 vs)
    says = named input number e d rest lines is vs recorded one
