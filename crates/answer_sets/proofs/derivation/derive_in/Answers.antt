-- `answer_sets::derivation::derive_in` meets its contract.
-- Assumes nothing.
use native.Mathlib.Omega.{arith}
use mathlib.Core.Path.{◌≡◌, refl, sym, ap}
use Prim.Native.Nat.{◌*◌}
use lib.ListN.{length}
use Rattle.std.proofs.lemmas.Slice.Eq.{slice_eq-Decides}
use Rattle.std.proofs.lemmas.Bool.Decides.{Decides-eqb}
use Rattle.logic_programs.specs.Words.{rules_of}
use Rattle.literal_sets.specs.Marks.{marked}
use Rattle.rule_tables.proofs.Walking.{accepted-sound}
use Rattle.answer_set_theory.proofs.Decoding.{accepted-below, codes-heads}
use Rattle.answer_sets.proofs.Judging.{round-last, round-enough, not-broken}
use Rattle.answer_set_theory.proofs.Deriving.{derived}
use Rattle.answer_sets.proofs.Rounds.{reach-start, round_whole, reach-next}
use Rattle.answer_sets.proofs.derivation.derive_in.Goals as goal

pub scan-requires : goal.scan-requires
scan-requires c = record { sound = accepted-sound _ _ c.requires.few_atoms c.requires.fitting; roomy = c.requires.roomy }

pub loop-k-init : goal.loop-k-init
loop-k-init c =
    let begun = c.in_ok-count.ensures.begun in (
      refl,
      refl,
      reach-start _ _ _ _ _ _ begun (length c.args.starts.now) c.requires.none_waits (omega (arith, begun.few))
          c.clear-marks.ensures,
    )

pub returns-then-eq : goal.returns-then-eq
returns-then-eq c =
    let inv = c.loop-k.invariant.2 in
    let next = round_whole _ _ _ _ _ _ c.loop-k.k inv _ _ c.round-next.ensures.made in
    let same : c.round-next.result.marks ≡ c.loop-k.marks = (slice_eq-Decides Decides-eqb _ _ _ c.eq.ensures).0 c.if-eq.true in
    let is = round-last _ _ _ c.loop-k.k inv.is _ (2 * c.args.atoms) next (ap marked same) (omega arith) in
    let low = codes-heads (2 * c.args.atoms) (rules_of c.args.table.now) (accepted-below _ _ c.requires.fitting) in
    record {
      lowest_broken = sym (not-broken c.scan.ensures.lowest_broken c.in_ok-count.was);
      derived = derived _ _ _ _ low inv.marks-size is;
    }

pub loop-k-preserved : goal.loop-k-preserved
loop-k-preserved c =
    let said = c.round-next.ensures in (
      omega arith,
      omega arith,
      reach-next _ _ _ _ _ _ c.loop-k.k c.loop-k.invariant.2 _ _ said.made _ _ _ refl said.no_more (omega arith)
          (omega arith) said.still_waiting,
    )

pub returns : goal.returns
returns c =
    let inv = c.loop-k.invariant.2 in
    let low = codes-heads (2 * c.args.atoms) (rules_of c.args.table.now) (accepted-below _ _ c.requires.fitting) in
    let is = round-enough _ _ _ c.loop-k.k inv.is c.args.atoms low (omega arith) in
    record {
      lowest_broken = sym (not-broken c.scan.ensures.lowest_broken c.in_ok-count.was);
      derived = derived _ _ _ _ low inv.marks-size is;
    }
