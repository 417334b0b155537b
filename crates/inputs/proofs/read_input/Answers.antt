-- What the description reader and the history reader said settles what the whole input holds.
-- Assumes nothing.
use Rattle.std.proofs.Common.{◌≡◌, ℕ, List, ◌≤◌, length, take, drop, replicate, refl, sym, ap, ◌∙◌, arith}
use Rattle.std.proofs.Common.{length-take, length-drop, length-append}
use Rattle.std.specs.Prelude.{Result, Ok}
use Rattle.basics.specs.declared.Refusal.{Refusal}
use Rattle.action_language.specs.declared.Description.{Description}
use Rattle.action_language.specs.Atoms.{atom_count, atoms_within}
use Rattle.action_language.proofs.Atoms.{few-atoms, atoms-within}
use Rattle.description_lines.specs.Descriptions.{described}
use Rattle.description_lines.specs.Answers.{replied, record_of, laws_left}
use Rattle.description_reader.specs.declared.Read.{Read}
use Rattle.description_reader.specs.Answers.{reply_of}
use Rattle.history_reader.specs.Histories.{history_reply_of, history_replied}
use Rattle.lent_laws.proofs.SixtyFour.{replied-64, record-64, left-64}
use Rattle.whole_inputs.proofs.Known.{Known, known, limits, description-refused, recorded-refused, says, can-move, values-read}
use Rattle.inputs.proofs.read_input.Goals as goal

-- as many of the 1,024 zeros are lent as there are atoms
size : {m : ℕ} {zs : List ℕ} → zs ≡ replicate 1024 0 → m ≤ 1024 → length (take m zs) ≡ m
size {m} {zs} clear few = omega (arith, length-take m zs, ap length clear)

lent : {m : ℕ} {zs : List ℕ} {d e : Description} → zs ≡ replicate 1024 0 → m ≤ 1024
    → m ≡ atom_count d.fluents d.actions d.horizon → d ≡ e
    → length (take m zs) ≡ atom_count e.fluents e.actions e.horizon
lent clear few is same = size clear few ∙ is ∙ ap (λ (x : Description). atom_count x.fluents x.actions x.horizon) same

module _ (input : List ℕ) where
  -- the description was read
  read-known : {n : ℕ} (r : Result Read Refusal) {x : Read} → n ≡ 64 → reply_of r ≡ replied input (described n input) → r ≡ Ok x
      → Known input x.bytes x.lines
  read-known r long e is = known input (replied-64 input long r e (ap reply_of is))

  -- it is within the limits
  counted : {bytes lines : ℕ} (k : Known input bytes lines) (d : Description) (count : ℕ) → d ≡ record_of (described 64 input)
      → count ≡ atoms_within d.fluents d.actions d.horizon → (count ≡ atom_count d.fluents d.actions d.horizon) × (count ≤ 1024)
  counted k d count e counts =
      let l : (d.fluents ≤ 24) × (d.actions ≤ 8) × (d.horizon ≤ 30) = rw (e, k.is) (limits input k) in
      let is = counts ∙ atoms-within d.fluents d.actions d.horizon l.0 l.1 l.2 in
      (is, omega (arith, is, few-atoms d.fluents d.actions d.horizon l.0 l.1 l.2))

pub slice_bounds-text-start : goal.slice_bounds-text-start
slice_bounds-text-start c =
    let said = c.read_description.ensures in
    (read-known c.args.input.now c.read_description.result c.no_laws-laws.ensures.bounded said.answers c.in-Ok.is).start

pub slice_bounds-values-end : goal.slice_bounds-values-end
slice_bounds-values-end c =
    let input = c.args.input.now in
    let k = read-known input c.read_description.result c.no_laws-laws.ensures.bounded c.read_description.ensures.answers c.in-Ok.is in
    let d = record-64 input c.no_laws-laws.ensures.bounded c.read_description.ensures.description c.in-Ok.is in
    let few = (counted input k _ _ d c.atom_count-atoms.ensures).1 in
    omega (arith, few, ap length c.no_values-values.ensures)

pub slice_bounds-read_history-end : goal.slice_bounds-read_history-end
slice_bounds-read_history-end c =
    let input = c.args.input.now in
    let k = read-known input c.read_description.result c.no_laws-laws.ensures.bounded c.read_description.ensures.answers c.in-Ok.is in
    let d = record-64 input c.no_laws-laws.ensures.bounded c.read_description.ensures.description c.in-Ok.is in
    let few = (counted input k _ _ d c.atom_count-atoms.ensures).1 in
    sym (size c.no_values-values.ensures few)

-- what the history reader says of the part behind the description
pub moved_up-requires : goal.moved_up-requires
moved_up-requires c =
    let input = c.args.input.now in
    let k = read-known input c.read_description.result c.no_laws-laws.ensures.bounded c.read_description.ensures.answers c.in-Ok.is in
    let d = record-64 input c.no_laws-laws.ensures.bounded c.read_description.ensures.description c.in-Ok.is in
    let few = counted input k _ _ d c.atom_count-atoms.ensures in
    can-move input k k.part
    (lent c.no_values-values.ensures few.1 few.0 (d ∙ ap record_of k.is))
    (history_reply_of c.read_history-said.result) c.read_history-said.ensures.answers

pub returns-in-Err-clause-answers : goal.returns-in-Err-clause-answers
returns-in-Err-clause-answers c =
    let input = c.args.input.now in
    let said = c.read_description.ensures in
    let is =
    description-refused input
    (replied-64 input c.no_laws-laws.ensures.bounded c.read_description.result said.answers (ap reply_of c.in-Err.is)) in
    sym (ap history_replied (recorded-refused input is))

pub returns-in-Err-clause-laws : goal.returns-in-Err-clause-laws
returns-in-Err-clause-laws c =
    let o = described 64 c.args.input.now in
    c.read_description.ensures.leaves
    ∙ left-64 c.args.input.now c.no_laws-laws.ensures.bounded _
    ∙ ap (laws_left o) c.no_laws-laws.ensures.answers

pub returns-in-Err-clause-values : goal.returns-in-Err-clause-values
returns-in-Err-clause-values c =
    let input = c.args.input.now in
    let said = c.read_description.ensures in
    let is =
    description-refused input
    (replied-64 input c.no_laws-laws.ensures.bounded c.read_description.result said.answers (ap reply_of c.in-Err.is)) in
    rw (recorded-refused input is) refl

pub returns-in-Ok : goal.returns-in-Ok
returns-in-Ok c =
    let input = c.args.input.now in
    let said = c.read_description.ensures in
    let long = c.no_laws-laws.ensures.bounded in
    let k = read-known input c.read_description.result long said.answers c.in-Ok.is in
    let d = record-64 input long said.description c.in-Ok.is in
    let m = c.atom_count-atoms.result in
    let zs = c.no_values-values.result in
    let clear = c.no_values-values.ensures in
    let atoms = counted input k c.in-Ok.read.description m d c.atom_count-atoms.ensures in
    let enough = lent clear atoms.1 atoms.0 (d ∙ ap record_of k.is) in
    let last = c.read_history-said.new.values in
    let whole : length last ≡ m = omega (arith, c.read_history-said.auto.values, size clear atoms.1) in
    let vs = values-read input k k.part enough m zs last atoms.1 clear whole c.read_history-said.ensures.leaves in
    record {
      answers =
          c.moved_up.ensures.answers
          ∙ says input k k.part enough (history_reply_of c.read_history-said.result) c.read_history-said.ensures.answers;
      description = d;
      laws = said.leaves ∙ left-64 input long _ ∙ ap (laws_left (described 64 input)) c.no_laws-laws.ensures.answers;
      bounded_laws = c.read_description.auto.laws ∙ long;
      atoms = atoms.0 ∙ ap (λ (x : Description). atom_count x.fluents x.actions x.horizon) d;
      values = vs.0;
      padded = vs.1;
      bounded = (
        atoms.1,
        omega (arith, length-append last (drop m zs), length-drop m zs, whole, atoms.1, ap length clear),
      );
      numbered = c.moved_up.ensures.numbered c.read_history-said.ensures.numbered;
    }
