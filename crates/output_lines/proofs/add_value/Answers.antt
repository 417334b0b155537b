-- A number has at most 20 digits, which are its decimal, and a name shown at most 16 bytes.
-- Assumes nothing.
use mathlib.Core.Path.{◌∙◌, ap}
use native.Mathlib.Omega.{arith}
use Prim.Native.Nat.{ℕ, ◌<◌, ◌^◌}
use lib.ListN.{length, length-take}
use Rattle.output_lines.proofs.Decimals.{few-digits, fewest-decimal}
use Rattle.output_lines.proofs.Names.{shown-short}
use Rattle.output_lines.proofs.add_value.Goals as goal

pub add-requires-in-Fluent : goal.add-requires-in-Fluent
add-requires-in-Fluent c =
    omega (arith, ap length c.fluent_name.ensures.answers, shown-short c.args.input.now c.in-Fluent.fluent)

pub returns-in-Number : goal.returns-in-Number
returns-in-Number c =
    let n = c.in-Number.number in
    let fits : n < 2 ^ 64 = omega arith in
    let k = c.decimal-count.result in
    let few = few-digits n k fits c.decimal-count.ensures.len in
    let spelt = c.decimal-count.ensures.digits ∙ fewest-decimal n k fits c.decimal-count.ensures.len in
    record {
      fact = rw c.in-Number.is (rw spelt at c.add-in-Number.ensures.items);
      upper_bound = omega (arith, few, c.add-in-Number.ensures.len, length-take {A = ℕ});
    }

pub returns-in-Fluent : goal.returns-in-Fluent
returns-in-Fluent c =
    let name = c.fluent_name.ensures.answers in
    record {
      fact = rw c.in-Fluent.is (rw name at c.add-in-Fluent.ensures.items);
      upper_bound = omega (arith, c.add-in-Fluent.ensures.len, ap length name, shown-short c.args.input.now c.in-Fluent.fluent);
    }
