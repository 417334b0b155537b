-- `literal_sets::values::has` meets its contract.
-- Assumes nothing.
use Rattle.std.proofs.Common.{rules, tests, ◌≤◌, ◌/◌, length}
use mathlib.Core.Path.{sym}
use Rattle.literal_sets.proofs.Lookups.{set_of-past}
use Rattle.literal_sets.proofs.values.has.Goals as goal

pub returns-in_default : goal.returns-in_default
returns-in_default c =
    let past : length c.args.values.now ≤ c.args.code / 2 = search (rules, tests) in
    sym (set_of-past c.args.values.now c.args.code past)
