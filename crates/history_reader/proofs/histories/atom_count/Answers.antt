-- `histories::atom_count` meets its contract.
-- Assumes nothing.
use mathlib.Core.Path.{◌∙◌}
use Prim.Native.Nat.{◌-◌, ◌≤◌}
use native.Mathlib.Omega.{arith}
use Rattle.action_language.proofs.Atoms.{few-atoms, atoms-within}
use Rattle.history_reader.proofs.histories.atom_count.Goals as goal

pub returns : goal.returns
returns c =
    let r = c.args.declared.now in
    let actions = r.names.count - r.fluents in
    let few : actions ≤ 8 = omega (arith, r.actions) in
    let is = c.atom_count.ensures ∙ atoms-within r.fluents actions r.horizon r.few few r.time in
    (is, omega (arith, is, few-atoms r.fluents actions r.horizon r.few few r.time))
