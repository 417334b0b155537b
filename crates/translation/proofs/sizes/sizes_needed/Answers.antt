-- `sizes_needed` meets its contract. The invariant: of rules and of words, what is counted and what the laws not yet passed
-- have make up the whole.
-- Assumes nothing.
use mathlib.Core.Path.{◌∙◌}
use native.Mathlib.Omega.{arith}
use Rattle.action_language.proofs.Atoms.{atoms-within}
use Rattle.translation.proofs.Sums.{counting-last}
use Rattle.translation.proofs.sizes.sizes_needed.Goals as goal

pub returns : goal.returns
returns c =
    let d = c.args.d in
    let limits = c.requires.limits in
    let counted = counting-last d.fluents d.actions c.loop-law.invariant (omega arith) in
    (c.atom_count-atoms.ensures ∙ atoms-within d.fluents d.actions d.horizon limits.0 limits.1 limits.3, counted.0, counted.1)
