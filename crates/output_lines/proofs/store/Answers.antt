-- As many bytes as fit stand in front, and what stood behind them stays.
-- Assumes nothing.
use mathlib.Core.Path.{sym}
use native.Mathlib.Omega.{arith}
use Rattle.output_lines.proofs.Stores.{stored-front}
use Rattle.output_lines.proofs.store.Goals as goal

pub returns : goal.returns
returns c =
    let m = c.min-held.result in
    rw c.copy_from_slice.ensures.after
    (sym (stored-front c.args.out.now c.args.bytes.now m (omega arith) (omega arith) (λ more. omega arith)))
