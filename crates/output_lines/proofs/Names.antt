-- A name shown has at most 16 bytes.
-- Assumes nothing.
use mathlib.Core.List.{List, []}
use Prim.Native.Nat.{ℕ, ◌≤◌}
use native.Mathlib.Omega.{arith}
use borrow.Author.Tests.{ltb-true}
use lib.Dec.{ltb}
use lib.ListN.{length}
use Rattle.basics.specs.Replies.{Reply, refused, answered}
use Rattle.basics.proofs.Tests.{each_at}
use Rattle.description_lines.specs.Descriptions.{Taken, read, described}
use Rattle.shown_names.specs.Shown.{fluent_name, shown_by, shown_fluent}
use Rattle.reader_bounds.proofs.Drafts.{Short, chosen, BoundedReply, bounded}

name-short : (o : Reply Taken) (text : List ℕ) (f : ℕ) → BoundedReply text 64 65537 o → length (shown_by fluent_name o f) ≤ 16
name-short (refused k place) text f t = omega arith
name-short (answered (read d rest last)) text f t =
    chosen Short (ltb f d.fluents)
    (λ below. (each_at Short [] d.names).0 t.limited.short f (omega (arith, ltb-true f d.fluents below, t.limited.named)))
    (λ _. omega arith)

pub shown-short : (input : List ℕ) (f : ℕ) → length (shown_fluent input f) ≤ 16
unfolding shown_fluent
shown-short input f = name-short (described 64 input) input f (bounded 64 input)
