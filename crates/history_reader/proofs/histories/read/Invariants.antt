-- `histories::read` meets its contract. The loop's invariant: the lines left come to what the text comes to.
-- Assumes nothing.
use mathlib.Core.Path.{◌≡◌}
use mathlib.Core.List.{List}
use Prim.Native.Nat.{◌+◌, ◌-◌, ◌≤◌}
use lib.ListN.{length, drop}
use Rattle.action_language.specs.declared.Law.{Law}
use Rattle.description_reader.specs.Internal.{draft_by}
use Rattle.history_reader.specs.Histories.{states_from}
use Rattle.history_reader.specs.Internal.{record_from}
use Rattle.history_reader.proofs.histories.read.Given as goal

abbrev pub invariant-loop-line : goal.invariant-loop-line
invariant-loop-line l =
    (1 ≤ l.line) × (l.at ≤ length l.text)
    × ((laws : List Law)
    → record_from (l.last + 1 - l.line) (draft_by l.description laws l.declared) l.line l.values (drop l.at l.text)
    ≡ states_from l.declared.horizon (draft_by l.description laws l.declared) 0 1 l.initial.values l.text)
