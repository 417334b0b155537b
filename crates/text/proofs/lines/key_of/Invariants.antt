-- `lines::key_of` meets its contract. The loop's invariant: the key is found in the entries not yet passed.
-- Assumes nothing.
use Rattle.std.proofs.Common.{◌≡◌, drop}
use Rattle.text_forms.specs.Lines.{key_number}
use Rattle.text_forms.specs.Keys.{key_by}
use Rattle.text.proofs.KeyTable.{key_found}
use Rattle.text.proofs.lines.key_of.Given as goal

abbrev pub invariant-loop-bytes : goal.invariant-loop-bytes
invariant-loop-bytes l = key_found l.front (drop l.bytes-index l.bytes-items) ≡ key_by (key_number l.front)
