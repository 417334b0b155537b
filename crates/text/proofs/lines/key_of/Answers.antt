-- `lines::key_of` meets its contract. The loop's invariant: the key is found in the entries not yet passed.
-- Assumes nothing.
use Rattle.text.proofs.KeyTable.{among-keys, found_here, found-later}
use Rattle.text.proofs.lines.key_of.Goals as goal

pub loop-bytes-init : goal.loop-bytes-init
loop-bytes-init c = among-keys c.args.front.now

pub returns-then-same : goal.returns-then-same
returns-then-same c =
    found_here c.args.front.now _ c.loop-bytes.bytes-index _ c.loop-bytes-test.true c.loop-bytes.invariant
    c.as_bytes.ensures.value c.same.ensures c.if-same.true

pub loop-bytes-preserved : goal.loop-bytes-preserved
loop-bytes-preserved c =
    found-later c.args.front.now _ c.loop-bytes.bytes-index _ c.loop-bytes-test.true c.loop-bytes.invariant
    c.as_bytes.ensures.value c.same.ensures c.if-same.false
