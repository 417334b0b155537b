-- The answer at hand is the reading's.
-- Assumes nothing.
use mathlib.Core.Path.{◌≡◌}
use lib.ListN.{length}
use Rattle.causal_reading.specs.Readings.{reply_of, reading}
use Rattle.bench_causal_reading.proofs.repeated.Given as goal

abbrev pub invariant-loop : goal.invariant-loop
invariant-loop l = reply_of l.last ≡ reading l.d l.laws (length l.laws) l.values
