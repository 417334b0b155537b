-- The largest table: how many words it needs, by the translation's counts.
-- Assumes nothing.
use mathlib.Core.Path.{◌≡◌}
use Rattle.basics.specs.Replies.{refused, answered}
use Rattle.action_language.specs.Acceptance.{bad_record, bad_horizon}
use Rattle.action_language.specs.Examples.{largest, largest_laws}
use Rattle.translation_rules.specs.Translated.{written, outcome}
use Rattle.translation_rules.proofs.Counts.{rule-count, word_count}

pub largest-taken : outcome largest largest_laws 64 30912 ≡ answered (written 984 2448 30912)
unfolding outcome bad_record bad_horizon
largest-taken = rw (word_count 24 8 30 largest_laws, rule-count 24 8 30 largest_laws)

pub largest-refused : outcome largest largest_laws 64 30911 ≡ refused 9 30912
unfolding outcome bad_record bad_horizon
largest-refused = rw (word_count 24 8 30 largest_laws)
