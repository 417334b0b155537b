-- What acceptance gives those who count and write: the limits, laws enough, and room enough.
-- Assumes nothing.
use mathlib.Core.Path.{◌≡◌, sym}
use mathlib.Core.List.{List}
use mathlib.Core.Option.{none}
use Prim.Native.Nat.{ℕ, ◌≤◌}
use lib.ListN.{length}
use Rattle.basics.specs.Replies.{answered}
use Rattle.action_language.specs.declared.Law.{Law}
use Rattle.action_language.specs.declared.Description.{Description}
use Rattle.action_language.specs.Acceptance.{bad_record, bad_horizon}
use Rattle.action_language.proofs.Laws.{accepted-counts, accepted-horizon}
use Rattle.translation_rules.specs.Translated.{written, table_for, outcome}
use Rattle.translation_rules.proofs.Outcomes.{written-accepted}

-- a description within the limits, and as many laws as it counts
pub record Ready (d : Description) (lent : ℕ) : Type 0 where
  pub limits : (d.fluents ≤ 24) × (d.actions ≤ 8) × (d.laws ≤ 64) × (d.horizon ≤ 30)
  pub held : d.laws ≤ lent

pub ready : (d : Description) (ls : List Law) (lent : ℕ) → bad_record d ls lent ≡ none → bad_horizon d.horizon ≡ none → Ready d lent
ready d ls lent taken horizon =
    let counts = accepted-counts d ls lent taken in
    record { limits = (counts.1, counts.2, counts.3, (accepted-horizon d.horizon horizon).1); held = counts.4 }

-- where the translation is no refusal
module _ (d : Description) (ls : List Law) (lent room : ℕ) {a r w : ℕ} (e : answered (written a r w) ≡ outcome d ls lent room) where
  pub ready-to-write : Ready d lent
  ready-to-write = let p = written-accepted d ls lent room (sym e) in ready d ls lent p.taken p.horizon

  pub enough-room : length (table_for d ls) ≤ room
  enough-room = (written-accepted d ls lent room (sym e)).room-enough
