-- The laws behind those that a description counts are not read.
-- Assumes nothing.
use mathlib.Core.Path.{◌≡◌, refl, sym, ◌∙◌}
use mathlib.Core.List.{List, ◌++◌}
use Prim.Native.Nat.{ℕ}
use native.Mathlib.Omega.{arith}
use lib.ListN.{length, take}
use lib.Seq.{take_at, take_all}
use Rattle.basics.specs.Replies.{Reply, refused, answered}
use Rattle.action_language.specs.declared.Law.{Law}
use Rattle.action_language.specs.declared.Description.{Description}
use Rattle.action_language.specs.Acceptance.{bad_record}
use Rattle.translation_rules.specs.Translated as translated
use Rattle.translation_rules.specs.Translated.{Written, written}
use Rattle.history_check.specs.Checks as history
use Rattle.causal_reading.specs.Readings as causal
use Rattle.report_theory.specs.Output.{room, after_outcome}

module _ (d : Description) (ls more : List Law) (all : length ls ≡ d.laws) where
  pub same-laws : take d.laws (ls ++ more) ≡ take d.laws ls
  same-laws = take_at ls more d.laws all ∙ sym (take_all d.laws ls (omega arith))

  pub same_outcome : (room : ℕ) → translated.outcome d (ls ++ more) 64 room ≡ translated.outcome d ls 64 room
  unfolding translated.outcome bad_record
  same_outcome room = rw same-laws

  pub same_check : (vs : List ℕ) (room : ℕ) → history.checked d (ls ++ more) 64 vs room ≡ history.checked d ls 64 vs room
  unfolding history.checked
  same_check vs room = rw (same_outcome room, same-laws)

  pub same-reading : (vs : List ℕ) → causal.reading d (ls ++ more) 64 vs ≡ causal.reading d ls 64 vs
  unfolding causal.reading bad_record
  same-reading vs = rw same-laws

  pub laws-behind : (input vs : List ℕ)
      → after_outcome input d (ls ++ more) vs (translated.outcome d (ls ++ more) 64 room)
      ≡ after_outcome input d ls vs (translated.outcome d ls 64 room)
  laws-behind input vs = rw (same_outcome room) (by-outcome (translated.outcome d ls 64 room))
    where
      by-outcome : (o : Reply Written) → after_outcome input d (ls ++ more) vs o ≡ after_outcome input d ls vs o
      by-outcome (refused number place) = refl
      by-outcome (answered (written atoms rules words)) = rw (same_check vs room, same-reading vs)
