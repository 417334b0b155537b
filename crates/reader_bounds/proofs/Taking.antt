-- What is taken is accepted, with the whole run lent.
-- Assumes nothing.
use mathlib.Core.Path.{◌≡◌, refl}
use mathlib.Core.List.{List, ◌++◌}
use Prim.Native.Nat.{ℕ}
use native.Mathlib.Omega.{arith}
use lib.ListN.{length, drop, length-append, length-drop}
use Rattle.basics.specs.Replies.{Reply, refused, answered}
use Rattle.action_language.specs.declared.Law.{Law}
use Rattle.action_language.specs.declared.Description.{Description}
use Rattle.description_lines.specs.Descriptions.{Taken, read, described}
use Rattle.description_lines.specs.Answers.{Behind, replied, record_of, laws_left}
use Rattle.reader_bounds.specs.Taking.{TakesAccepted}
use Rattle.reader_bounds.proofs.Accepting.{taken-accepted}

reply-accepted : (ls : List Law) (text : List ℕ) (o : Reply Taken) → described (length ls) text ≡ o
    → TakesAccepted (replied text o) (record_of o) (laws_left o ls)
reply-accepted ls text (refused number place) is = tt
reply-accepted ls text (answered (read d rest lines)) is =
    let taken = taken-accepted (length ls) text d rest lines is in
    let left = length-drop (length d.laws) ls in (
      taken.fits (drop (length d.laws) ls) (length (d.laws ++ drop (length d.laws) ls))
          (omega (arith, length-append d.laws (drop (length d.laws) ls))),
      taken.time,
    )

pub takes-accepted : (ls : List Law) (text : List ℕ) (reply : Reply Behind) (d : Description) (left : List Law)
    → reply ≡ replied text (described (length ls) text) → d ≡ record_of (described (length ls) text)
    → left ≡ laws_left (described (length ls) text) ls
    → TakesAccepted reply d left
takes-accepted ls text reply d left e f g = rw (e, f, g) (reply-accepted ls text (described (length ls) text) refl)
