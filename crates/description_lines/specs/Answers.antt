-- What is answered for a description's text, and the records that are left in a run of law records.
-- Assumes nothing.
use Rattle.std.specs.Prelude.{List, ◌++◌, ℕ, ◌-◌, length, drop}
use Rattle.basics.specs.Replies.{Reply, refused, answered, left_after}
use Rattle.action_language.specs.declared.Law.{Law}
use Rattle.action_language.specs.declared.Description.{Description}
use Rattle.description_lines.specs.Descriptions.{Taken, read, description_of}

-- how many bytes and lines the description takes
pub data Behind : Type 0 where
  behind : ℕ → ℕ → Behind

abbrev pub replied : List ℕ → Reply Taken → Reply Behind
replied text (refused number place) = refused number place
replied text (answered (read d rest lines)) = answered (behind (length text - length rest) lines)

-- a refused text has the record with every count 0
abbrev pub record_of : Reply Taken → Description
record_of (refused number place) = record { fluents = 0; actions = 0; laws = 0; horizon = 0 }
record_of (answered (read d rest lines)) = description_of d

-- the records read followed by the old ones; after a refusal all as it was
abbrev pub laws_read : List Law → Taken → List Law
laws_read old (read d rest lines) = d.laws ++ drop (length d.laws) old

abbrev pub laws_left : Reply Taken → List Law → List Law
laws_left reply old = left_after reply (laws_read old) old
