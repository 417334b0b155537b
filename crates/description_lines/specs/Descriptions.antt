-- Reading a description, line by line (01, "Text" and "Where a call can be turned down").
-- Assumes nothing.
use Rattle.std.specs.Prelude.{cond, List, [], ℕ, zero, suc, ◌-◌, ltb, length}
use Rattle.std.proofs.Math.Option.{Option, none, some}
use Rattle.basics.specs.Replies.{Reply, refused, answered}
use Rattle.action_language.specs.declared.Description.{Description}
use Rattle.text_forms.specs.Lines.{Line, first_line}
use Rattle.description_lines.specs.LineSteps as step
use Rattle.description_lines.specs.LineSteps.{Due, horizon_due, Draft, Step, next, finish, line_step}

-- a description that was read: the draft, the text behind the end line and the number of lines
pub data Taken : Type 0 where
  read : Draft → List ℕ → ℕ → Taken

abbrev pub after_step : Step → ℕ → List ℕ → (Due → Draft → List ℕ → Reply Taken) → Reply Taken
after_step (step.refused k) line rest go = refused k line
after_step (next due d) line rest go = go due d rest
after_step (finish d) line rest go = answered (read d rest line)

abbrev pub after_first : Option Line → ℕ → Due → Draft → ℕ → (Due → Draft → List ℕ → Reply Taken) → Reply Taken
after_first none lent due d line go = refused 2 line
after_first (some l) lent due d line go = after_step (line_step lent due d l.key l.value) line l.rest go

-- line by line, the first bad line decides; a text that ends where a line is due lacks that line
abbrev pub lines_from : ℕ → ℕ → ℕ → Due → Draft → List ℕ → Reply Taken
lines_from zero lent line due d text = refused 2 line
lines_from (suc k) lent line due d text =
    after_first (first_line text) lent due d line (λ due' d' rest. lines_from k lent (suc line) due' d' rest)

abbrev pub blank : Draft
blank = record { horizon = 0; fluents = 0; names = []; laws = [] }

-- refusal 1: over 65,535 bytes, place 0
unfoldable pub described : ℕ → List ℕ → Reply Taken
described lent text =
    cond (ltb 65535 (length text)) (refused 1 0) (lines_from (suc (length text)) lent 1 horizon_due blank text)

abbrev pub description_of : Draft → Description
description_of d =
    record {
      fluents = d.fluents;
      actions = length d.names - d.fluents;
      laws = length d.laws;
      horizon = d.horizon;
    }
