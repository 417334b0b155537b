-- Each short law leaves the record that its long lines leave, and is refused by the number by which they would be (02, §1).
-- Assumes nothing.
use Rattle.std.specs.Prelude.{◌≡◌, List, [], ℕ}
use Rattle.std.proofs.Math.Option.{Option, none, some}
use Rattle.basics.specs.Replies as replies
use Rattle.basics.specs.Replies.{Reply, answered}
use Rattle.text_forms.specs.Lines.{static_key, dynamic_key, if_key, after_key, default_key, inertial_key, causes_key}
use Rattle.text_forms.specs.Lines.{by_key, nonexecutable_key}
use Rattle.spelling.specs.Spelling.{false_bytes}
use Rattle.description_lines.specs.LineSteps.{Due, Draft, Step, refused, next, finish, line_step}
use Rattle.description_lines.specs.Descriptions.{Taken, read, blank}
use Rattle.written_form.specs.Writable.{AreNames}

-- a line, then those behind it; behind a refusal and behind the end nothing is read
abbrev pub and_then : Step → (Due → Draft → Step) → Step
and_then (refused k) go = refused k
and_then (next due d) go = go due d
and_then (finish d) go = finish d

-- the lines of a law in full
abbrev pub static_lines : ℕ → Due → Draft → List ℕ → List ℕ → Step
static_lines lent due d head ifs = and_then (line_step lent due d static_key head) (λ due' d'. line_step lent due' d' if_key ifs)

abbrev pub dynamic_lines : ℕ → Due → Draft → List ℕ → List ℕ → List ℕ → Step
dynamic_lines lent due d head ifs afters =
    and_then (line_step lent due d dynamic_key head)
    (λ due' d'. and_then (line_step lent due' d' if_key ifs) (λ due'' d''. line_step lent due'' d'' after_key afters))

-- the one short law of two lines
abbrev pub causes_lines : ℕ → Due → Draft → List ℕ → List ℕ → Step
causes_lines lent due d head afters = and_then (line_step lent due d causes_key head) (λ due' d'. line_step lent due' d' by_key afters)

-- for every number of laws lent, wherever the reader is, whatever the bytes of the values
pub record Shorthand : Type 0 where
  pub default-long : (lent : ℕ) (due : Due) (d : Draft) → AreNames d.names → (value : List ℕ)
      → line_step lent due d default_key value ≡ static_lines lent due d value value
  pub inertial-long : (lent : ℕ) (due : Due) (d : Draft) → AreNames d.names → (value : List ℕ)
      → line_step lent due d inertial_key value ≡ dynamic_lines lent due d value value value
  pub causes-long : (lent : ℕ) (due : Due) (d : Draft) (head afters : List ℕ)
      → causes_lines lent due d head afters ≡ dynamic_lines lent due d head [] afters
  pub nonexecutable-long : (lent : ℕ) (due : Due) (d : Draft) (afters : List ℕ)
      → line_step lent due d nonexecutable_key afters ≡ dynamic_lines lent due d false_bytes [] afters
  -- the names of a draft that the reader comes to are names: none before the first line, and each line keeps to it
  pub none_named : AreNames blank.names
  pub names-kept : (lent : ℕ) (due : Due) (d : Draft) → AreNames d.names → (key : ℕ) (value : List ℕ) (due' : Due) (d' : Draft)
      → line_step lent due d key value ≡ next due' d' → AreNames d'.names

-- what a description is read to: horizon, names and laws, without the text behind it and the lines that it took
abbrev pub draft_read : Reply Taken → Option Draft
draft_read (replies.refused number place) = none
draft_read (answered (read d rest lines)) = some d
