-- What the description reader takes is accepted: the record and the laws that it leaves are refused neither by 8 nor by 3, and
-- each law record is tidy.
-- Assumes nothing.
use Rattle.std.specs.Prelude.{◌≡◌, List, [], ◌++◌, ℕ, min, ◌≤◌, length}
use Rattle.std.proofs.Math.Option.{none}
use Rattle.basics.specs.Search.{Each}
use Rattle.basics.specs.Replies.{Reply, answered}
use Rattle.action_language.specs.declared.Kind.{Kind}
use Rattle.action_language.specs.declared.Kind.TheVariants.{Static, Dynamic}
use Rattle.action_language.specs.declared.Law.{Law}
use Rattle.action_language.specs.Laws.{if_list, after_list, law_of}
use Rattle.action_language.specs.Acceptance.{bad_record, bad_horizon}
use Rattle.description_lines.specs.LineSteps.{Draft}
use Rattle.description_lines.specs.Descriptions.{Taken, read, described, description_of}
use Rattle.description_lines.specs.Answers.{record_of, laws_left}

-- a static law's after-list is empty
abbrev pub afters_of : Kind → Law → List ℕ
afters_of Static l = []
afters_of Dynamic l = after_list l

-- a law record as the reader leaves it: each list's codes, then 0; in a static law the after-list's count and places are 0 too
abbrev pub Tidy : Law → Type 0
Tidy l = l ≡ law_of l.kind l.head (if_list l) (afters_of l.kind l)

pub record Accepted (lent : ℕ) (d : Draft) : Type 0 where
  -- at most 64 laws, and no more than are lent
  pub few : length d.laws ≤ min 64 lent
  -- refusal 8: of every run that begins with the laws read, whatever stands behind them, where at least as many are lent
  pub fits : (old : List Law) (room : ℕ) → length d.laws ≤ room → bad_record (description_of d) (d.laws ++ old) room ≡ none
  -- refusal 3
  pub time : bad_horizon d.horizon ≡ none
  pub tidy : Each Tidy d.laws

-- for every text that the reader takes, whatever number of laws is lent
abbrev pub TakenAccepted : Type 0
TakenAccepted =
    (lent : ℕ) (text : List ℕ) (d : Draft) (rest : List ℕ) (lines : ℕ)
    → described lent text ≡ answered (read d rest lines) → Accepted lent d

-- the same of what the reader leaves: the record, and the run that begins with the laws read, by the number lent and by 64
pub record LeftFits (lent : ℕ) (old : List Law) (reply : Reply Taken) : Type 0 where
  pub lent_fits : bad_record (record_of reply) (laws_left reply old) lent ≡ none
  pub run_fits : bad_record (record_of reply) (laws_left reply old) 64 ≡ none
  pub time : bad_horizon (record_of reply).horizon ≡ none

abbrev pub LeftAccepted : Type 0
LeftAccepted =
    (lent : ℕ) (text : List ℕ) (d : Draft) (rest : List ℕ) (lines : ℕ)
    → described lent text ≡ answered (read d rest lines) → (old : List Law)
    → LeftFits lent old (described lent text)
