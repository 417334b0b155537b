-- Worked examples of reading a description, by which line decides: lines are counted from 1, and at each law its count comes before
-- its spelling.
-- Assumes nothing.
use Rattle.std.specs.Prelude.{◌≡◌, List, ◌++◌, ℕ}
use Rattle.basics.specs.Quoted.{bytes}
use Rattle.basics.specs.Replies.{refused}
use Rattle.description_lines.specs.Descriptions.{described}

-- one step, one fluent
abbrev pub front : List ℕ
front = bytes "horizon=1\nfluent=a\n"

pub record LinesRead : Type 0 where
  -- no line; a line of another key; none where a law or the end is due
  pub no_line : described 64 (bytes "") ≡ refused 2 1
  pub other_key : described 64 (bytes "fluent=a\n") ≡ refused 2 1
  pub no_end : described 64 front ≡ refused 2 3
  pub end-with-a-value : described 64 (front ++ bytes "end=a\n") ≡ refused 2 3
  -- a second law where one is lent, short or in full; one where none is
  pub second-default : described 1 (front ++ bytes "default=a\ndefault=a\nend=\n") ≡ refused 5 4
  pub second-inertial : described 1 (front ++ bytes "inertial=a\ninertial=a\nend=\n") ≡ refused 5 4
  pub second-static : described 1 (front ++ bytes "static=a\nif=\nstatic=a\nif=\nend=\n") ≡ refused 5 5
  pub law-where-none-is-lent : described 0 (front ++ bytes "default=a\nend=\n") ≡ refused 5 3
  -- the same with a name that is not declared: 5 comes before 6
  pub unknown-literal : described 0 (front ++ bytes "default=b\n") ≡ refused 5 3
  pub unknown-item : described 0 (front ++ bytes "nonexecutable=b\n") ≡ refused 5 3
  pub unknown-item-of-a-law : described 1 (front ++ bytes "nonexecutable=b\n") ≡ refused 6 3
