-- Replies: a refusal by its number and place, or an answer. What every function open to callers says is such a reply.
-- Assumes nothing.
use Rattle.std.proofs.Math.Option.{Option, none, some}
use Rattle.std.specs.Prelude.{ℕ}

pub data Reply (A : Type 0) : Type 0 where
  refused : ℕ → ℕ → Reply A
  answered : A → Reply A

-- what is said of the place that a search found, else what comes next
abbrev pub or_else : {A : Type 0} → Option ℕ → (ℕ → A) → A → A
or_else (some place) said next = said place
or_else none said next = next

-- the refusal of that number at the place that a search found, else what comes next
abbrev pub or_refuse : {A : Type 0} → Option ℕ → ℕ → Reply A → Reply A
or_refuse (some place) number next = refused number place
or_refuse none number next = next

-- the refusal of that number at the place that a search found, or none
abbrev pub refusal : ℕ → Option ℕ → Reply Unit
refusal number found = or_refuse found number (answered tt)

-- the refusal by what was tested before, else what comes next
abbrev pub unless_refused : {A B : Type 0} → Reply A → Reply B → Reply B
unless_refused (refused number place) next = refused number place
unless_refused (answered a) next = next

-- what lent memory holds afterwards: after a refusal what it held before
abbrev pub left_after : {A B : Type 0} → Reply A → (A → B) → B → B
left_after (refused number place) new old = old
left_after (answered a) new old = new a
