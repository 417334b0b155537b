-- What the code's results stand for: the place that a search found, a refusal by its number, and the reply of a call that can be
-- refused.
-- Assumes nothing.
use Rattle.std.proofs.Math.Option as found
use Rattle.std.specs.Prelude.{◌≡◌, ℕ, Bool, true, false, Option, Some, None, Result, Ok, Err, IfErr}
use Rattle.basics.specs.declared.Reason.{Reason}
use Rattle.basics.specs.declared.Reason.TheVariants.{LongText, WrongLine, BadHorizon, BadName, NoRoom, BadLiteral, MoreBytes}
use Rattle.basics.specs.declared.Reason.TheVariants.{BadRecord, ShortTable, WrongCount, BadValue, BadRule, BadLevels, Own}
use Rattle.basics.specs.declared.Refusal.{Refusal}
use Rattle.basics.specs.Replies.{Reply, refused, answered}

-- the place that the code's search names
abbrev pub place_of : Option ℕ → found.Option ℕ
place_of (Some place) = found.some place
place_of None = found.none

-- the number of a refusal
abbrev pub number_of : Reason → ℕ
number_of LongText = 1
number_of WrongLine = 2
number_of BadHorizon = 3
number_of BadName = 4
number_of NoRoom = 5
number_of BadLiteral = 6
number_of MoreBytes = 7
number_of BadRecord = 8
number_of ShortTable = 9
number_of WrongCount = 10
number_of BadValue = 11
number_of BadRule = 12
number_of BadLevels = 13
number_of (Own number) = number

-- whether a reason is a caller's own, which can have a number of the others too
abbrev pub is_own : Reason → Bool
is_own (Own number) = true
is_own LongText = false
is_own WrongLine = false
is_own BadHorizon = false
is_own BadName = false
is_own NoRoom = false
is_own BadLiteral = false
is_own MoreBytes = false
is_own BadRecord = false
is_own ShortTable = false
is_own WrongCount = false
is_own BadValue = false
is_own BadRule = false
is_own BadLevels = false

-- a refusal's reason is the one that has its number: none is a caller's own
abbrev pub Numbered : {R : Type 0} → Result R Refusal → Type 0
Numbered result = IfErr result (λ refusal. is_own refusal.reason ≡ false)

-- the reply of a call that can be refused, by what its answer stands for
abbrev pub reply_by : {R A : Type 0} → (R → A) → Result R Refusal → Reply A
reply_by said (Ok answer) = answered (said answer)
reply_by said (Err refusal) = refused (number_of refusal.reason) refusal.place

-- what the code's answer to tests stands for: the refusal by the first whose condition is met, or none
abbrev pub tested_of : Result Unit Refusal → Reply Unit
tested_of = reply_by (λ passed. tt)
