-- Answers as numbers: a code, and 256 times a value (include/huntyghai.h has the same table). A refusal's code is its number, 1 to
-- 63; every other answer has a code above those.
-- Assumes nothing.
use Rattle.std.specs.Prelude.{ℕ, ◌+◌, ◌*◌, ◌%◌}
use Rattle.basics.specs.Replies.{Reply, refused, answered}
use Rattle.answer_set_theory.specs.Verdicts.{Verdict, clash, broken, unfounded, passes}
use Rattle.translation_rules.specs.Translated.{Written, written}
use Rattle.history_check.specs.Checks.{Finding, missing, judged}
use Rattle.causal_reading.specs.Verdicts.{Causal, contradicted, uncaused, path}

-- a value keeps its low 56 bits; no memory has a longer length
unfoldable pub coded : ℕ → ℕ → ℕ
coded code value = code + value % 72057594037927936 * 256

-- two numbers of up to 16 bits in one value
unfoldable pub pair : ℕ → ℕ → ℕ
pair high low = high % 65536 * 65536 + low % 65536

-- a refusal by its number and place, or the answer's own code
abbrev pub reply_code : {A : Type 0} → (A → ℕ) → Reply A → ℕ
reply_code code (refused number place) = coded number place
reply_code code (answered a) = code a

-- passes 64, clash 65, broken 66, unfounded 67, missing 68
abbrev pub verdict_code : Verdict → ℕ
verdict_code passes = coded 64 0
verdict_code (clash atom) = coded 65 atom
verdict_code (broken rule) = coded 66 rule
verdict_code (unfounded code) = coded 67 code

abbrev pub finding_code : Finding → ℕ
finding_code (missing atom) = coded 68 atom
finding_code (judged v) = verdict_code v

-- path 80, contradicted 81, uncaused 82
abbrev pub causal_code : Causal → ℕ
causal_code path = coded 80 0
causal_code (contradicted time law) = coded 81 (pair time law)
causal_code (uncaused time fluent) = coded 82 (pair time fluent)

-- a table written 96
abbrev pub written_code : Written → ℕ
written_code (written atoms rules words) = coded 96 (words % 65536 * 4294967296 + pair rules atoms)

-- a history read 112
abbrev pub read_code : Unit {0} → ℕ
read_code done = coded 112 0
