-- Internal: what the input reader's own functions promise each other. No public promise rests on it; a reader may pass it over.
-- Assumes nothing.
use Rattle.std.specs.Prelude.{ℕ, ◌+◌, ◌<◌, ◌^◌}
use Rattle.basics.specs.Replies.{Reply, refused, answered}

-- the place of a refusal can be moved up by so many lines
abbrev pub CanMove : {A : Type 0} → ℕ → Reply A → Type 0
CanMove lines (refused number place) = lines + place < 2 ^ 64
CanMove lines (answered a) = Unit
