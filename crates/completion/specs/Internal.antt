-- Internal: what the crate's own functions promise each other. No public promise rests on it; a reader may pass it over.
-- Assumes nothing.
use Rattle.std.specs.Prelude.{Bool, false, cond, List, ℕ, eqb, get_or}
use Rattle.std.proofs.Math.Option.{Option, none, some}
use Rattle.logic_programs.specs.Literals.{Lits}
use Rattle.logic_programs.specs.Rules.{Head, lit, falsum, Rule}
use Rattle.completion_theory.specs.Findings.{some_body}

-- the mark of a head word, and the head of a mark
abbrev pub mark_of : ℕ → ℕ
mark_of w = cond (eqb w 65535) 2048 w

abbrev pub head_of_mark : ℕ → Head
head_of_mark k = cond (eqb k 2048) falsum (lit k)

-- the heads that a list of marks stands for
abbrev pub marked_head : List Bool → Lits
marked_head held k = get_or held k false

abbrev pub held_at : List Rule → Lits → Lits
held_at Π X k = some_body Π X (head_of_mark k)

-- the head word of false, where its mark is set
abbrev pub failing_false : Lits → Option ℕ
failing_false held = cond (held 2048) (some 65535) none
