-- The forms of the rules of the published translation (000, section 4), over n fluents and m actions, N of both: a law's rule for
-- one time, and the two rules that leave an atom open.
-- Assumes nothing.
use Rattle.std.specs.Prelude.{List, [], ◌∷◌, map, ℕ, suc, ◌+◌, ◌*◌}
use Rattle.logic_programs.specs.Literals.{complement}
use Rattle.logic_programs.specs.Rules.{Head, lit, falsum, Rule}
use Rattle.action_language.specs.declared.Head as described
use Rattle.action_language.specs.declared.Head.TheVariants.{Lit, False}
use Rattle.action_language.specs.declared.Law.{Law}
use Rattle.action_language.specs.Laws.{if_list, after_list}

-- the literal code c, of a fluent or an action, at time t: its atom is t(n + m) further on
abbrev pub at_time : ℕ → ℕ → ℕ → ℕ
at_time N t c = 2 * (t * N) + c

-- F(t), understood as ⊥ if F is ⊥
abbrev pub head_at : ℕ → ℕ → described.Head → Head
head_at N t (Lit c) = lit (at_time N t c)
head_at N t False = falsum

-- the complements of a list's literals at time t
abbrev pub complements_at : ℕ → ℕ → List ℕ → List ℕ
complements_at N t cs = map (λ c. complement (at_time N t c)) cs

abbrev pub literals_at : ℕ → ℕ → List ℕ → List ℕ
literals_at N t cs = map (at_time N t) cs

-- (7): F(t) ← not complements of the if-literals at t
abbrev pub static_rule : ℕ → Law → ℕ → Rule
static_rule N l t = record { head = head_at N t l.head; negated = complements_at N t (if_list l); plain = [] }

-- (8): F(t+1) ← not complements of the if-literals at t + 1, the after-literals at t
abbrev pub dynamic_rule : ℕ → Law → ℕ → Rule
dynamic_rule N l t =
    record {
      head = head_at N (suc t) l.head;
      negated = complements_at N (suc t) (if_list l);
      plain = literals_at N t (after_list l);
    }

-- not-B from "not B", then B from "not not-B", for each atom B
abbrev pub choices : List ℕ → List Rule
choices [] = []
choices (B ∷ Bs) =
    record { head = lit (2 * B + 1); negated = (2 * B) ∷ []; plain = [] }
    ∷ record { head = lit (2 * B); negated = (2 * B + 1) ∷ []; plain = [] }
    ∷ choices Bs
