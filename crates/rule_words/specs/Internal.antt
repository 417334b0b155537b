-- Internal: what these functions promise the translation's. No promise of the translation rests on it; a reader may pass it over.
-- Assumes nothing.
use Rattle.std.specs.Prelude.{cond, ◌&&◌, List, [], ◌∷◌, ℕ, ltb, leb, take, get_or, replicate}
use Rattle.logic_programs.specs.Rules.{Rule}
use Rattle.logic_programs.specs.Words.{rule_words, words}
use Rattle.action_language.specs.declared.Kind.{Kind}
use Rattle.action_language.specs.declared.Kind.TheVariants.{Static, Dynamic}
use Rattle.action_language.specs.declared.Law.{Law}
use Rattle.translation_rules.specs.RuleForms.{static_rule, dynamic_rule, choices}

-- the number for a law's kind, of one for static laws and one for dynamic laws
abbrev pub by_kind : ℕ → ℕ → Kind → ℕ
by_kind static dynamic Static = static
by_kind static dynamic Dynamic = dynamic

-- the literals of the after-list that are read: none of a static law's
abbrev pub plain_list : Law → List ℕ
plain_list l = take (by_kind 0 l.after_count l.kind) l.after_codes

-- a law's rule for time t
abbrev pub rule_for : ℕ → Kind → Law → ℕ → Rule
rule_for N Static l t = static_rule N l t
rule_for N Dynamic l t = dynamic_rule N l t

-- word i of a law's rule for time t, or 0 for more than 32 fluents and actions and past time 30
abbrev pub rule_word : ℕ → Law → ℕ → ℕ → ℕ
rule_word N l t i = cond (leb N 32 && leb t 30) (get_or (rule_words (rule_for N l.kind l t)) i 0) 0

-- the words of the two rules of an atom's choice, or 0 past the last atom
abbrev pub choice_words : ℕ → List ℕ
choice_words atom = cond (ltb atom 1024) (words (choices (atom ∷ []))) (replicate 8 0)
