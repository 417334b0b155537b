-- The lists of a law record, a record made of its lists, the laws of a description, and the description for another horizon.
-- Assumes nothing.
use Rattle.std.specs.Prelude.{List, [], ◌++◌, Bool, true, false, ℕ, ◌-◌, length, take, replicate}
use Rattle.action_language.specs.declared.Head.{Head}
use Rattle.action_language.specs.declared.Head.TheVariants.{Lit}
use Rattle.action_language.specs.declared.Law.{Law}
use Rattle.action_language.specs.declared.Kind.{Kind}
use Rattle.action_language.specs.declared.Kind.TheVariants.{Static, Dynamic}
use Rattle.action_language.specs.declared.Description.{Description}

abbrev pub is_static : Kind → Bool
is_static Static = true
is_static Dynamic = false

-- places past a list's count are not read
abbrev pub if_list : Law → List ℕ
if_list l = take l.if_count l.if_codes

abbrev pub after_list : Law → List ℕ
after_list l = take l.after_count l.after_codes

-- the six places of a list: its codes, then 0
abbrev pub padded : List ℕ → List ℕ
padded cs = cs ++ replicate (6 - length cs) 0

-- the record of a law by its lists, as the reader leaves it
abbrev pub law_of : Kind → Head → List ℕ → List ℕ → Law
law_of kind head ifs afters =
    record {
      kind = kind;
      head = head;
      if_count = length ifs;
      if_codes = padded ifs;
      after_count = length afters;
      after_codes = padded afters;
    }

-- the record in which every count and place is 0
abbrev pub no_law : Law
no_law = law_of Static (Lit 0) [] []

-- the laws that a description counts, of those lent
abbrev pub laws_of : Description → List Law → List Law
laws_of d ls = take d.laws ls

-- the same description for another number of steps
abbrev pub with_horizon : Description → ℕ → Description
with_horizon d T = record { fluents = d.fluents; actions = d.actions; laws = d.laws; horizon = T }
