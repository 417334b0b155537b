-- The laws that the short lines stand for (02, §1).
-- Assumes nothing.
use Rattle.std.specs.Prelude.{List, [], ◌∷◌, ℕ}
use Rattle.action_language.specs.declared.Head.{Head}
use Rattle.action_language.specs.declared.Head.TheVariants.{Lit, False}
use Rattle.action_language.specs.declared.Kind.TheVariants.{Static, Dynamic}
use Rattle.action_language.specs.declared.Law.{Law}
use Rattle.action_language.specs.Laws.{law_of}

-- default=L: the static law with head L and if-list L
abbrev pub default_law : ℕ → Law
default_law c = law_of Static (Lit c) (c ∷ []) []

-- inertial=L: the dynamic law with L as head, if-list and after-list
abbrev pub inertial_law : ℕ → Law
inertial_law c = law_of Dynamic (Lit c) (c ∷ []) (c ∷ [])

-- causes=H, by=LIST: the dynamic law with head H, empty if-list and that after-list
abbrev pub causes_law : Head → List ℕ → Law
causes_law head afters = law_of Dynamic head [] afters

-- nonexecutable=LIST: the dynamic law with head false, empty if-list and that after-list
abbrev pub nonexecutable_law : List ℕ → Law
nonexecutable_law afters = law_of Dynamic False [] afters
