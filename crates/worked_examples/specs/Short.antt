-- Worked examples of the short laws (02, §1): 01's full recipe written the short way, what each short law is read as, and the refusals
-- at each new key.
-- Assumes nothing.
use Rattle.basics.specs.Quoted.{bytes}
use Rattle.std.specs.Prelude.{cond, List, [], ◌∷◌, ◌++◌, ℕ, eqb, replicate}
use Rattle.basics.specs.Replies.{refused, answered}
use Rattle.action_language.specs.declared.Head.TheVariants.{Lit, False}
use Rattle.action_language.specs.declared.Kind.TheVariants.{Static, Dynamic}
use Rattle.action_language.specs.Laws.{law_of}
use Rattle.action_language.specs.Examples.{recipe_laws}
use Rattle.description_lines.specs.Descriptions.{read}
use Rattle.written_form.specs.Writing.{Form, as_causes, as_nonexecutable, as_inertial, as_declared}
use Rattle.worked_examples.specs.Texts.{tiny_lines, small_names, law_text, copies}
use Rattle.worked_examples.specs.Format.{drafted, takes_laws}
use Rattle.worked_examples.specs.Recipe.{recipe_fluents, recipe_actions, recipe_draft}
use Rattle.worked_examples.specs.Examples.{Example, reads, writes}

-- 01's full recipe, each law the short way
abbrev pub short_recipe_text : List ℕ
short_recipe_text =
    bytes "horizon=1\nfluent=locked\nfluent=flowed\naction=reflow\n"
    ++ bytes "causes=flowed\nby=reflow\n"
    ++ bytes "nonexecutable=reflow,locked\n"
    ++ bytes "inertial=locked\ninertial=-locked\ninertial=flowed\ninertial=-flowed\n"
    ++ bytes "end=\n"

-- the forms that its laws are written in
abbrev pub short_forms : ℕ → Form
short_forms i = cond (eqb i 0) as_causes (cond (eqb i 1) as_nonexecutable as_inertial)

-- the same record as in full, and the text is written for it
abbrev pub short_recipe_examples : List Example
short_recipe_examples =
    reads 64 short_recipe_text (answered (read recipe_draft [] 12))
    ∷ writes 1 recipe_fluents recipe_actions short_forms as_declared recipe_laws short_recipe_text
    ∷ []

abbrev pub short_law_text : List ℕ
short_law_text = bytes "default=a\n"

-- the rules of the short lines, one by one
abbrev pub short_examples : List Example
short_examples =
    -- a is a fluent with codes 0 and 1, c an action with codes 2 and 3: what each short law is read as
    takes_laws (bytes "default=-a\nend=\n") (law_of Static (Lit 1) (1 ∷ []) [] ∷ []) 5
    ∷ takes_laws (bytes "inertial=a\nend=\n") (law_of Dynamic (Lit 0) (0 ∷ []) (0 ∷ []) ∷ []) 5
    ∷ takes_laws (bytes "causes=-a\nby=c,-a\nend=\n") (law_of Dynamic (Lit 1) [] (2 ∷ 1 ∷ []) ∷ []) 6
    ∷ takes_laws (bytes "causes=false\nby=\nend=\n") (law_of Dynamic False [] [] ∷ []) 6
    ∷ takes_laws (bytes "nonexecutable=c,a\nend=\n") (law_of Dynamic False [] (2 ∷ 0 ∷ []) ∷ []) 5
    -- short and long laws may follow each other; a short one may start right behind the fluents
    ∷ takes_laws (bytes "static=a\nif=\ninertial=-a\ndynamic=a\nif=\nafter=\nend=\n")
    (law_of Static (Lit 0) [] [] ∷ law_of Dynamic (Lit 1) (1 ∷ []) (1 ∷ []) ∷ law_of Dynamic (Lit 0) [] [] ∷ []) 10
    ∷ reads 64 (tiny_lines ++ bytes "nonexecutable=\nend=\n")
    (answered (read (drafted 1 (bytes "a" ∷ []) (law_of Dynamic False [] [] ∷ [])) [] 4))
    -- not a literal of the allowed sort; `false` is a head only
    ∷ reads 64 (small_names ++ bytes "default=c\n") (refused 6 4)
    ∷ reads 64 (small_names ++ bytes "default=false\n") (refused 6 4)
    ∷ reads 64 (small_names ++ bytes "default=a,a\n") (refused 6 4)
    ∷ reads 64 (small_names ++ bytes "inertial=-c\n") (refused 6 4)
    ∷ reads 64 (small_names ++ bytes "inertial=false\n") (refused 6 4)
    ∷ reads 64 (small_names ++ bytes "causes=c\n") (refused 6 4)
    ∷ reads 64 (small_names ++ bytes "causes=a\nby=b\n") (refused 6 5)
    ∷ reads 64 (small_names ++ bytes "nonexecutable=b\n") (refused 6 4)
    -- a by line is due right behind causes and nowhere else
    ∷ reads 64 (small_names ++ bytes "causes=a\nafter=c\n") (refused 2 5)
    ∷ reads 64 (small_names ++ bytes "by=c\n") (refused 2 4)
    ∷ reads 64 (small_names ++ bytes "causes=a\nby=c\nby=c\n") (refused 2 6)
    -- a key that is not allowed here
    ∷ reads 64 (bytes "horizon=1\ndefault=a\n") (refused 2 2)
    ∷ reads 64 (small_names ++ bytes "static=a\ninertial=a\n") (refused 2 5)
    -- a seventh literal, item by item, 5 before 6 at each
    ∷ reads 64 (small_names ++ bytes "causes=a\nby=c,c,c,c,c,c,a\n") (refused 5 5)
    ∷ reads 64 (small_names ++ bytes "nonexecutable=c,c,c,c,c,c,b\n") (refused 5 4)
    ∷ reads 64 (small_names ++ bytes "nonexecutable=c,b,c,c,c,c,c\n") (refused 6 4)
    -- 64 short laws are taken; a 65th law is refused by 5 before its spelling, short behind long ones, long behind short ones
    ∷ takes_laws (copies 64 short_law_text ++ bytes "end=\n") (replicate 64 (law_of Static (Lit 0) (0 ∷ []) [])) 68
    ∷ reads 100 (small_names ++ copies 64 law_text ++ bytes "default=b\n") (refused 5 132)
    ∷ reads 100 (small_names ++ copies 64 short_law_text ++ bytes "static=b\n") (refused 5 68)
    -- one past a lent run of 2, at each key; where three are lent it is 6
    ∷ reads 2 (small_names ++ copies 2 short_law_text ++ bytes "default=b\n") (refused 5 6)
    ∷ reads 2 (small_names ++ copies 2 short_law_text ++ bytes "inertial=b\n") (refused 5 6)
    ∷ reads 2 (small_names ++ copies 2 short_law_text ++ bytes "causes=b\n") (refused 5 6)
    ∷ reads 2 (small_names ++ copies 2 short_law_text ++ bytes "nonexecutable=b\n") (refused 5 6)
    ∷ reads 3 (small_names ++ copies 2 short_law_text ++ bytes "default=b\n") (refused 6 6)
    ∷ []
