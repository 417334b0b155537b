-- Worked examples of letter case (02, §3): a declared name in any mix of capitals is one name, and so is `false`; keys stay in lower
-- case, and a name is shown as it was declared.
-- Assumes nothing.
use Rattle.basics.specs.Quoted.{bytes}
use Rattle.std.specs.Prelude.{cond, ◌&&◌, List, [], ◌∷◌, ◌++◌, map, ℕ, ◌-◌, eqb}
use Rattle.basics.specs.Replies.{refused, answered}
use Rattle.action_language.specs.declared.Head.TheVariants.{Lit, False}
use Rattle.action_language.specs.declared.Kind.TheVariants.{Static, Dynamic}
use Rattle.action_language.specs.declared.Law.{Law}
use Rattle.action_language.specs.Laws.{law_of}
use Rattle.action_language.specs.Examples.{recipe_laws}
use Rattle.spelling.specs.Letters.{is_small}
use Rattle.description_lines.specs.Descriptions.{read}
use Rattle.written_form.specs.Writing.{in_full, as_causes, Spelling}
use Rattle.written_form.specs.HistoryWriting.{every_action}
use Rattle.worked_examples.specs.Texts.{recipe_text, history_text, small_names, tiny_lines, with_fluent}
use Rattle.worked_examples.specs.Format.{drafted, takes_name, takes_laws}
use Rattle.worked_examples.specs.Examples.{Example, reads, reads_history, writes, writes_history, shows_fluent, shows_action}

-- 01's full recipe as a style sheet spells it, each use in a mix of its own
abbrev pub style_text : List ℕ
style_text =
    bytes "horizon=1\nfluent=Locked\nfluent=Flowed\naction=Reflow\n"
    ++ bytes "dynamic=flowed\nif=\nafter=reflow\n"
    ++ bytes "dynamic=False\nif=\nafter=REFLOW,locked\n"
    ++ bytes "dynamic=LOCKED\nif=lockeD\nafter=Locked\n"
    ++ bytes "dynamic=-locked\nif=-LOCKED\nafter=-lOCKED\n"
    ++ bytes "dynamic=FLOWED\nif=flowed\nafter=Flowed\n"
    ++ bytes "dynamic=-flowed\nif=-Flowed\nafter=-floWED\n"
    ++ bytes "end=\n"

-- its history, and M2
abbrev pub style_history : List ℕ
style_history = bytes "state=-LOCKED,-flowed\nact=REFLOW\nstate=-locked,Flowed\nend=\n"

abbrev pub style_m2 : List ℕ
style_m2 = bytes "state=-Locked,-FLOWED\nact=-rEFLOW\nstate=-locked,flowed\nend=\n"

abbrev pub style_names : List (List ℕ)
style_names = bytes "Locked" ∷ bytes "Flowed" ∷ bytes "Reflow" ∷ []

-- the spelling that has one use in capitals, by law or time, line and place, and the others as declared
abbrev pub raised : ℕ → ℕ
raised b = cond (is_small b) (b - 32) b

abbrev pub capitals_at : ℕ → ℕ → ℕ → Spelling
capitals_at law line place i j k name = cond (eqb i law && eqb j line && eqb k place) (map raised name) name

-- of a fluent a and an action c: false after c and a, and a after c and a
abbrev pub two_laws : List Law
two_laws = law_of Dynamic False [] (2 ∷ 0 ∷ []) ∷ law_of Dynamic (Lit 0) [] (2 ∷ 0 ∷ []) ∷ []

-- the same record and values as in small letters, the names as they were declared, and texts written by a spelling for each use
abbrev pub style_examples : List Example
style_examples =
    reads 64 (style_text ++ style_history) (answered (read (drafted 2 style_names recipe_laws) style_history 23))
    -- declared `Reflow` and used as `reflow`, declared `reflow` and used as `REFLOW`
    ∷ reads_history style_text history_text 5 (answered (2 ∷ 2 ∷ 1 ∷ 2 ∷ 1 ∷ []))
    ∷ reads_history recipe_text style_history 5 (answered (2 ∷ 2 ∷ 1 ∷ 2 ∷ 1 ∷ []))
    ∷ shows_fluent style_text 0 (bytes "Locked")
    ∷ shows_action style_text 0 (bytes "Reflow")
    -- one use of one law, FALSE, and one act in capitals
    ∷ writes 1 (bytes "a" ∷ []) (bytes "c" ∷ []) (λ i. in_full) (capitals_at 1 2 1) two_laws
    (small_names ++ bytes "dynamic=false\nif=\nafter=c,a\ndynamic=a\nif=\nafter=c,A\nend=\n")
    ∷ writes 1 (bytes "a" ∷ []) (bytes "c" ∷ []) (λ i. as_causes) (capitals_at 0 0 0) two_laws
    (small_names ++ bytes "causes=FALSE\nby=c,a\ncauses=a\nby=c,a\nend=\n")
    ∷ writes_history 1 (bytes "a" ∷ []) (bytes "c" ∷ []) (capitals_at 0 1 0) every_action (1 ∷ 1 ∷ 1 ∷ [])
    (bytes "state=a\nact=C\nstate=a\nend=\n")
    ∷ []

-- of fluents A and z and an action Z0: A if z and not A, and not z if A after Z0 and not Z0
abbrev pub edge_laws : List Law
edge_laws = law_of Static (Lit 0) (2 ∷ 1 ∷ []) [] ∷ law_of Dynamic (Lit 3) (0 ∷ []) (4 ∷ 5 ∷ []) ∷ []

-- names of which no two are the same: one begins another, and byte 80 stands 32 behind byte 48
abbrev pub near_names : List (List ℕ)
near_names = bytes "r" ∷ bytes "r0" ∷ bytes "rP" ∷ bytes "r_" ∷ []

-- what is read of a default, an inertial and a nonexecutable law of a fluent a and an action c
abbrev pub short_laws : List Law
short_laws = law_of Static (Lit 0) (0 ∷ []) [] ∷ law_of Dynamic (Lit 1) (1 ∷ []) (1 ∷ []) ∷ law_of Dynamic False [] (2 ∷ 0 ∷ []) ∷ []

-- the rules of names, heads, literals and keys, one by one
abbrev pub capital_examples : List Example
capital_examples =
    -- A to Z may stand wherever a to z may
    takes_name (bytes "aA9_Z")
    -- the bytes beside A to Z and a to z, and the one 32 behind the underscore, are in no name
    ∷ reads 64 (with_fluent (bytes "A@")) (refused 4 2)
    ∷ reads 64 (with_fluent (bytes "A[")) (refused 4 2)
    ∷ reads 64 (with_fluent (bytes "A`")) (refused 4 2)
    ∷ reads 64 (with_fluent (bytes "A{")) (refused 4 2)
    ∷ reads 64 (with_fluent (bytes "A" ++ (127 ∷ []))) (refused 4 2)
    -- `false` in any mix of capitals is no name
    ∷ reads 64 (with_fluent (bytes "False")) (refused 4 2)
    ∷ reads 64 (tiny_lines ++ bytes "action=FALSE\n") (refused 4 3)
    -- declared before: fluent after fluent, action after fluent, action after action
    ∷ reads 64 (bytes "horizon=1\nfluent=Reflow\nfluent=reflow\n") (refused 4 3)
    ∷ reads 64 (bytes "horizon=1\nfluent=reflow\naction=REFLOW\n") (refused 4 3)
    ∷ reads 64 (bytes "horizon=1\nfluent=a\naction=rEFLOW\naction=Reflow\n") (refused 4 4)
    -- the first and the last letter, declared small and used as capitals, and the other way round
    ∷ reads 64 (bytes "horizon=1\nfluent=A\nfluent=z\naction=Z0\nstatic=a\nif=Z,-A\ndynamic=-Z\nif=A\nafter=z0,-Z0\nend=\n")
    (answered (read (drafted 2 (bytes "A" ∷ bytes "z" ∷ bytes "Z0" ∷ []) edge_laws) [] 10))
    -- digits and the underscore are as they are: r0 is not rP, and _ is not byte 127
    ∷ reads 64 (bytes "horizon=1\nfluent=r\nfluent=r0\nfluent=rP\nfluent=r_\nstatic=Rp\nif=R0,R_,R\nend=\n")
    (answered (read (drafted 4 near_names (law_of Static (Lit 4) (2 ∷ 6 ∷ 0 ∷ []) [] ∷ [])) [] 8))
    ∷ reads 64 (bytes "horizon=1\nfluent=r_\nstatic=r" ++ (127 ∷ []) ++ bytes "\n") (refused 6 3)
    -- False as head of each law that has one; it is no literal
    ∷ takes_laws (bytes "static=False\nif=\nend=\n") (law_of Static False [] [] ∷ []) 6
    ∷ takes_laws (bytes "dynamic=fALSE\nif=A\nafter=C\nend=\n") (law_of Dynamic False (0 ∷ []) (2 ∷ []) ∷ []) 7
    ∷ takes_laws (bytes "causes=FALSE\nby=C,-A\nend=\n") (law_of Dynamic False [] (2 ∷ 1 ∷ []) ∷ []) 6
    ∷ reads 64 (small_names ++ bytes "static=a\nif=FALSE\nend=\n") (refused 6 5)
    ∷ reads 64 (small_names ++ bytes "default=False\n") (refused 6 4)
    -- short laws and lists; a capital does not make an action a fluent
    ∷ takes_laws (bytes "default=A\ninertial=-A\nnonexecutable=C,a\nend=\n") short_laws 7
    ∷ reads 64 (small_names ++ bytes "static=a\nif=C\nend=\n") (refused 6 5)
    -- keys stay in lower case, in their first letter and in their last
    ∷ reads 64 (bytes "Horizon=1\n") (refused 2 1)
    ∷ reads 64 (bytes "horizon=1\nfluenT=a\n") (refused 2 2)
    ∷ reads_history recipe_text (bytes "State=\n") 5 (refused 2 1)
    ∷ []
