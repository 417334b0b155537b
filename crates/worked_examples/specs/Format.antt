-- Worked examples of the text format, rule by rule: what is taken, and refusals 1 to 7 and 10 of the readers in their order.
-- Assumes nothing.
use Rattle.basics.specs.Quoted.{bytes}
use Rattle.std.specs.Prelude.{List, [], ◌∷◌, ◌++◌, map, ℕ, replicate}
use Rattle.basics.specs.Replies.{refused, answered}
use Rattle.action_language.specs.declared.Head.TheVariants.{Lit, False}
use Rattle.action_language.specs.declared.Kind.TheVariants.{Static, Dynamic}
use Rattle.action_language.specs.declared.Law.{Law}
use Rattle.action_language.specs.Laws.{law_of}
use Rattle.action_language.specs.Examples.{door_laws}
use Rattle.description_lines.specs.LineSteps.{Draft}
use Rattle.description_lines.specs.Descriptions.{read}
use Rattle.worked_examples.specs.Texts.{door_text, door_history_text, tiny_text, tiny_lines, tiny_with_horizon, with_fluent}
use Rattle.worked_examples.specs.Texts.{small_names, small_text, law_text, bad_law_text, copies, letters, fluents24, actions8}
use Rattle.worked_examples.specs.Examples.{Example, reads, reads_history, shows_fluent}

-- what is read for horizon 1: so many fluents, the names of fluents and actions, and the laws
abbrev pub drafted : ℕ → List (List ℕ) → List Law → Draft
drafted n names ls = record { horizon = 1; fluents = n; names = names; laws = ls }

-- of the text with one fluent, and of the small text, where a has codes 0 and 1, c has 2 and 3
abbrev pub tiny_draft : ℕ → List ℕ → Draft
tiny_draft T name = record { horizon = T; fluents = 1; names = name ∷ []; laws = [] }

abbrev pub small_draft : List Law → Draft
small_draft ls = drafted 1 (bytes "a" ∷ bytes "c" ∷ []) ls

-- a name is taken
abbrev pub takes_name : List ℕ → Example
takes_name name = reads 64 (with_fluent name) (answered (read (tiny_draft 1 name) [] 3))

-- of the small names and the lines behind them these laws are read, to the end of so many lines
abbrev pub takes_laws : List ℕ → List Law → ℕ → Example
takes_laws behind ls lines = reads 64 (small_names ++ behind) (answered (read (small_draft ls) [] lines))

-- a, whatever holds
abbrev pub plain_law : Law
plain_law = law_of Static (Lit 0) [] []

-- each letter of a text as a name
abbrev pub each_letter : List ℕ → List (List ℕ)
each_letter text = map (λ b. b ∷ []) text

-- single lines of a description: what is taken, and refusals 3, 4, 5 and 6
abbrev pub reader_examples : List Example
reader_examples =
    -- 000's (3) as text has every key, a static law, and a name with a digit and an underscore
    reads 64 (door_text ++ door_history_text)
    (answered (read (drafted 1 (bytes "closed" ∷ bytes "open_1" ∷ []) door_laws) door_history_text 9))
    ∷ reads_history door_text door_history_text 3 (answered (1 ∷ 1 ∷ 2 ∷ []))
    -- the description reader stops behind its end line and says where
    ∷ reads 64 (small_text ++ bytes "\nx") (answered (read (small_draft []) (bytes "\nx") 4))
    -- names have up to 16 bytes, a letter and then letters, digits and underscores; `false` is none
    ∷ takes_name (bytes "abcdefghijklmnop")
    ∷ reads 64 (with_fluent (bytes "abcdefghijklmnopq")) (refused 4 2)
    ∷ takes_name (bytes "az0_9")
    ∷ reads 64 (with_fluent (bytes "1a")) (refused 4 2)
    ∷ reads 64 (with_fluent (bytes "_a")) (refused 4 2)
    ∷ reads 64 (with_fluent []) (refused 4 2)
    ∷ takes_name (bytes "falsey")
    ∷ reads 64 (with_fluent (bytes "false")) (refused 4 2)
    -- the bytes beside 0 to 9 are in no name
    ∷ reads 64 (with_fluent (bytes "a/")) (refused 4 2)
    ∷ reads 64 (with_fluent (bytes "a:")) (refused 4 2)
    -- a line is split at its first equals sign
    ∷ reads 64 (with_fluent (bytes "a=b")) (refused 4 2)
    -- no name is declared twice, fluents and actions taken together
    ∷ reads 64 (tiny_lines ++ bytes "fluent=a\n") (refused 4 3)
    ∷ reads 64 (tiny_lines ++ bytes "action=a\n") (refused 4 3)
    -- a horizon is 1 to 30 and has no leading zero
    ∷ reads 64 (tiny_with_horizon (bytes "30")) (answered (read (tiny_draft 30 (bytes "a")) [] 3))
    ∷ reads 64 (tiny_with_horizon (bytes "0")) (refused 3 1)
    ∷ reads 64 (tiny_with_horizon (bytes "31")) (refused 3 1)
    ∷ reads 64 (tiny_with_horizon (bytes "100")) (refused 3 1)
    ∷ reads 64 (tiny_with_horizon (bytes "01")) (refused 3 1)
    ∷ reads 64 (tiny_with_horizon (bytes "1:")) (refused 3 1)
    ∷ reads 64 (tiny_with_horizon []) (refused 3 1)
    -- a head is a fluent literal or false; c is an action, b not declared
    ∷ takes_laws (bytes "static=-a\nif=\nend=\n") (law_of Static (Lit 1) [] [] ∷ []) 6
    ∷ takes_laws (bytes "static=false\nif=\nend=\n") (law_of Static False [] [] ∷ []) 6
    ∷ reads 64 (small_names ++ bytes "static=c\nif=\nend=\n") (refused 6 4)
    ∷ reads 64 (small_names ++ bytes "static=b\nif=\nend=\n") (refused 6 4)
    ∷ reads 64 (small_names ++ bytes "static=-false\nif=\nend=\n") (refused 6 4)
    ∷ reads 64 (small_names ++ bytes "static=--a\nif=\nend=\n") (refused 6 4)
    -- an if-list has up to 6 fluent literals between single commas, repeated or contradictory ones too
    ∷ takes_laws (bytes "static=a\nif=a,a,a,a,a,-a\nend=\n") (law_of Static (Lit 0) (0 ∷ 0 ∷ 0 ∷ 0 ∷ 0 ∷ 1 ∷ []) [] ∷ []) 6
    ∷ reads 64 (small_names ++ bytes "static=a\nif=c\nend=\n") (refused 6 5)
    ∷ reads 64 (small_names ++ bytes "static=a\nif=a,,a\nend=\n") (refused 6 5)
    ∷ reads 64 (small_names ++ bytes "static=a\nif=false\nend=\n") (refused 6 5)
    -- a seventh literal: item by item, 5 before 6 at each
    ∷ reads 64 (small_names ++ bytes "static=a\nif=a,a,a,a,a,a,b\nend=\n") (refused 5 5)
    ∷ reads 64 (small_names ++ bytes "static=a\nif=b,a,a,a,a,a,a\nend=\n") (refused 6 5)
    -- an after-list has literals of either sort
    ∷ takes_laws (bytes "dynamic=a\nif=\nafter=a,-c\nend=\n") (law_of Dynamic (Lit 0) [] (0 ∷ 3 ∷ []) ∷ []) 7
    ∷ reads 64 (small_names ++ bytes "dynamic=a\nif=\nafter=b\nend=\n") (refused 6 6)
    ∷ reads 64 (small_names ++ bytes "dynamic=a\nif=\nafter=c,c,c,c,c,c,b\nend=\n") (refused 5 6)
    -- every number shows an empty part in a text that is refused
    ∷ shows_fluent (tiny_with_horizon (bytes "0")) 0 []
    ∷ []

-- which lines may follow each other, and how many: refusals 2 and 5
abbrev pub line_examples : List Example
line_examples =
    -- a key that is not allowed here, among names
    reads 64 (bytes "fluent=a\n") (refused 2 1)
    ∷ reads 64 (bytes "horizon=1\naction=c\n") (refused 2 2)
    ∷ reads 64 (tiny_lines ++ bytes "horizon=1\n") (refused 2 3)
    ∷ reads 64 (small_names ++ bytes "fluent=b\n") (refused 2 4)
    -- and among laws; no key at all
    ∷ reads 64 (small_names ++ law_text ++ bytes "action=d\n") (refused 2 6)
    ∷ reads 64 (small_names ++ bytes "static=a\nend=\n") (refused 2 5)
    ∷ reads 64 (small_names ++ law_text ++ bytes "after=\n") (refused 2 6)
    ∷ reads 64 (small_names ++ bytes "dynamic=a\nif=\nend=\n") (refused 2 6)
    ∷ reads 64 (small_names ++ bytes "state=a\n") (refused 2 4)
    ∷ reads 64 (bytes "horizons=1\n") (refused 2 1)
    -- no equals sign; no ending byte; a line lacking; a value after end
    ∷ reads 64 (bytes "horizon\n") (refused 2 1)
    ∷ reads 64 (small_names ++ bytes "end=") (refused 2 4)
    ∷ reads 64 (bytes "horizon=1\n") (refused 2 2)
    ∷ reads 64 (small_names ++ bytes "end=a\n") (refused 2 4)
    -- the first bad line decides: horizon 0 before a bad name
    ∷ reads 64 (bytes "horizon=0\nfluent=1\n") (refused 3 1)
    -- 24 fluents; a 25th, and 5 before 4: one declared before
    ∷ reads 64 (fluents24 ++ bytes "end=\n") (answered (read (drafted 24 (each_letter (bytes "abcdefghijklmnopqrstuvwx")) []) [] 26))
    ∷ reads 64 (fluents24 ++ bytes "fluent=a\n") (refused 5 26)
    -- 8 actions; a 9th, and 5 before 4: no name
    ∷ reads 64 (actions8 ++ bytes "end=\n") (answered (read (drafted 1 (each_letter (bytes "abcdefghi")) []) [] 11))
    ∷ reads 64 (actions8 ++ bytes "action=1\n") (refused 5 11)
    -- a run of 2 takes two laws; one past it, and 5 before 6: its head is no literal; a run of 3 has 6 there
    ∷ reads 2 (small_names ++ copies 2 law_text ++ bytes "end=\n") (answered (read (small_draft (replicate 2 plain_law)) [] 8))
    ∷ reads 2 (small_names ++ copies 2 law_text ++ bad_law_text) (refused 5 8)
    ∷ reads 3 (small_names ++ copies 2 law_text ++ bad_law_text) (refused 6 8)
    -- 64 laws; a 65th, though 100 are lent
    ∷ takes_laws (copies 64 law_text ++ bytes "end=\n") (replicate 64 plain_law) 132
    ∷ reads 100 (small_names ++ copies 64 law_text ++ bad_law_text) (refused 5 132)
    ∷ []

-- histories of the small text, with three atoms: a at time 0, c, a at time 1; refusals 2, 6, 7 and 10
abbrev pub history_examples : List Example
history_examples =
    -- state lists are of any number; a literal may be repeated, or with its complement, in both orders
    reads_history small_text (bytes "state=\nact=c\nstate=a\nend=\n") 3 (answered (0 ∷ 1 ∷ 1 ∷ []))
    ∷ reads_history small_text (bytes "state=a,a\nact=c\nstate=a\nend=\n") 3 (answered (1 ∷ 1 ∷ 1 ∷ []))
    ∷ reads_history small_text (bytes "state=-a,-a\nact=c\nstate=a\nend=\n") 3 (answered (2 ∷ 1 ∷ 1 ∷ []))
    ∷ reads_history small_text (bytes "state=-a,a\nact=c\nstate=a\nend=\n") 3 (answered (3 ∷ 1 ∷ 1 ∷ []))
    ∷ reads_history small_text (bytes "state=a,a,a,a,a,a,a,-a\nact=c\nstate=a\nend=\n") 3 (answered (3 ∷ 1 ∷ 1 ∷ []))
    -- literals of the wrong sort, or none
    ∷ reads_history small_text (bytes "state=c\nact=c\nstate=a\nend=\n") 3 (refused 6 1)
    ∷ reads_history small_text (bytes "state=a,\nact=c\nstate=a\nend=\n") 3 (refused 6 1)
    ∷ reads_history small_text (bytes "state=a\nact=a\nstate=a\nend=\n") 3 (refused 6 2)
    -- a key that is not allowed here, a line lacking, a value after end
    ∷ reads_history small_text (bytes "act=c\n") 3 (refused 2 1)
    ∷ reads_history small_text (bytes "state=a\nstate=a\n") 3 (refused 2 2)
    ∷ reads_history small_text (bytes "state=a\nact=c\nstate=a\nact=c\n") 3 (refused 2 4)
    ∷ reads_history small_text (bytes "state=a\nact=c\nstate=a\n") 3 (refused 2 4)
    ∷ reads_history small_text (bytes "state=a\nact=c\nstate=a\nend=a\n") 3 (refused 2 4)
    -- bytes behind the end line
    ∷ reads_history small_text (bytes "state=a\nact=c\nstate=a\nend=\n\n") 3 (refused 7 5)
    -- not the number of atoms: one too few, one too many
    ∷ reads_history small_text (bytes "state=a\nact=c\nstate=a\nend=\n") 2 (refused 10 2)
    ∷ reads_history small_text (bytes "state=a\nact=c\nstate=a\nend=\n") 4 (refused 10 4)
    -- the description's own refusal comes first, no law run counted
    ∷ reads_history (tiny_with_horizon (bytes "0")) [] 9 (refused 3 1)
    ∷ []

-- refusal 1: 65,535 bytes are taken, one more is not; 10 before 1
abbrev pub long_examples : List Example
long_examples =
    reads 64 (tiny_text ++ letters 65511) (answered (read (tiny_draft 1 (bytes "a")) (letters 65511) 3))
    ∷ reads 64 (tiny_text ++ letters 65512) (refused 1 0)
    ∷ reads_history tiny_text (letters 65535) 2 (refused 2 1)
    ∷ reads_history tiny_text (letters 65536) 2 (refused 1 0)
    ∷ reads_history tiny_text (letters 65536) 3 (refused 10 3)
    ∷ []
