-- Worked examples of the command log (02, §2): an action absent from its act line is false, fluents are as before, and a caller's own
-- values are not filled.
-- Assumes nothing.
use Rattle.basics.specs.Quoted.{bytes}
use Rattle.std.specs.Prelude.{Bool, List, [], ◌∷◌, ℕ, eqb}
use Rattle.basics.specs.Replies.{refused, answered}
use Rattle.action_language.specs.Examples.{recipe, recipe_laws}
use Rattle.history_check.specs.Checks.{missing}
use Rattle.written_form.specs.Writing.{as_declared}
use Rattle.written_form.specs.HistoryWriting.{only_done}
use Rattle.worked_examples.specs.Recipe.{recipe_fluents, recipe_actions}
use Rattle.worked_examples.specs.Examples.{Example, history_says, causal_says, reads_history, writes_history, lacks_action}

-- two actions and two steps; a holds by default
abbrev pub two_text : List ℕ
two_text = bytes "horizon=2\nfluent=a\naction=c\naction=d\ndefault=a\nend=\n"

-- one action is listed at the first time, none at the second
abbrev pub one_listed : List ℕ
one_listed = bytes "state=a\nact=d\nstate=a\nact=\nstate=a\nend=\n"

-- false actions are listed at time 1 alone
abbrev pub second_time : ℕ → ℕ → Bool
second_time t i = eqb t 1

-- what is read and written
abbrev pub log_examples : List Example
log_examples =
    -- an action that is not listed is false at either time, beside one that is listed positive, negative or with both literals
    reads_history two_text one_listed 7 (answered (1 ∷ 2 ∷ 1 ∷ 1 ∷ 2 ∷ 2 ∷ 1 ∷ []))
    ∷ reads_history two_text (bytes "state=a\nact=-c\nstate=a\nact=c,d\nstate=a\nend=\n") 7 (answered (1 ∷ 2 ∷ 2 ∷ 1 ∷ 1 ∷ 1 ∷ 1 ∷ []))
    ∷ reads_history two_text (bytes "state=a\nact=-d,c\nstate=a\nact=-c,c\nstate=a\nend=\n") 7 (answered (1 ∷ 1 ∷ 2 ∷ 1 ∷ 3 ∷ 2 ∷ 1 ∷ []))
    -- a fluent that its state line does not list has no value, as before
    ∷ reads_history two_text (bytes "state=a\nact=\nstate=\nact=\nstate=a\nend=\n") 7 (answered (1 ∷ 2 ∷ 2 ∷ 0 ∷ 2 ∷ 2 ∷ 1 ∷ []))
    -- a refusal stays one
    ∷ reads_history two_text (bytes "state=a\nact=\nstate=a\nact=c,a\nstate=a\nend=\n") 7 (refused 6 4)
    -- the values are written again with those done alone, both literals where both are listed, and with a choice by time
    ∷ writes_history 1 recipe_fluents recipe_actions as_declared only_done (2 ∷ 2 ∷ 2 ∷ 2 ∷ 1 ∷ [])
    (bytes "state=-locked,-flowed\nact=\nstate=-locked,flowed\nend=\n")
    ∷ writes_history 2 (bytes "a" ∷ []) (bytes "c" ∷ bytes "d" ∷ []) as_declared only_done (1 ∷ 1 ∷ 2 ∷ 1 ∷ 3 ∷ 2 ∷ 1 ∷ [])
    (bytes "state=a\nact=c\nstate=a\nact=c,-c\nstate=a\nend=\n")
    ∷ writes_history 2 (bytes "a" ∷ []) (bytes "c" ∷ bytes "d" ∷ []) as_declared second_time (1 ∷ 2 ∷ 1 ∷ 1 ∷ 2 ∷ 2 ∷ 1 ∷ [])
    (bytes "state=a\nact=d\nstate=a\nact=-c,-d\nstate=a\nend=\n")
    ∷ []

-- a caller's own values are not filled: an action of value 0 is missing
abbrev pub caller_examples : List Example
caller_examples =
    history_says recipe recipe_laws (2 ∷ 2 ∷ 0 ∷ 2 ∷ 1 ∷ []) (answered (missing 2))
    ∷ causal_says recipe recipe_laws (2 ∷ 2 ∷ 0 ∷ 2 ∷ 1 ∷ []) (refused 11 2)
    -- such an action is what the reader never leaves: the first action, the last one, or one lacking at the end
    ∷ lacks_action 2 1 1 (2 ∷ 2 ∷ 0 ∷ 2 ∷ 1 ∷ [])
    ∷ lacks_action 1 2 2 (1 ∷ 2 ∷ 1 ∷ 1 ∷ 2 ∷ 0 ∷ 1 ∷ [])
    ∷ lacks_action 1 2 2 (1 ∷ 2 ∷ 1 ∷ 1 ∷ 2 ∷ [])
    ∷ []
