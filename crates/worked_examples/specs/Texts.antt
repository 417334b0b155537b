-- Example texts: 01's full recipe with its histories M1 to M5, and small texts for single rules of the format.
-- Assumes nothing.
use Rattle.basics.specs.Quoted.{bytes}
use Rattle.std.specs.Prelude.{List, [], ◌++◌, ℕ, zero, suc, replicate}

-- 01's full recipe: the description
abbrev pub recipe_text : List ℕ
recipe_text =
    bytes "horizon=1\nfluent=locked\nfluent=flowed\naction=reflow\n"
    ++ bytes "dynamic=flowed\nif=\nafter=reflow\n"
    ++ bytes "dynamic=false\nif=\nafter=reflow,locked\n"
    ++ bytes "dynamic=locked\nif=locked\nafter=locked\n"
    ++ bytes "dynamic=-locked\nif=-locked\nafter=-locked\n"
    ++ bytes "dynamic=flowed\nif=flowed\nafter=flowed\n"
    ++ bytes "dynamic=-flowed\nif=-flowed\nafter=-flowed\n"
    ++ bytes "end=\n"

-- and its history
abbrev pub history_text : List ℕ
history_text = bytes "state=-locked,-flowed\nact=reflow\nstate=-locked,flowed\nend=\n"

-- the other histories of it, M1 to M5
abbrev pub m1_text : List ℕ
m1_text = bytes "state=locked,-flowed\nact=reflow\nstate=locked,flowed\nend=\n"

abbrev pub m2_text : List ℕ
m2_text = bytes "state=-locked,-flowed\nact=-reflow\nstate=-locked,flowed\nend=\n"

abbrev pub m3_text : List ℕ
m3_text = bytes "state=locked,-flowed\nact=-reflow\nstate=-locked,-flowed\nend=\n"

abbrev pub m4_text : List ℕ
m4_text = bytes "state=-locked\nact=reflow\nstate=-locked,flowed\nend=\n"

abbrev pub m5_text : List ℕ
m5_text = bytes "state=-locked,locked,-flowed\nact=reflow\nstate=-locked,flowed\nend=\n"

-- 000's (3) for horizon 1: a static law, and with its history every key
abbrev pub door_text : List ℕ
door_text =
    bytes "horizon=1\nfluent=closed\naction=open_1\n"
    ++ bytes "static=closed\nif=closed\n"
    ++ bytes "dynamic=-closed\nif=\nafter=open_1\n"
    ++ bytes "end=\n"

abbrev pub door_history_text : List ℕ
door_history_text = bytes "state=closed\nact=open_1\nstate=-closed\nend=\n"

-- one fluent and nothing else: 24 bytes
abbrev pub tiny_lines : List ℕ
tiny_lines = bytes "horizon=1\nfluent=a\n"

abbrev pub tiny_text : List ℕ
tiny_text = tiny_lines ++ bytes "end=\n"

-- with a value as its horizon, and with one as its fluent's name
abbrev pub tiny_with_horizon : List ℕ → List ℕ
tiny_with_horizon value = bytes "horizon=" ++ value ++ bytes "\nfluent=a\nend=\n"

abbrev pub with_fluent : List ℕ → List ℕ
with_fluent value = bytes "horizon=1\nfluent=" ++ value ++ bytes "\nend=\n"

-- a fluent and an action: the three lines before the laws
abbrev pub small_names : List ℕ
small_names = bytes "horizon=1\nfluent=a\naction=c\n"

abbrev pub small_text : List ℕ
small_text = small_names ++ bytes "end=\n"

-- a law, and one whose head is no literal
abbrev pub law_text : List ℕ
law_text = bytes "static=a\nif=\n"

abbrev pub bad_law_text : List ℕ
bad_law_text = bytes "static=b\nif=\n"

-- a text over and over
abbrev pub copies : ℕ → List ℕ → List ℕ
copies zero text = []
copies (suc k) text = text ++ copies k text

-- the letter a over and over; no line ends in it
unfoldable pub letters : ℕ → List ℕ
letters n = replicate n 97

-- 24 fluents, a to x
abbrev pub fluents24 : List ℕ
fluents24 =
    bytes "horizon=1\nfluent=a\nfluent=b\nfluent=c\nfluent=d\nfluent=e\nfluent=f\nfluent=g\nfluent=h\n"
    ++ bytes "fluent=i\nfluent=j\nfluent=k\nfluent=l\nfluent=m\nfluent=n\nfluent=o\nfluent=p\n"
    ++ bytes "fluent=q\nfluent=r\nfluent=s\nfluent=t\nfluent=u\nfluent=v\nfluent=w\nfluent=x\n"

-- 8 actions, b to i
abbrev pub actions8 : List ℕ
actions8 =
    tiny_lines
    ++ bytes "action=b\naction=c\naction=d\naction=e\naction=f\naction=g\naction=h\naction=i\n"
