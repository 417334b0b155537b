-- Output lines, the words in them, and decimal numbers.
-- Assumes nothing.
use Rattle.std.specs.Prelude.{cond, List, ◌++◌, ℕ, zero, suc, ◌/◌, ltb}
use Rattle.basics.specs.Quoted.{bytes}
use Rattle.io.specs.Digits.{last_digits}

-- key=value and byte 10
abbrev pub output_line : List ℕ → List ℕ → List ℕ
output_line key value = key ++ bytes "=" ++ value ++ bytes "\n"

-- how many decimal digits a number below 10 to the k has, at least one
abbrev pub places_in : ℕ → ℕ → ℕ
places_in zero n = 1
places_in (suc k) n = cond (ltb n 10) 1 (suc (places_in k (n / 10)))

-- a number of the machine has at most 20 digits
unfoldable pub decimal : ℕ → List ℕ
decimal n = last_digits 10 (places_in 19 n) n

abbrev pub horizon_word : List ℕ
horizon_word = bytes "horizon"

abbrev pub atoms_word : List ℕ
atoms_word = bytes "atoms"

abbrev pub rules_word : List ℕ
rules_word = bytes "rules"

abbrev pub words_word : List ℕ
words_word = bytes "words"

abbrev pub answer_word : List ℕ
answer_word = bytes "answer"

abbrev pub at_word : List ℕ
at_word = bytes "at"

abbrev pub causal_word : List ℕ
causal_word = bytes "causal"

abbrev pub time_word : List ℕ
time_word = bytes "time"

abbrev pub item_word : List ℕ
item_word = bytes "item"

abbrev pub refused_word : List ℕ
refused_word = bytes "refused"

abbrev pub place_word : List ℕ
place_word = bytes "place"

abbrev pub passes_word : List ℕ
passes_word = bytes "passes"

abbrev pub missing_word : List ℕ
missing_word = bytes "missing"

abbrev pub clash_word : List ℕ
clash_word = bytes "clash"

abbrev pub broken_word : List ℕ
broken_word = bytes "broken"

abbrev pub unfounded_word : List ℕ
unfounded_word = bytes "unfounded"

abbrev pub none_word : List ℕ
none_word = bytes "none"

abbrev pub path_word : List ℕ
path_word = bytes "path"

abbrev pub contradicted_word : List ℕ
contradicted_word = bytes "contradicted"

abbrev pub uncaused_word : List ℕ
uncaused_word = bytes "uncaused"
