-- What is printed for an answer: the lines of a verdict and of a causal reading behind the counts, or a refusal.
-- Assumes nothing.
use Rattle.std.specs.Prelude.{List, [], ◌++◌, ℕ}
use Rattle.basics.specs.Replies.{Reply, refused, answered}
use Rattle.answer_set_theory.specs.Verdicts.{Verdict, clash, broken, unfounded, passes}
use Rattle.history_check.specs.Checks.{Finding, missing, judged}
use Rattle.causal_reading.specs.Verdicts.{Causal, contradicted, uncaused, path}
use Rattle.shown_names.specs.Shown.{shown_fluent}
use Rattle.printed_lines.specs.Writing.{output_line, decimal, horizon_word, atoms_word, rules_word, words_word}
use Rattle.printed_lines.specs.Writing.{answer_word, at_word, causal_word, time_word, item_word, refused_word, place_word}
use Rattle.printed_lines.specs.Writing.{passes_word, missing_word, clash_word, broken_word, unfounded_word, none_word}
use Rattle.printed_lines.specs.Writing.{path_word, contradicted_word, uncaused_word}

-- a refusal prints its number and place only
abbrev pub refusal_lines : ℕ → ℕ → List ℕ
refusal_lines number place = output_line refused_word (decimal number) ++ output_line place_word (decimal place)

-- the verdict and its number, which is empty for passes
abbrev pub verdict_lines : Verdict → List ℕ
verdict_lines passes = output_line answer_word passes_word ++ output_line at_word []
verdict_lines (clash a) = output_line answer_word clash_word ++ output_line at_word (decimal a)
verdict_lines (broken r) = output_line answer_word broken_word ++ output_line at_word (decimal r)
verdict_lines (unfounded c) = output_line answer_word unfounded_word ++ output_line at_word (decimal c)

abbrev pub finding_lines : Finding → List ℕ
finding_lines (missing a) = output_line answer_word missing_word ++ output_line at_word (decimal a)
finding_lines (judged v) = verdict_lines v

-- the causal verdict, its time and its item: a law's number or a fluent's name as declared
abbrev pub causal_lines : List ℕ → Causal → List ℕ
causal_lines input path = output_line causal_word path_word ++ output_line time_word [] ++ output_line item_word []
causal_lines input (contradicted t l) =
    output_line causal_word contradicted_word ++ output_line time_word (decimal t) ++ output_line item_word (decimal l)
causal_lines input (uncaused t f) =
    output_line causal_word uncaused_word ++ output_line time_word (decimal t) ++ output_line item_word (shown_fluent input f)

-- no causal verdict after missing or clash
abbrev pub no_causal : List ℕ
no_causal = output_line causal_word none_word ++ output_line time_word [] ++ output_line item_word []

-- the reading of an accepted history that has one value for each atom is never a refusal
abbrev pub reading_lines : List ℕ → Reply Causal → List ℕ
reading_lines input (refused number place) = no_causal
reading_lines input (answered v) = causal_lines input v

abbrev pub causal_after : List ℕ → Finding → Reply Causal → List ℕ
causal_after input (missing a) reply = no_causal
causal_after input (judged (clash a)) reply = no_causal
causal_after input (judged (broken r)) reply = reading_lines input reply
causal_after input (judged (unfounded c)) reply = reading_lines input reply
causal_after input (judged passes) reply = reading_lines input reply

abbrev pub count_lines : ℕ → ℕ → ℕ → ℕ → List ℕ
count_lines T atoms rules words =
    output_line horizon_word (decimal T) ++ output_line atoms_word (decimal atoms) ++ output_line rules_word (decimal rules)
    ++ output_line words_word (decimal words)

-- the nine lines, or a refusal
abbrev pub checked_lines : List ℕ → List ℕ → Reply Finding → Reply Causal → List ℕ
checked_lines input counts (refused number place) reply = refusal_lines number place
checked_lines input counts (answered f) reply = counts ++ (finding_lines f ++ causal_after input f reply)
