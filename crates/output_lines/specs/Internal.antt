-- Internal: what the crate's own functions promise each other. No public promise rests on it; a reader may pass it over.
-- Assumes nothing.
use Rattle.std.specs.Prelude.{List, [], ◌∷◌, ◌++◌, ℕ}
use Rattle.shown_names.specs.Shown.{shown_fluent}
use Rattle.output_lines.specs.declared.words.Word.{Word}
use Rattle.output_lines.specs.declared.words.Word.TheVariants.{Horizon, Atoms, Rules, Words, Answer, At, Causal, Time, Item}
use Rattle.output_lines.specs.declared.words.Word.TheVariants.{Refused, Place, Passes, Missing, Clash, Broken, Unfounded}
use Rattle.output_lines.specs.declared.words.Word.TheVariants.{None, Path, Contradicted, Uncaused}
use Rattle.output_lines.specs.declared.shown.Value.{Value}
use Rattle.output_lines.specs.declared.shown.Value.TheVariants as value
use Rattle.output_lines.specs.declared.shown.Line.{Line}
use Rattle.output_lines.specs.declared.shown.Verdict.{Verdict}
use Rattle.output_lines.specs.declared.shown.Causal as shown
use Rattle.printed_lines.specs.Writing.{output_line, decimal, horizon_word, atoms_word, rules_word, words_word}
use Rattle.printed_lines.specs.Writing.{answer_word, at_word, causal_word, time_word, item_word, refused_word, place_word}
use Rattle.printed_lines.specs.Writing.{passes_word, missing_word, clash_word, broken_word, unfounded_word, none_word}
use Rattle.printed_lines.specs.Writing.{path_word, contradicted_word, uncaused_word}

-- how a word is spelled
abbrev pub word_bytes : Word → List ℕ
word_bytes Horizon = horizon_word
word_bytes Atoms = atoms_word
word_bytes Rules = rules_word
word_bytes Words = words_word
word_bytes Answer = answer_word
word_bytes At = at_word
word_bytes Causal = causal_word
word_bytes Time = time_word
word_bytes Item = item_word
word_bytes Refused = refused_word
word_bytes Place = place_word
word_bytes Passes = passes_word
word_bytes Missing = missing_word
word_bytes Clash = clash_word
word_bytes Broken = broken_word
word_bytes Unfounded = unfounded_word
word_bytes None = none_word
word_bytes Path = path_word
word_bytes Contradicted = contradicted_word
word_bytes Uncaused = uncaused_word

-- what stands behind an equals sign
abbrev pub value_bytes : List ℕ → Value → List ℕ
value_bytes input value.Nothing = []
value_bytes input (value.Word w) = word_bytes w
value_bytes input (value.Number n) = decimal n
value_bytes input (value.Fluent f) = shown_fluent input f

-- a line, and lines one behind the other
abbrev pub line_bytes : List ℕ → Line → List ℕ
line_bytes input l = output_line (word_bytes l.0) (value_bytes input l.1)

abbrev pub lines_bytes : List ℕ → List Line → List ℕ
lines_bytes input [] = []
lines_bytes input (l ∷ ls) = line_bytes input l ++ lines_bytes input ls

-- the lines of a verdict and of a causal verdict
abbrev pub verdict_bytes : List ℕ → Verdict → List ℕ
verdict_bytes input v = output_line answer_word (word_bytes v.answer) ++ output_line at_word (value_bytes input v.at)

abbrev pub causal_bytes : List ℕ → shown.Causal → List ℕ
causal_bytes input c =
    output_line causal_word (word_bytes c.causal) ++ output_line time_word (value_bytes input c.time)
    ++ output_line item_word (value_bytes input c.item)

-- a word with neither time nor item
abbrev pub bare_shown : Word → shown.Causal
bare_shown word = record { causal = word; time = value.Nothing; item = value.Nothing }
