-- Texts whose uses of names are respelled, use by use, in any mix of capitals, are read alike or refused alike (02, §3).
-- Assumes nothing.
use Rattle.std.specs.Prelude.{◌≡◌, true, false, List, ◌∷◌, ◌++◌, ℕ, eqb}
use Rattle.basics.specs.Search.{Each}
use Rattle.basics.specs.Replies.{Reply, refused, answered}
use Rattle.text_forms.specs.Bytes.{newline}
use Rattle.description_lines.specs.LineSteps.{Draft}
use Rattle.description_lines.specs.Descriptions.{Taken, read, described}
use Rattle.history_reader.specs.Histories.{read_history}
use Rattle.shown_names.specs.Shown.{shown_fluent, shown_action}
use Rattle.letter_case.specs.Alike.{Alike}
use Rattle.letter_case.specs.LetterCase.{uses_names}
use Rattle.written_form.specs.Writing.{Spelling, line_text}

-- a spelling that changes letter case alone: any mix of capitals at each use
abbrev pub InCapitals : Spelling → Type 0
InCapitals spell = (law line place : ℕ) (name : List ℕ) → Alike name (spell law line place name)

-- two texts, line by line from the front: lines as they are, whatever they hold; lines that use names, whose values differ in letter
-- case alone; and what follows, as it is
pub data Respelled : List ℕ → List ℕ → Type 0 where
  same_text : (text : List ℕ) → Respelled text text
  same_line : (line text text' : List ℕ) → Each (λ b. eqb newline b ≡ false) line → Respelled text text'
      → Respelled (line ++ newline ∷ text) (line ++ newline ∷ text')
  used-line : (key : ℕ) (value value' text text' : List ℕ) → uses_names key ≡ true → Each (λ b. eqb newline b ≡ false) value
      → Alike value value'
      → Respelled text text' → Respelled (line_text key value ++ text) (line_text key value' ++ text')

-- the same refusal, or the same draft behind as many lines, the text behind it respelled
pub data ReadAlike : Reply Taken → Reply Taken → Type 0 where
  both-refused : (number place : ℕ) → ReadAlike (refused number place) (refused number place)
  both_read : (d : Draft) (rest rest' : List ℕ) (lines : ℕ) → Respelled rest rest'
      → ReadAlike (answered (read d rest lines)) (answered (read d rest' lines))

-- for every text, damaged ones too
pub record Respelling : Type 0 where
  pub descriptions : (lent : ℕ) (text text' : List ℕ) → Respelled text text' → ReadAlike (described lent text) (described lent text')
  pub histories : (description description' text text' : List ℕ) (room : ℕ) → Respelled description description' → Respelled text text'
      → read_history description text room ≡ read_history description' text' room
  -- the names shown are those declared, however they are used
  pub shown-fluents : (text text' : List ℕ) → Respelled text text' → (f : ℕ) → shown_fluent text f ≡ shown_fluent text' f
  pub shown-actions : (text text' : List ℕ) → Respelled text text' → (k : ℕ) → shown_action text k ≡ shown_action text' k
