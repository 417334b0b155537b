-- Where lines and their values begin, counted in bytes from the text's start, and where a part of a text lies in it.
-- Assumes nothing.
use Rattle.std.specs.Prelude.{◌≡◌, None, List, ℕ, zero, suc, ◌+◌, ◌-◌, eqb, length, take, drop}
use Rattle.std.proofs.Math.Option.{Option, none, some}
use Rattle.std.specs.Borrow.{Bor}
use Rattle.basics.specs.Search.{first}
use Rattle.text_forms.specs.declared.LineAt.{LineAt}
use Rattle.text_forms.specs.Bytes.{newline, equals_sign}
use Rattle.text_forms.specs.Lines.{key_number}
use Rattle.text_forms.specs.Keys.{key_by}

-- how many bytes the first line takes, its ending byte among them; all where that is lacking
abbrev pub size_up_to : ℕ → Option ℕ → ℕ
size_up_to size none = size
size_up_to size (some i) = suc i

unfoldable pub line_size : List ℕ → ℕ
line_size text = size_up_to (length text) (first (eqb newline) 0 text)

-- line 0 begins at the text's start, each other where the line before it ends
abbrev pub start_of_line : ℕ → List ℕ → ℕ
start_of_line zero text = 0
start_of_line (suc n) text = start_of_line n text + line_size (drop (start_of_line n text) text)

-- where there is no line, all places are at the text's end
abbrev pub no_line : ℕ → LineAt
no_line end = record { key = None; from = end; to = end; next = end }

-- the line that begins at a place: its key, where its value begins, behind the first equals sign, where it ends, and where
-- the next line begins. There is none where the ending byte or the equals sign is lacking
abbrev pub split_at : List ℕ → ℕ → ℕ → Option ℕ → LineAt
split_at text at size none = no_line (length text)
split_at text at size (some sign) =
    record {
      key = key_by (key_number (take sign (take size (drop at text))));
      from = at + sign + 1;
      to = at + size;
      next = at + size + 1;
    }

abbrev pub ended_at : List ℕ → ℕ → Option ℕ → LineAt
ended_at text at none = no_line (length text)
ended_at text at (some size) = split_at text at size (first (eqb equals_sign) 0 (take size (drop at text)))

unfoldable pub line_at : List ℕ → ℕ → LineAt
line_at text at = ended_at text at (first (eqb newline) 0 (drop at text))

-- line n's value, whatever its key, and where it begins
abbrev pub value_at : List ℕ → LineAt → List ℕ
value_at text l = take (l.to - l.from) (drop l.from text)

abbrev pub value_of_line : ℕ → List ℕ → List ℕ
value_of_line n text = value_at text (line_at text (start_of_line n text))

abbrev pub start_of_value : ℕ → List ℕ → ℕ
start_of_value n text = (line_at text (start_of_line n text)).from

-- a part begins so many bytes behind the start of the whole, in the same block of memory
abbrev pub LiesAt : ℕ → Bor (List ℕ) → Bor (List ℕ) → Type 0
LiesAt start whole part = part.ref_ptr ≡ (whole.ref_ptr.0, start + whole.ref_ptr.1)
