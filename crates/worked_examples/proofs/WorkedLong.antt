-- The worked examples of long texts hold, shown for texts of any length.
-- Assumes nothing.
use mathlib.Core.Path.{◌≡◌, refl, ap, ◌∙◌}
use mathlib.Core.Bool.{Bool, true, false, cond}
use mathlib.Core.List.{List, [], ◌++◌}
use mathlib.Core.Option.{none}
use Prim.Native.Nat.{ℕ, zero, suc, ◌+◌}
use lib.Dec.{eqb, ltb}
use lib.ListN.{length, replicate, length-append, length-replicate}
use Rattle.basics.specs.Search.{Each, first}
use Rattle.basics.specs.Replies.{refused, answered}
use Rattle.basics.specs.Quoted.{bytes}
use Rattle.text_forms.specs.Bytes.{cut, cut_at, newline}
use Rattle.text_forms.specs.Lines.{key_number, ended, first_line}
use Rattle.spelling.specs.Spelling.{is_name}
use Rattle.line_values.specs.HorizonText.{horizon_of}
use Rattle.description_lines.specs.LineSteps.{line_step}
use Rattle.description_lines.specs.Descriptions.{read, described}
use Rattle.history_reader.specs.Histories.{read_history, by_names}
use Rattle.worked_examples.specs.Examples.{Holds}
use Rattle.worked_examples.specs.Texts.{tiny_text, letters}
use Rattle.worked_examples.specs.Format.{tiny_draft, long_examples}

length-letters : (n : ℕ) → length (letters n) ≡ n
unfolding letters
length-letters n = length-replicate n 97

-- the tiny text has 24 bytes
length-behind : (n : ℕ) → length (tiny_text ++ letters n) ≡ 24 + n
length-behind n = length-append tiny_text (letters n) ∙ ap (λ k. 24 + k) (length-letters n)

-- whatever stands behind the tiny text, it is read, unless all is too long
tiny-read : (more : List ℕ) (long : Bool) → ltb 65535 (length (tiny_text ++ more)) ≡ long
    → described 64 (tiny_text ++ more) ≡ cond long (refused 1 0) (answered (read (tiny_draft 1 (bytes "a")) more 3))
unfolding described line_step horizon_of is_name first_line key_number cut
tiny-read more long e = ap (λ b. cond b (refused 1 0) (answered (read (tiny_draft 1 (bytes "a")) more 3))) e

tiny-alone : described 64 tiny_text ≡ answered (read (tiny_draft 1 (bytes "a")) [] 3)
unfolding described line_step horizon_of is_name first_line key_number cut
tiny-alone = refl

no-newline : (k n : ℕ) → first (eqb newline) k (replicate n 97) ≡ none
no-newline k zero = refl
no-newline k (suc n) = no-newline (suc k) n

no_line : (n : ℕ) → first_line (letters n) ≡ none
unfolding first_line cut letters
no_line n = ap (λ o. ended (cut_at (replicate n 97) o)) (no-newline 0 n)

tiny-history : (n : ℕ) (long : Bool) → ltb 65535 n ≡ long → read_history tiny_text (letters n) 2 ≡ cond long (refused 1 0) (refused 2 1)
unfolding read_history
tiny-history n long e = rw (tiny-alone, length-letters n, no_line n, e)

wrong-room : (text : List ℕ) → read_history tiny_text text 3 ≡ refused 10 3
unfolding read_history
wrong-room text = ap (λ o. by_names o text 3) tiny-alone

pub long-examples : Each Holds long_examples
long-examples = (
  tiny-read (letters 65511) false (ap (ltb 65535) (length-behind 65511)),
  (
    tiny-read (letters 65512) true (ap (ltb 65535) (length-behind 65512)),
    (tiny-history 65535 false refl, (tiny-history 65536 true refl, (wrong-room (letters 65536), tt))),
  ),
)
