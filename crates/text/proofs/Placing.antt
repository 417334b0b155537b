-- Where lines and their values begin.
-- Assumes nothing.
use mathlib.Core.Path.{◌≡◌, refl, sym, ap, subst, ◌∙◌}
use mathlib.Core.Bool.{cond}
use mathlib.Core.List.{List, []}
use mathlib.Core.Option.{Option, none, some}
use Prim.Native.Nat.{ℕ, suc, ◌+◌, ◌-◌, ◌≤◌, ◌<◌}
use native.Mathlib.Numerals.{add-one}
use native.Mathlib.Omega.{arith}
use borrow.Author.Tests.{lt-ltb}
use lib.Dec.{eqb, ltb}
use lib.ListN.{length, take, drop}
use lib.Seq.{drop-drop}
use Rattle.basics.specs.Search.{first}
use Rattle.basics.proofs.Tests.{first_some}
use Rattle.spelling.specs.Letters.{same}
use Rattle.text_forms.specs.declared.LineAt.{LineAt}
use Rattle.text_forms.specs.Bytes.{newline, equals_sign, Cut, cut_at, cut}
use Rattle.text_forms.specs.Lines.{keys, no_key, key_number, Line, keyed, valued, ended, first_line}
use Rattle.text_forms.specs.Places.{size_up_to, line_size, start_of_line, no_line, split_at, ended_at, line_at}
use Rattle.text_forms.specs.Keys.{number_or, key_by}
use Rattle.text_forms.proofs.Keys.{number-again}
use Rattle.text_forms.specs.Places.{value_at, value_of_line}
use Rattle.text.proofs.Cutting.{first-inside, drop-take, line-inside, sign-inside}

-- the size of the first line
pub size-all : (xs : List ℕ) → first (eqb newline) 0 xs ≡ none → length xs ≡ line_size xs
unfolding line_size
size-all xs e = rw e

pub size-cut : (xs : List ℕ) (i : ℕ) → first (eqb newline) 0 xs ≡ some i → (i + 1 ≡ line_size xs) × (i + 1 ≤ length xs)
unfolding line_size
size-cut xs i e = (rw e (add-one i), omega (arith, first-inside (eqb newline) xs i e))

-- a key's number, if it is one, and the line that stands at some places of a text
abbrev pub key_in : ℕ → Option ℕ
key_in k = cond (ltb k no_key) (some k) none

unfoldable pub line_of : List ℕ → LineAt → Option Line
line_of text l = keyed (key_in (number_or l.key)) (value_at text l) (drop l.next text)

-- the places are within the text, and a line with a key takes the bytes up to the next one, at least one
pub record LineFits (text : List ℕ) (at : ℕ) (l : LineAt) : Type 0 where
  pub ordered : l.from ≤ l.to
  pub inside : l.to ≤ length text
  pub within : l.next ≤ length text
  pub later : number_or l.key < no_key → at < l.next
  pub ends : number_or l.key < no_key → l.next ≡ at + line_size (drop at text)

key-known : (bs : List ℕ) → key_in (number_or (key_by (key_number bs))) ≡ key_number bs
unfolding key_number
key-known bs = go (first (same bs) 0 keys) refl
  where
    go : (o : Option ℕ) → first (same bs) 0 keys ≡ o → key_in (number_or (key_by o)) ≡ o
    go none e = refl
    go (some k) e =
        let (i, at, low) = first_some (same bs) [] 0 keys k e in
        let few : i < no_key = low.0 in
        rw (number-again k (omega arith), lt-ltb k no_key (omega arith))

-- the line at a place is the one that `first_line` says, and its places fit
module _ (text : List ℕ) (at : ℕ) where
  none-fits : LineFits text at (no_line (length text))
  none-fits = record {
    ordered = omega arith;
    inside = omega arith;
    within = omega arith;
    later = λ b. absurd (omega arith);
    ends = λ b. absurd (omega arith);
  }

  module _ (size : ℕ) where
    value : (sign : ℕ) → take (at + size - (at + sign + 1)) (drop (at + sign + 1) text) ≡ drop (suc sign) (take size (drop at text))
    value sign =
        let e : at + size - (at + sign + 1) ≡ size - suc sign = omega arith in
        let f : at + sign + 1 ≡ at + suc sign = omega arith in
        rw (drop-take (suc sign) size (drop at text), drop-drop (suc sign) at text, e, f)

    behind : drop (at + size + 1) text ≡ drop (suc size) (drop at text)
    behind = let f : at + size + 1 ≡ at + suc size = omega arith in rw (drop-drop (suc size) at text, f)

    split-answers : (o : Option ℕ)
        → line_of text (split_at text at size o) ≡ valued (cut_at (take size (drop at text)) o) (drop (suc size) (drop at text))
    unfolding line_of
    split-answers none = refl
    split-answers (some sign) = rw (key-known (take sign (take size (drop at text))), value sign, behind)

    split-fits : first (eqb newline) 0 (drop at text) ≡ some size
        → (o : Option ℕ) → first (eqb equals_sign) 0 (take size (drop at text)) ≡ o → LineFits text at (split_at text at size o)
    split-fits e none f = none-fits
    split-fits e (some sign) f =
        let inside = line-inside text at (drop at text) refl size e in
        let before = sign-inside text at (drop at text) refl size e sign f in
        let takes = size-cut (drop at text) size e in
        record {
          ordered = omega arith;
          inside = omega arith;
          within = omega arith;
          later = λ b. omega arith;
          ends = λ b. omega (arith, takes.0);
        }

  ended-answers : (o : Option ℕ) → line_of text (ended_at text at o) ≡ ended (cut_at (drop at text) o)
  unfolding line_of cut
  ended-answers none = refl
  ended-answers (some size) = split-answers size (first (eqb equals_sign) 0 (take size (drop at text)))

  ended-fits : (o : Option ℕ) → first (eqb newline) 0 (drop at text) ≡ o → LineFits text at (ended_at text at o)
  ended-fits none e = none-fits
  ended-fits (some size) e = split-fits size e (first (eqb equals_sign) 0 (take size (drop at text))) refl

  pub at-answers : line_of text (line_at text at) ≡ first_line (drop at text)
  unfolding line_at first_line cut
  at-answers = ended-answers (first (eqb newline) 0 (drop at text))

  at-fits : LineFits text at (line_at text at)
  unfolding line_at
  at-fits = ended-fits (first (eqb newline) 0 (drop at text)) refl

-- the same of what `line_at` gives
module _ (text : List ℕ) (at : ℕ) {l : LineAt} (is : l ≡ line_at text at) where
  pub line-answers : line_of text l ≡ first_line (drop at text)
  line-answers = ap (line_of text) is ∙ at-answers text at

  pub line-fits : LineFits text at l
  line-fits = subst (LineFits text at) (sym is) (at-fits text at)

-- line n, and its value if it has a key
abbrev pub line_number : ℕ → List ℕ → Option Line
line_number n text = first_line (drop (start_of_line n text) text)

value_there : (o : Option ℕ) (value rest : List ℕ) (l : Line) → keyed o value rest ≡ some l → value ≡ l.value
value_there none value rest l e = let z : ◌≡◌ {A = ℕ} 0 1 = cc in absurd (omega arith)
value_there (some k) value rest l e = cc

pub line-value : (n : ℕ) (text : List ℕ) (l : Line) → line_number n text ≡ some l → value_of_line n text ≡ l.value
unfolding line_of
line-value n text l e =
    let at = line_at text (start_of_line n text) in
    value_there (key_in (number_or at.key)) (value_at text at) (drop at.next text) l (at-answers text (start_of_line n text) ∙ e)

-- the next line begins where a line ends
keyed-rest : (o : Option ℕ) (value rest : List ℕ) (l : Line) → keyed o value rest ≡ some l → l.rest ≡ rest
keyed-rest none value rest l e = let z : ◌≡◌ {A = ℕ} 0 1 = cc in absurd (omega arith)
keyed-rest (some k) value rest l e = cc

valued_rest : (o : Option Cut) (rest : List ℕ) (l : Line) → valued o rest ≡ some l → l.rest ≡ rest
valued_rest none rest l e = let z : ◌≡◌ {A = ℕ} 0 1 = cc in absurd (omega arith)
valued_rest (some c) rest l e = keyed-rest (key_number c.front) c.back rest l e

line-rest : (text : List ℕ) (l : Line) → first_line text ≡ some l → l.rest ≡ drop (line_size text) text
unfolding first_line cut line_size
line-rest text l e = go (first (eqb newline) 0 text) e
  where
    go : (o : Option ℕ) → ended (cut_at text o) ≡ some l → l.rest ≡ drop (size_up_to (length text) o) text
    go none h = let z : ◌≡◌ {A = ℕ} 0 1 = cc in absurd (omega arith)
    go (some i) h = valued_rest (cut equals_sign (take i text)) (drop (suc i) text) l h

pub next-line : (n : ℕ) (text : List ℕ) (l : Line) → line_number n text ≡ some l → l.rest ≡ drop (start_of_line (suc n) text) text
next-line n text l e =
    line-rest (drop (start_of_line n text) text) l e ∙ drop-drop (line_size (drop (start_of_line n text) text)) (start_of_line n text) text
