-- Cutting a run at a byte, and the first line of a text that begins with a written line.
-- Assumes nothing.
use mathlib.Core.Path.{◌≡◌, refl, ap, ◌∙◌}
use mathlib.Core.Bool.{Bool, true, false, not, ◌&&◌}
use mathlib.Core.List.{List, [], ◌∷◌, ◌++◌, append_assoc}
use mathlib.Core.Option.{Option, none, some}
use Prim.Native.Nat.{ℕ, suc, ◌+◌, ◌-◌, ◌≤◌, ◌<◌}
use native.Mathlib.Nat.{add-zero, zero-add}
use native.Mathlib.Omega.{arith}
use borrow.Author.Tests.{eq-eqb, eqb-true, not-true}
use lib.Dec.{eqb}
use lib.ListN.{length, get_or, drop}
use lib.Seq.{take-append_seam}
use Rattle.basics.specs.Search.{all, Each, first, range}
use Rattle.basics.proofs.Tests.{not-both, and₃-iff, all-each, each_map, each_append}
use Rattle.basics.proofs.Lists.{none-iff, each-range}
use Rattle.text_forms.specs.Bytes.{newline, equals_sign, cut_at, cut}
use Rattle.text_forms.specs.Lines.{keys, no_key, key_number, keyed, valued, ended, first_line}
use Rattle.written_form.specs.Writing.{line_text}

-- no byte of a run is b
abbrev pub Lacks : ℕ → List ℕ → Type 0
Lacks b bs = Each (λ x. eqb b x ≡ false) bs

first-there : (b k : ℕ) (xs ys : List ℕ) → Lacks b xs → first (eqb b) k (xs ++ b ∷ ys) ≡ some (k + length xs)
first-there b k [] ys h = rw (eq-eqb b b refl, add-zero k)
first-there b k (x ∷ xs) ys h = rw h.0 (first-there b (suc k) xs ys h.1 ∙ ap {B = Option ℕ} some (omega arith))

behind : (b : ℕ) (xs ys : List ℕ) → drop (suc (length xs)) (xs ++ b ∷ ys) ≡ ys
behind b [] ys = refl
behind b (x ∷ xs) ys = behind b xs ys

pub cut-there : (b : ℕ) (xs ys : List ℕ) → Lacks b xs → cut b (xs ++ b ∷ ys) ≡ some (record { front = xs; back = ys })
unfolding cut
cut-there b xs ys h =
    ap (cut_at (xs ++ b ∷ ys)) (first-there b 0 xs ys h ∙ ap {B = Option ℕ} some (zero-add (length xs)))
    ∙ rw (take-append_seam xs (b ∷ ys), behind b xs ys)

pub cut-nowhere : (b : ℕ) (xs : List ℕ) → Lacks b xs → cut b xs ≡ none
unfolding cut
cut-nowhere b xs h = ap (cut_at xs) ((none-iff (eqb b) 0 xs).1 h)

-- an answer is a given number
abbrev pub answers : ℕ → Option ℕ → Bool
answers k none = false
answers k (some i) = eqb i k

pub answers-some : (k : ℕ) (o : Option ℕ) → answers k o ≡ true → o ≡ some k
answers-some k none e = absurd (not-both e refl)
answers-some k (some i) e = ap {B = Option ℕ} some (eqb-true i k e)

-- a test that passes all of a range passes each number in it
pub passed-by : (p : ℕ → Bool) (from n : ℕ) → all p (range from n) ≡ true → (k : ℕ) → from ≤ k → k < from + n → p k ≡ true
passed-by p from n e k low high =
    let there : from + (k - from) ≡ k = omega arith in
    rw there
    at ((each-range (λ i. p i ≡ true) from n (λ i. from + i) (λ i. refl)).0 ((all-each p (range from n)).0 e) (k - from) (omega arith))

-- `Lacks` as a test
abbrev lacking : ℕ → List ℕ → Bool
lacking b xs = all (λ x. not (eqb b x)) xs

lacks : (b : ℕ) (xs : List ℕ) → lacking b xs ≡ true → Lacks b xs
lacks b xs e = each_map (λ x t. not-true (eqb b x) t) xs ((all-each (λ x. not (eqb b x)) xs).0 e)

-- each of the keys is found by its number, and has neither an equals sign nor a newline
abbrev good_key : ℕ → Bool
good_key k =
    let key = get_or keys k [] in
    answers k (key_number key) && lacking equals_sign key && lacking newline key

good-keys : all good_key (range 0 no_key) ≡ true
unfolding key_number
good-keys = refl

pub line-shape : (key value rest : List ℕ)
    → key ++ (equals_sign ∷ []) ++ value ++ (newline ∷ []) ++ rest ≡ (key ++ equals_sign ∷ value) ++ newline ∷ rest
line-shape key value rest = simp append_assoc

-- a written line has one newline, at its end
module _ (k : ℕ) (known : k < no_key) (value : List ℕ) (clean : Lacks newline value) where
  abbrev key : List ℕ
  key = get_or keys k []

  good : (answers k (key_number key) ≡ true) × (lacking equals_sign key ≡ true) × (lacking newline key ≡ true)
  good =
      (and₃-iff (answers k (key_number key)) (lacking equals_sign key) (lacking newline key)).0
      (passed-by good_key 0 no_key good-keys k (omega arith) (omega arith))

  pub line_clean : Lacks newline (key ++ equals_sign ∷ value)
  line_clean = (each_append _ key (equals_sign ∷ value)).1 (lacks newline key good.2, (refl, clean))

  pub first-line : (rest : List ℕ) → first_line (line_text k value ++ rest) ≡ some (record { key = k; value = value; rest = rest })
  unfolding first_line
  first-line rest =
      ap (λ t. ended (cut newline t)) (line-shape key value rest)
      ∙ ap ended (cut-there newline (key ++ equals_sign ∷ value) rest line_clean)
      ∙ ap (λ c. valued c rest) (cut-there equals_sign key value (lacks equals_sign key good.1))
      ∙ ap (λ o. keyed o value rest) (answers-some k (key_number key) good.0)
