-- Names and written literals: a name has none of the bytes that part the text, and each literal is read back to its code.
-- Assumes nothing.
use mathlib.Core.Path.{◌≡◌, refl, sym, ap, subst, ◌∙◌}
use mathlib.Core.Bool.{Bool, true, false, cond}
use mathlib.Core.List.{List, [], ◌∷◌, ◌++◌, map}
use mathlib.Core.Option.{Option, none, some}
use Prim.Native.Nat.{ℕ, zero, suc, ◌+◌, ◌*◌, ◌/◌, ◌%◌, ◌≤◌, ◌<◌}
use native.Mathlib.Nat.{add-zero, zero-add}
use native.Mathlib.Omega.{arith}
use borrow.Author.Tests.{le-leb, lt-ltb, ne_eqb, eqb-true, eqb-false}
use lib.Dec.{eqb}
use lib.ListN.{length, get_or}
use Rattle.basics.specs.Search.{Each, first}
use Rattle.basics.proofs.Tests.{not-both, each_map, each_at, each_append}
use Rattle.basics.proofs.Lists.{none-iff}
use Rattle.action_language.specs.declared.Head.{Head}
use Rattle.action_language.specs.declared.Head.TheVariants.{Lit, False}
use Rattle.action_language.proofs.Fits.{HeadBelow}
use Rattle.spelling.specs.Letters.{is_name_byte, lowered}
use Rattle.text_forms.specs.Bytes.{hyphen}
use Rattle.written_form.specs.Writable.{AreNames, Distinct}
use Rattle.spelling.specs.Spelling.{same_name, false_bytes, is_name}
use Rattle.spelling.proofs.Comparing.{same_refl}
use Rattle.text_forms.specs.Names.{declared_at, in_sort, literal}
use Rattle.description_lines.specs.LineSteps.{lit_head, read_head}
use Rattle.written_form.specs.Writing.{literal_text, head_text}
use Rattle.spelling.proofs.Naming.{named}
use Rattle.written_form.proofs.WrittenLines.{Lacks}

-- the spellings of uses as declared: of one use, of those of a line, of those of a law
abbrev pub plain : List ℕ → List ℕ
plain name = name

abbrev pub plains : ℕ → List ℕ → List ℕ
plains place name = name

abbrev pub plain_lines : ℕ → ℕ → List ℕ → List ℕ
plain_lines line place name = name

-- one name

pub name-long : (bs : List ℕ) → is_name bs ≡ true → 1 ≤ length bs
name-long [] e = absurd (not-both (named [] e).starts refl)
name-long (b ∷ bs) e = omega arith

-- the bytes that part the text are no name bytes
pub name-lacks : (b : ℕ) → is_name_byte b ≡ false → (bs : List ℕ) → is_name bs ≡ true → Lacks b bs
name-lacks b apart bs e =
    each_map (λ x t. ne_eqb b x (λ q. not-both t (subst (λ y. is_name_byte y ≡ false) q apart))) bs (named bs e).bytes

-- and so is no byte of any name of a list, nor of the empty one that stands past it
names-lack : (b : ℕ) → is_name_byte b ≡ false → (names : List (List ℕ)) → AreNames names → (i : ℕ) → Lacks b (get_or names i [])
names-lack b apart [] are i = tt
names-lack b apart (x ∷ xs) are zero = name-lacks b apart x are.0
names-lack b apart (x ∷ xs) are (suc i) = names-lack b apart xs are.1 i

-- names that differ

pub distinct-front : (xs ys : List (List ℕ)) → Distinct (xs ++ ys) → Distinct xs
distinct-front [] ys d = tt
distinct-front (x ∷ xs) ys d = (((each_append (λ y. same_name y x ≡ false) xs ys).0 d.0).0, distinct-front xs ys d.1)

-- a name is found at its own place
pub declared : (names : List (List ℕ)) (k i : ℕ) → Distinct names → i < length names
    → first (same_name (get_or names i [])) k names ≡ some (k + i)
declared [] k i d h = absurd (omega arith)
declared (x ∷ xs) k zero d h = rw (same_refl (map lowered x), add-zero k)
declared (x ∷ xs) k (suc i) d h =
    rw ((each_at (λ y. same_name y x ≡ false) [] xs).0 d.0 i (omega arith))
    (declared xs (suc k) i d.1 (omega arith) ∙ ap {B = Option ℕ} some (omega arith))

-- a name is none of those before it
pub undeclared : (done : List (List ℕ)) (x : List ℕ) (xs : List (List ℕ)) → Distinct (done ++ x ∷ xs) → declared_at done x ≡ none
undeclared done [] xs d = refl
undeclared done (b ∷ bs) xs d = (none-iff (same_name (b ∷ bs)) 0 done).1 (others done d)
  where
    others : (ys : List (List ℕ)) → Distinct (ys ++ (b ∷ bs) ∷ xs) → Each (λ y. same_name (b ∷ bs) y ≡ false) ys
    others [] d = tt
    others (y ∷ ys) d = (((each_append (λ z. same_name z y ≡ false) ys ((b ∷ bs) ∷ xs)).0 d.0).1.0, others ys d.1)

-- a name is looked for among all
searched : (names : List (List ℕ)) (bs : List ℕ) → is_name bs ≡ true → declared_at names bs ≡ first (same_name bs) 0 names
searched names [] e = absurd (not-both (named [] e).starts refl)
searched names (b ∷ bs) e = refl

-- literals

positive : (names : List (List ℕ)) (low high : ℕ) (bs : List ℕ) → is_name bs ≡ true
    → literal names low high bs ≡ in_sort low high 0 (declared_at names bs)
unfolding literal
positive names low high [] e = refl
positive names low high (b ∷ bs) e =
    let other : eqb b hyphen ≡ false = ne_eqb b hyphen (λ q. eqb-false hyphen b (name-lacks hyphen refl (b ∷ bs) e).0 (sym q)) in
    rw other

negated : (names : List (List ℕ)) (low high : ℕ) (bs : List ℕ)
    → literal names low high (hyphen ∷ bs) ≡ in_sort low high 1 (declared_at names bs)
unfolding literal
negated names low high bs = refl

-- the names of a text: a literal's text and its code
module _ (names : List (List ℕ)) (are : AreNames names) where
  pub name-at : (i : ℕ) → i < length names → is_name (get_or names i []) ≡ true
  name-at i h = (each_at (λ x. is_name x ≡ true) [] names).0 are i h

  pub literal-lacks : (b : ℕ) → is_name_byte b ≡ false → eqb b hyphen ≡ false → (c : ℕ) → Lacks b (literal_text names plain c)
  literal-lacks b apart other c = go (eqb (c % 2) 0)
    where
      name : Lacks b (get_or names (c / 2) [])
      name = names-lack b apart names are (c / 2)

      go : (even : Bool) → Lacks b (cond even (get_or names (c / 2) []) (hyphen ∷ get_or names (c / 2) []))
      go true = name
      go false = (other, name)

  pub literal-size : (c : ℕ) → c < 2 * length names → (1 ≤ length (literal_text names plain c)) × (length (literal_text names plain c) ≤ 17)
  literal-size c h = go (eqb (c % 2) 0)
    where
      bs : List ℕ
      bs = get_or names (c / 2) []

      is : is_name bs ≡ true
      is = name-at (c / 2) (omega arith)

      go : (even : Bool) → (1 ≤ length (cond even bs (hyphen ∷ bs))) × (length (cond even bs (hyphen ∷ bs)) ≤ 17)
      go true = omega (arith, name-long bs is, (named bs is).short)
      go false = omega (arith, (named bs is).short)

  pub literal-not-false : (c : ℕ) → c < 2 * length names → same_name (literal_text names plain c) false_bytes ≡ false
  literal-not-false c h = go (eqb (c % 2) 0)
    where
      go : (even : Bool) → same_name (cond even (get_or names (c / 2) []) (hyphen ∷ get_or names (c / 2) [])) false_bytes ≡ false
      go true = (named (get_or names (c / 2) []) (name-at (c / 2) (omega arith))).not-false
      go false = refl

  module _ (distinct : Distinct names) where
    sorted : (low high sign i : ℕ) → low ≤ i → i < high → high ≤ length names
        → in_sort low high sign (declared_at names (get_or names i [])) ≡ some (2 * i + sign)
    sorted low high sign i from to held =
        ap (in_sort low high sign)
        (searched names (get_or names i []) (name-at i (omega arith)) ∙ declared names 0 i distinct (omega arith)
        ∙ ap {B = Option ℕ} some (zero-add i))
        ∙ rw (le-leb low i from, lt-ltb i high to)

    pub literal-read : (low high c : ℕ) → low ≤ c / 2 → c < 2 * high → high ≤ length names
        → literal names low high (literal_text names plain c) ≡ some c
    literal-read low high c from to held = go (eqb (c % 2) 0) refl
      where
        i : ℕ
        i = c / 2

        go : (even : Bool) → eqb (c % 2) 0 ≡ even → literal names low high (cond even (get_or names i []) (hyphen ∷ get_or names i []))
            ≡ some c
        go true e =
            positive names low high (get_or names i []) (name-at i (omega arith))
            ∙ sorted low high 0 i from (omega arith) held
            ∙ ap {B = Option ℕ} some (omega (arith, eqb-true (c % 2) 0 e))
        go false e =
            negated names low high (get_or names i [])
            ∙ sorted low high 1 i from (omega arith) held
            ∙ ap {B = Option ℕ} some (omega (arith, eqb-false (c % 2) 0 e))

    pub head_read : (fluents : ℕ) (h : Head) → HeadBelow (2 * fluents) h → fluents ≤ length names
        → read_head names fluents (head_text names plains h) ≡ some h
    unfolding read_head
    head_read fluents (Lit c) below held =
        rw (literal-not-false c (omega arith)) (ap lit_head (literal-read 0 fluents c (omega arith) below held))
    head_read fluents False below held = refl
