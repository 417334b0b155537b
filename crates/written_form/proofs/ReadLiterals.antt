-- A literal that is read, whatever its bytes: one item of a list, a literal of either sort too, and not false.
-- Assumes nothing.
use mathlib.Core.Path.{◌≡◌, refl, sym, subst, ◌∙◌}
use mathlib.Core.Bool.{Bool, true, false, cond, ◌&&◌}
use mathlib.Core.List.{List, [], ◌∷◌, map}
use mathlib.Core.Option.{Option, none, some}
use Prim.Native.Nat.{ℕ, ◌+◌, ◌*◌, ◌≤◌, ◌<◌}
use native.Mathlib.Omega.{arith}
use borrow.Author.Tests.{le-leb, lt-ltb, eqb-true}
use lib.Dec.{eqb, ltb, leb}
use lib.ListN.{length, get_or}
use Rattle.basics.proofs.Tests.{first_some}
use Rattle.spelling.specs.Letters.{lowered}
use Rattle.text_forms.specs.Bytes.{comma, hyphen}
use Rattle.spelling.specs.Spelling.{same_name, false_bytes, is_name}
use Rattle.spelling.proofs.Comparing.{same-equal}
use Rattle.spelling.proofs.Lowering.{name-same}
use Rattle.text_forms.specs.Names.{declared_at, in_sort, literal}
use Rattle.spelling.proofs.Naming.{named}
use Rattle.written_form.specs.Writable.{AreNames}
use Rattle.written_form.proofs.WrittenLines.{Lacks}
use Rattle.written_form.proofs.WrittenNames.{name-lacks, name-at}

-- the place of the name, by the code
sort-place : (high sign c : ℕ) (o : Option ℕ) → in_sort 0 high sign o ≡ some c → (i : ℕ) × (o ≡ some i) × (some (2 * i + sign) ≡ some c)
sort-place high sign c none e = let z : ◌≡◌ {A = ℕ} 0 1 = cc in absurd (omega arith)
sort-place high sign c (some i) e = (i, refl, go (leb 0 i && ltb i high) e)
  where
    go : (b : Bool) → cond b (some (2 * i + sign)) none ≡ some c → some (2 * i + sign) ≡ some c
    go true is = is
    go false is = let z : ◌≡◌ {A = ℕ} 0 1 = cc in absurd (omega arith)

pub record OneItem (names : List (List ℕ)) (c : ℕ) (value : List ℕ) : Type 0 where
  pub long : 1 ≤ length value
  pub one : Lacks comma value
  pub not-false : same_name value false_bytes ≡ false
  pub either : literal names 0 (length names) value ≡ some c

module _ (names : List (List ℕ)) (are : AreNames names) where
  -- what was declared is a name
  declared-name : (bs : List ℕ) (i : ℕ) → declared_at names bs ≡ some i → (is_name bs ≡ true) × (i < length names)
  declared-name [] i e = let z : ◌≡◌ {A = ℕ} 0 1 = cc in absurd (omega arith)
  declared-name (b ∷ bs) i e =
      let (j, at, (low, holds, lowest)) = first_some (same_name (b ∷ bs)) [] 0 names i e in
      let name : List ℕ = get_or names j [] in
      (name-same (b ∷ bs) name (same-equal (map lowered (b ∷ bs)) (map lowered name) holds) ∙ name-at names are j low, omega arith)

  -- the name of a literal, and its code among all names
  sort-name : (high sign c : ℕ) (bs : List ℕ) → in_sort 0 high sign (declared_at names bs) ≡ some c
      → (is_name bs ≡ true) × (in_sort 0 (length names) sign (declared_at names bs) ≡ some c)
  sort-name high sign c bs e =
      let (i, found, code) = sort-place high sign c (declared_at names bs) e in
      let (name, below) = declared-name bs i found in
      (name, rw (found, le-leb 0 i (omega arith), lt-ltb i (length names) below) code)

  pub literal-item : (high c : ℕ) (value : List ℕ) → literal names 0 high value ≡ some c → OneItem names c value
  unfolding literal
  literal-item high c [] e = let z : ◌≡◌ {A = ℕ} 0 1 = cc in absurd (omega arith)
  literal-item high c (b ∷ bs) e = go (eqb b hyphen) refl
    where
      go : (h : Bool) → eqb b hyphen ≡ h → OneItem names c (b ∷ bs)
      go true h =
          let (name, either) = sort-name high 1 c bs (rw h at e) in
          subst (λ (x : ℕ). OneItem names c (x ∷ bs)) (sym (eqb-true b hyphen h))
          (record { long = omega arith; one = (refl, name-lacks comma refl bs name); not-false = refl; either = either })
      go false h =
          let (name, either) = sort-name high 0 c (b ∷ bs) (rw h at e) in
          record {
            long = omega arith;
            one = name-lacks comma refl (b ∷ bs) name;
            not-false = (named (b ∷ bs) name).not-false;
            either = rw h either;
          }
