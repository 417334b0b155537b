-- Written lists: their items, their size, and that the list reader gives the codes back.
-- Assumes nothing.
use mathlib.Core.Path.{◌≡◌, refl, sym, ap, ◌∙◌}
use mathlib.Core.List.{List, [], ◌∷◌, ◌++◌, map, append-nil, append_assoc}
use Prim.Native.Nat.{ℕ, zero, suc, ◌+◌, ◌*◌, ◌/◌, ◌≤◌, ◌<◌}
use native.Mathlib.Omega.{arith}
use borrow.Author.Tests.{lt-ltb}
use lib.ListN.{length, length-append}
use Rattle.basics.specs.Search.{Each}
use Rattle.basics.proofs.Tests.{each_map, each_append}
use Rattle.action_language.specs.declared.Head.{Head}
use Rattle.action_language.specs.declared.Head.TheVariants.{Lit, False}
use Rattle.action_language.proofs.Fits.{CodesBelow}
use Rattle.written_form.specs.Writable.{AreNames, Distinct}
use Rattle.text_forms.specs.Bytes.{newline, comma, cut}
use Rattle.text_forms.specs.Names.{literal}
use Rattle.text_forms.specs.Lists.{codes, items_cut, items_in, items, added, list_from, list_of}
use Rattle.written_form.specs.Writing.{literal_text, list_text, head_text}
use Rattle.written_form.proofs.WrittenLines.{Lacks, cut-there, cut-nowhere}
use Rattle.written_form.proofs.WrittenNames.{plain, plains, literal-lacks, literal-size, literal-read}

-- a run that is not empty
items_of : (bs : List ℕ) → 1 ≤ length bs → items bs ≡ items_in (suc (length bs)) bs
unfolding items
items_of [] h = absurd (omega arith)
items_of (b ∷ bs) h = refl

-- a run without a comma is one item
item_of : (k : ℕ) (bs : List ℕ) → Lacks comma bs → items_in (suc k) bs ≡ bs ∷ []
item_of k bs lacks = ap (λ o. items_cut bs o (λ back. items_in k back)) (cut-nowhere comma bs lacks)

pub one-item : (names : List (List ℕ)) (low high : ℕ) (bs : List ℕ) → 1 ≤ length bs → Lacks comma bs
    → list_of names low high 6 bs ≡ added [] (literal names low high bs) codes
unfolding list_of
one-item names low high bs long lacks = ap (list_from names low high 6 []) (items_of bs long ∙ item_of (length bs) bs lacks)

-- codes of the names from place low up to, not including, place high
abbrev pub CodesIn : ℕ → ℕ → List ℕ → Type 0
CodesIn low high cs = Each (λ c. (low ≤ c / 2) × (c < 2 * high)) cs

pub codes-in : (high : ℕ) (cs : List ℕ) → CodesBelow (2 * high) cs → CodesIn 0 high cs
codes-in high cs h = each_map (λ c b. (omega arith, b)) cs h

module _ (names : List (List ℕ)) (are : AreNames names) where
  pub list-lacks-newline : (cs : List ℕ) → Lacks newline (list_text names plains cs)
  list-lacks-newline [] = tt
  list-lacks-newline (c ∷ []) = literal-lacks names are newline refl refl c
  list-lacks-newline (c ∷ d ∷ cs) =
      (each_append _ (literal_text names plain c ++ (comma ∷ [])) (list_text names plains (d ∷ cs))).1 (
        (each_append _ (literal_text names plain c) (comma ∷ [])).1 (literal-lacks names are newline refl refl c, (refl, tt)),
        list-lacks-newline (d ∷ cs),
      )

  pub head-lacks-newline : (h : Head) → Lacks newline (head_text names plains h)
  head-lacks-newline (Lit c) = literal-lacks names are newline refl refl c
  head-lacks-newline False = (refl, (refl, (refl, (refl, (refl, tt)))))

  pub list-size : (cs : List ℕ) → CodesBelow (2 * length names) cs
      → (length cs ≤ length (list_text names plains cs)) × (length (list_text names plains cs) ≤ 18 * length cs)
  list-size [] h = omega arith
  list-size (c ∷ []) h = omega (arith, literal-size names are c h.0)
  list-size (c ∷ d ∷ cs) h =
      omega (
        arith,
        literal-size names are c h.0,
        list-size (d ∷ cs) h.1,
        length-append (literal_text names plain c ++ (comma ∷ [])) (list_text names plains (d ∷ cs)),
        length-append (literal_text names plain c) (comma ∷ []),
      )

  items-from : (k c : ℕ) (cs : List ℕ) → CodesBelow (2 * length names) (c ∷ cs) → length cs ≤ k
      → items_in (suc k) (list_text names plains (c ∷ cs)) ≡ map (literal_text names plain) (c ∷ cs)
  items-from k c [] h enough = item_of k (literal_text names plain c) (literal-lacks names are comma refl refl c)
  items-from zero c (d ∷ cs) h enough = absurd (omega arith)
  items-from (suc k) c (d ∷ cs) h enough =
      let rest = list_text names plains (d ∷ cs) in
      let text = list_text names plains (c ∷ d ∷ cs) in
      ap (λ o. items_cut text o (λ back. items_in (suc k) back))
      (
      ap (cut comma) (append_assoc (literal_text names plain c) (comma ∷ []) rest)
      ∙ cut-there comma (literal_text names plain c) rest (literal-lacks names are comma refl refl c)
      )
      ∙ ap {B = List (List ℕ)} (λ xs. literal_text names plain c ∷ xs) (items-from k d cs h.1 (omega arith))

  items-written : (cs : List ℕ) → CodesBelow (2 * length names) cs → items (list_text names plains cs) ≡ map (literal_text names plain) cs
  unfolding items
  items-written [] h = refl
  items-written (c ∷ cs) h =
      let text = list_text names plains (c ∷ cs) in
      let size = list-size (c ∷ cs) h in
      items_of text (omega arith) ∙ items-from (length text) c cs h (omega arith)

  module _ (distinct : Distinct names) (low high most : ℕ) (held : high ≤ length names) where
    list-from : (done cs : List ℕ) → CodesIn low high cs → length done + length cs ≤ most
        → list_from names low high most done (map (literal_text names plain) cs) ≡ codes (done ++ cs)
    list-from done [] h few = ap codes (sym (append-nil done))
    list-from done (c ∷ cs) h few =
        rw (lt-ltb (length done) most (omega arith))
        (
        ap (λ o. added done o (λ more. list_from names low high most more (map (literal_text names plain) cs)))
        (literal-read names are distinct low high c h.0.0 h.0.1 held)
        ∙ list-from (done ++ (c ∷ [])) cs h.1 (omega (arith, length-append done (c ∷ [])))
        ∙ ap codes (append_assoc done (c ∷ []) cs)
        )

    pub list_read : (cs : List ℕ) → CodesIn low high cs → length cs ≤ most
        → list_of names low high most (list_text names plains cs) ≡ codes cs
    unfolding list_of
    list_read cs h few =
        ap (list_from names low high most []) (items-written cs (each_map (λ c b. omega (arith, b.1)) cs h))
        ∙ list-from [] cs h (omega arith)
