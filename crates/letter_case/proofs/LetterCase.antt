-- What differs in letter case alone is lowered to the same, and only that; so it is read alike.
-- Assumes nothing.
use mathlib.Core.Path.{◌≡◌, refl, sym, ap, subst, ◌∙◌}
use mathlib.Core.Bool.{true, false}
use mathlib.Core.List.{List, [], ◌∷◌, map}
use Prim.Native.Nat.{ℕ}
use borrow.Author.Tests.{ne_eqb}
use lib.Dec.{eqb}
use lib.ListN.{length}
use Rattle.basics.proofs.Tests.{not-both}
use Rattle.spelling.specs.Letters.{lowered}
use Rattle.spelling.proofs.Comparing.{same_refl, same-equal}
use Rattle.text_forms.specs.Lines.{horizon_key, fluent_key, action_key}
use Rattle.text_forms.specs.Names.{is_new, literal}
use Rattle.text_forms.specs.Lists.{list_of}
use Rattle.description_lines.specs.LineSteps.{Due, Draft, end_line, read_head, fluent_list, any_list, line_step}
use Rattle.letter_case.specs.Alike.{Alike, AlikeNames}
use Rattle.letter_case.specs.LetterCase.{uses_names, LetterCase}
use Rattle.letter_case.proofs.AlikeRuns.{lowers, alike_of, names-lower, names-refl}
use Rattle.letter_case.proofs.Lowered.{new-lowered, literal-lowered, head-lowered, list-lowered}

-- what makes the same of lowered names and bytes reads alike
reads-alike : {A : Type 0} (f : List (List ℕ) → List ℕ → A)
    → ((names : List (List ℕ)) (xs : List ℕ) → f (map (map lowered) names) (map lowered xs) ≡ f names xs)
    → (names names' : List (List ℕ)) → AlikeNames names names' → (xs ys : List ℕ) → Alike xs ys → f names xs ≡ f names' ys
reads-alike f stable names names' n xs ys a =
    sym (stable names xs)
    ∙ ap (λ ns. f ns (map lowered xs)) (names-lower names names' n)
    ∙ ap (λ bs. f (map (map lowered) names') bs) (lowers xs ys a)
    ∙ stable names' ys

-- lines

end-alike : (d : Draft) (xs ys : List ℕ) → Alike xs ys → end_line d xs ≡ end_line d ys
end-alike d [] [] a = refl
end-alike d [] (y ∷ ys) a = absurd a
end-alike d (x ∷ xs) [] a = absurd a
end-alike d (x ∷ xs) (y ∷ ys) a = refl

-- a line that uses names declares none, and is not the horizon's
other_key : (k j : ℕ) → uses_names k ≡ true → uses_names j ≡ false → eqb k j ≡ false
other_key k j uses other = ne_eqb k j (λ e. not-both uses (subst (λ (i : ℕ). uses_names i ≡ false) (sym e) other))

line-alike : (lent : ℕ) (due : Due) (d : Draft) (key : ℕ) → uses_names key ≡ true → (xs ys : List ℕ) → Alike xs ys
    → line_step lent due d key xs ≡ line_step lent due d key ys
unfolding line_step
line-alike lent due d key uses xs ys a =
    let same = names-refl d.names in
    let head : read_head d.names d.fluents xs ≡ read_head d.names d.fluents ys =
    reads-alike (λ names bs. read_head names d.fluents bs) (head-lowered d.fluents) d.names d.names same xs ys a in
    let code : literal d.names 0 d.fluents xs ≡ literal d.names 0 d.fluents ys =
    reads-alike (λ names bs. literal names 0 d.fluents bs) (literal-lowered 0 d.fluents) d.names d.names same xs ys a in
    let fluents : fluent_list d xs ≡ fluent_list d ys =
    reads-alike (λ names bs. list_of names 0 d.fluents 6 bs) (list-lowered 0 d.fluents 6) d.names d.names same xs ys a in
    let either : any_list d xs ≡ any_list d ys =
    reads-alike (λ names bs. list_of names 0 (length d.names) 6 bs) (list-lowered 0 (length d.names) 6) d.names
    d.names same xs ys a in
    rw (
      other_key key horizon_key uses refl,
      other_key key fluent_key uses refl,
      other_key key action_key uses refl,
      head,
      code,
      fluents,
      either,
      end-alike d xs ys a,
    )

pub letter-case : LetterCase
letter-case = record {
  same-name = λ xs ys. (
    λ e. alike_of xs ys (same-equal (map lowered xs) (map lowered ys) e),
    λ a. rw (lowers xs ys a) (same_refl (map lowered ys)),
  );
  declarations = reads-alike (λ names xs. is_new names xs) new-lowered;
  literals = λ low high. reads-alike (λ names xs. literal names low high xs) (literal-lowered low high);
  heads = λ fluents. reads-alike (λ names xs. read_head names fluents xs) (head-lowered fluents);
  lists = λ low high most. reads-alike (λ names xs. list_of names low high most xs) (list-lowered low high most);
  lines = line-alike;
}
