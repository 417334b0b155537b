-- A law that has a short form is the law that the form's lines stand for.
-- Assumes nothing.
use mathlib.Core.Path.{◌≡◌, refl, ap, subst, ◌∙◌}
use mathlib.Core.Bool.{Bool, true, false, not, cond}
use mathlib.Core.List.{List, [], ◌∷◌}
use Prim.Native.Nat.{ℕ, ◌*◌, ◌≤◌}
use borrow.Author.Tests.{eq-eqb}
use lib.ListN.{length}
use Rattle.basics.proofs.Tests.{not-both, and-iff, and₃-iff}
use Rattle.action_language.specs.declared.Head.{Head}
use Rattle.action_language.specs.declared.Head.TheVariants.{Lit, False}
use Rattle.action_language.specs.declared.Kind.{Kind}
use Rattle.action_language.specs.declared.Kind.TheVariants.{Static, Dynamic}
use Rattle.action_language.specs.declared.Law.{Law}
use Rattle.action_language.specs.Laws.{is_static, if_list, after_list, law_of}
use Rattle.action_language.proofs.Fits.{CodesBelow}
use Rattle.line_values.specs.ShortLaws.{default_law, inertial_law, causes_law, nonexecutable_law}
use Rattle.reader_bounds.specs.Accepts.{afters_of, Tidy}
use Rattle.written_form.specs.Writing.{Form, in_full, as_default, as_inertial, as_causes, as_nonexecutable, only_head}
use Rattle.written_form.specs.Writing.{is_false, has_form, written_as}
use Rattle.spelling.proofs.Comparing.{same_refl, same-equal}
use Rattle.written_form.proofs.Written.{Bounded}

-- a law has the form that it is written in
pub form-had : (form : Form) (l : Law) → has_form (written_as form l) l ≡ true
form-had form l = go (has_form form l) refl
  where
    go : (b : Bool) → has_form form l ≡ b → has_form (cond b form in_full) l ≡ true
    go true e = e
    go false e = refl

static-kind : (k : Kind) → is_static k ≡ true → k ≡ Static
static-kind Static e = refl
static-kind Dynamic e = absurd (not-both e refl)

dynamic-kind : (k : Kind) → not (is_static k) ≡ true → k ≡ Dynamic
dynamic-kind Static e = absurd (not-both e refl)
dynamic-kind Dynamic e = refl

false-head : (h : Head) → is_false h ≡ true → h ≡ False
false-head (Lit c) e = absurd (not-both e refl)
false-head False e = refl

-- the code of a head that is a literal, of which some list holds nothing else
literal-head : (h : Head) (cs : List ℕ) → only_head h cs ≡ true → (c : ℕ) × (h ≡ Lit c)
literal-head (Lit c) cs e = (c, refl)
literal-head False cs e = absurd (not-both e refl)

only-literal : (h : Head) (c : ℕ) (cs : List ℕ) → h ≡ Lit c → only_head h cs ≡ true → cs ≡ c ∷ []
only-literal h c cs is e = same-equal cs (c ∷ []) (subst (λ h'. only_head h' cs ≡ true) is e)

-- a tidy record by its kind, head and lists
by_parts : (l : Law) {kind : Kind} {head : Head} {ifs afters : List ℕ} → Tidy l → l.kind ≡ kind → l.head ≡ head → if_list l ≡ ifs
    → afters_of kind l ≡ afters → l ≡ law_of kind head ifs afters
by_parts l {kind} {head} {ifs} {afters} tidy is-kind is-head is-ifs is-afters =
    tidy
    ∙ ap (λ k. law_of k l.head (if_list l) (afters_of k l)) is-kind
    ∙ ap (λ h. law_of kind h (if_list l) (afters_of kind l)) is-head
    ∙ ap (λ cs. law_of kind head cs (afters_of kind l)) is-ifs
    ∙ ap (law_of kind head ifs) is-afters

-- the forms of a list are of dynamic laws, whose after-list is within the limits
pub causes-dynamic : (l : Law) → has_form as_causes l ≡ true → l.kind ≡ Dynamic
causes-dynamic l has = dynamic-kind l.kind ((and-iff _ _).0 has).0

pub nonexecutable-dynamic : (l : Law) → has_form as_nonexecutable l ≡ true → l.kind ≡ Dynamic
nonexecutable-dynamic l has = dynamic-kind l.kind ((and₃-iff _ _ _).0 has).0

pub dynamic-afters : (n names : ℕ) (l : Law) → Bounded n names l → l.kind ≡ Dynamic
    → CodesBelow (2 * names) (after_list l) × (length (after_list l) ≤ 6)
dynamic-afters n names l b kind =
    subst (λ k. CodesBelow (2 * names) (afters_of k l) × (length (afters_of k l) ≤ 6)) kind (b.afters, b.few-afters)

-- the law of a literal's form
pub record OfLiteral (law : ℕ → Law) (l : Law) : Type 0 where
  pub code : ℕ
  pub is-head : l.head ≡ Lit code
  pub is-law : l ≡ law code

module _ (l : Law) (tidy : Tidy l) where
  pub default-is : has_form as_default l ≡ true → OfLiteral default_law l
  default-is has =
      let (kind, ifs) = (and-iff _ _).0 has in
      let (c, head) = literal-head l.head (if_list l) ifs in
      record {
        code = c;
        is-head = head;
        is-law = by_parts l tidy (static-kind l.kind kind) head (only-literal l.head c (if_list l) head ifs) refl;
      }

  pub inertial-is : has_form as_inertial l ≡ true → OfLiteral inertial_law l
  inertial-is has =
      let (kind, ifs, afters) = (and₃-iff _ _ _).0 has in
      let (c, head) = literal-head l.head (if_list l) ifs in
      record {
        code = c;
        is-head = head;
        is-law =
            by_parts l tidy (dynamic-kind l.kind kind) head (only-literal l.head c (if_list l) head ifs)
            (only-literal l.head c (after_list l) head afters);
      }

  pub causes-is : has_form as_causes l ≡ true → l ≡ causes_law l.head (after_list l)
  causes-is has =
      let (kind, ifs) = (and-iff _ _).0 has in
      by_parts l tidy (dynamic-kind l.kind kind) refl (same-equal (if_list l) [] ifs) refl

  pub nonexecutable-is : has_form as_nonexecutable l ≡ true → l ≡ nonexecutable_law (after_list l)
  nonexecutable-is has =
      let (kind, ifs, head) = (and₃-iff _ _ _).0 has in
      by_parts l tidy (dynamic-kind l.kind kind) (false-head l.head head) (same-equal (if_list l) [] ifs) refl

-- and each law that a short form stands for has that form
pub record ShortForms : Type 0 where
  pub default-has : (c : ℕ) → has_form as_default (default_law c) ≡ true
  pub inertial-has : (c : ℕ) → has_form as_inertial (inertial_law c) ≡ true
  pub causes-has : (head : Head) (afters : List ℕ) → has_form as_causes (causes_law head afters) ≡ true
  pub nonexecutable-has : (afters : List ℕ) → has_form as_nonexecutable (nonexecutable_law afters) ≡ true

pub short-forms : ShortForms
short-forms = record {
  default-has = λ c. same_refl (c ∷ []);
  inertial-has = λ c. rw (eq-eqb c c refl);
  causes-has = λ head afters. refl;
  nonexecutable-has = λ afters. refl;
}
