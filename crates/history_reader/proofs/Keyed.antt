-- The key of a line compared with the key that is due, as their numbers.
-- Assumes nothing.
use mathlib.Core.Path.{◌≡◌, refl, sym, ap, ◌∙◌}
use mathlib.Core.Bool.{Bool, true, false, not}
use native.Mathlib.Omega.{arith}
use borrow.Author.Rules.{rules}
use borrow.Author.Tests.{not-true, not-false}
use denote.Enum.Bare.{same_true, same_false, sameb}
use Rattle.std.specs.Prelude.{Option, Some, None}
use Rattle.std.specs.Option.{option_eq}
use Rattle.basics.proofs.Tests.{not-both}
use Rattle.text_forms.specs.declared.Key.{Key}
use Rattle.text_forms.specs.contracts.Key.{the_type}
use Rattle.text_forms.specs.Keys.{number_of_key, number_or}
use Rattle.text_forms.proofs.Keys.{that-key, key_below}

-- by what `!=` answers
module _ (o : Option Key) (key : Key) (differs : Bool) (answers : differs ≡ not (option_eq (sameb the_type) o (Some key))) where
  pub same-key : differs ≡ false → number_or o ≡ number_of_key key
  same-key e = by o (not-false (option_eq (sameb the_type) o (Some key)) (sym answers ∙ e))
    where
      by : (o : Option Key) → option_eq (sameb the_type) o (Some key) ≡ true → number_or o ≡ number_of_key key
      by None e = absurd (not-both e refl)
      by (Some other) e = ap number_of_key (same_true the_type (search rules) other key e)

  pub other-key : differs ≡ true → number_or o ≡ number_of_key key → ⊥
  other-key e = by o (not-true (option_eq (sameb the_type) o (Some key)) (sym answers ∙ e))
    where
      by : (o : Option Key) → option_eq (sameb the_type) o (Some key) ≡ false → number_or o ≡ number_of_key key → ⊥
      by None e f = omega (arith, key_below key)
      by (Some other) e f = let that = that-key (Some other) key f in let same : other ≡ key = cc in same_false the_type other key e same
