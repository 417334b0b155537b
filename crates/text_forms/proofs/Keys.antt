-- The keys and their numbers.
-- Assumes nothing.
use mathlib.Core.Path.{◌≡◌, refl}
use Prim.Native.Nat.{ℕ, ◌<◌}
use native.Mathlib.Omega.{arith}
use Rattle.std.specs.Prelude.{Option, Some, None}
use Rattle.basics.specs.Search.{range}
use Rattle.basics.proofs.Tests.{all-each}
use Rattle.basics.proofs.Lists.{each-range}
use borrow.Author.Tests.{eqb-true}
use lib.Dec.{eqb}
use mathlib.Core.Bool.{Bool, true}
use native.Mathlib.Nat.{zero-add}
use Rattle.text_forms.specs.declared.Key.{Key}
use Rattle.text_forms.specs.declared.Key.TheVariants.{Horizon, Fluent, Action, Static, Dynamic, If, After, State, Act, End}
use Rattle.text_forms.specs.declared.Key.TheVariants.{Default, Inertial, Causes, By, Nonexecutable}
use Rattle.text_forms.specs.Lines.{no_key}
use Rattle.text_forms.specs.Keys.{number_of_key, number_or, key_numbered}

-- the key of a key's number is that key, so that keys with one number are one key
pub key-again : (key : Key) → key_numbered (number_of_key key) ≡ Some key
key-again Horizon = refl
key-again Fluent = refl
key-again Action = refl
key-again Static = refl
key-again Dynamic = refl
key-again If = refl
key-again After = refl
key-again State = refl
key-again Act = refl
key-again End = refl
key-again Default = refl
key-again Inertial = refl
key-again Causes = refl
key-again By = refl
key-again Nonexecutable = refl

pub key_below : (key : Key) → number_of_key key < no_key
key_below Horizon = omega arith
key_below Fluent = omega arith
key_below Action = omega arith
key_below Static = omega arith
key_below Dynamic = omega arith
key_below If = omega arith
key_below After = omega arith
key_below State = omega arith
key_below Act = omega arith
key_below End = omega arith
key_below Default = omega arith
key_below Inertial = omega arith
key_below Causes = omega arith
key_below By = omega arith
key_below Nonexecutable = omega arith

-- what has a key's number is that key
pub that-key : (o : Option Key) (key : Key) → number_or o ≡ number_of_key key → o ≡ Some key
that-key None key e = absurd (omega (arith, key_below key))
that-key (Some other) key e =
    let a = key-again other in
    let b = key-again key in
    let k : key_numbered (number_of_key key) ≡ Some other = rw e at a in
    cc

-- the number of a number's key is that number
abbrev again : ℕ → Bool
again k = eqb (number_or (key_numbered k)) k

pub number-again : (k : ℕ) → k < no_key → number_or (key_numbered k) ≡ k
number-again k h =
    let told = (each-range (λ i. again i ≡ true) 0 no_key (λ i. i) zero-add).0 ((all-each again (range 0 no_key)).0 refl) in
    eqb-true (number_or (key_numbered k)) k (told k h)
