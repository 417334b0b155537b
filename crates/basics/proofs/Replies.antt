-- What a reply that is no refusal tells of the tests before it.
-- Assumes nothing.
use mathlib.Core.Path.{◌≡◌, refl}
use mathlib.Core.Option.{Option, none, some}
use Prim.Native.Nat.{ℕ}
use native.Mathlib.Omega.{arith}
use Rattle.basics.specs.Replies.{Reply, refused, answered, or_refuse, unless_refused}

-- a test that found something would have refused
pub or_refuse-answered : {A : Type 0} (o : Option ℕ) (number : ℕ) (next : Reply A) {a : A} → or_refuse o number next ≡ answered a
    → (o ≡ none) × (next ≡ answered a)
or_refuse-answered none number next e = (refl, e)
or_refuse-answered (some place) number next e = absurd (let z : ◌≡◌ {A = ℕ} 0 1 = cc in omega arith)

pub unless_refused-answered : {A B : Type 0} (o : Reply A) (next : Reply B) {b : B} → unless_refused o next ≡ answered b → next ≡ answered b
unless_refused-answered (answered a) next e = e
unless_refused-answered (refused number place) next e = absurd (let z : ◌≡◌ {A = ℕ} 0 1 = cc in omega arith)
