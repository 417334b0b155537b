-- Elements of a list after a store, and of a list of one value.
-- Assumes nothing.
use mathlib.Core.Path.{◌≡◌, refl, sym}
use mathlib.Core.Bool.{true, false, cond}
use mathlib.Core.List.{List}
use mathlib.Core.Logic.{⊎_elim}
use Prim.Native.Nat.{ℕ, zero, suc, ◌<◌}
use borrow.Author.Tests.{eqb-true, eqb-false}
use lib.Dec.{eqb}
use lib.ListN.{length, get_or, set, replicate}
use lib.Seq.{get_or-set_same, get_or-set_other}
use Rattle.basics.proofs.Tests.{true-or-false}

pub get_d_replicate : {A : Type 0} (n i : ℕ) (a : A) → get_or (replicate n a) i a ≡ a
get_d_replicate zero i a = refl
get_d_replicate (suc n) zero a = refl
get_d_replicate (suc n) (suc i) a = get_d_replicate n i a

-- what stands at j after a store at i
pub get_d_set : {A : Type 0} (l : List A) (i : ℕ) (a d : A) → i < length l → (j : ℕ)
    → get_or (set l i a) j d ≡ cond (eqb i j) a (get_or l j d)
get_d_set l i a d h j = ⊎_elim same other (true-or-false (eqb i j))
  where
    same : eqb i j ≡ true → get_or (set l i a) j d ≡ cond (eqb i j) a (get_or l j d)
    same e = rw (e, ← (eqb-true i j e), get_or-set_same l i a d h)

    other : eqb i j ≡ false → get_or (set l i a) j d ≡ cond (eqb i j) a (get_or l j d)
    other e = rw (e, get_or-set_other l i j a d (λ q. eqb-false i j e (sym q)))
