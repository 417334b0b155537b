-- A refusal whose reason is none of a caller's own, beside one that the caller handed in.
-- Assumes nothing.
use mathlib.Core.Path.{◌≡◌}
use mathlib.Core.Bool.{true}
use Prim.Native.Nat.{ℕ}
use native.Mathlib.Omega.{arith}
use Rattle.std.specs.Prelude.{Result, Ok, Err, IfErr}
use Rattle.basics.specs.declared.Refusal.{Refusal}
use Rattle.basics.specs.Refusals.{is_own, Numbered}
use Rattle.basics.proofs.Tests.{not-both, false_of_not}

pub no-own : {R S : Type 0} (later : Result S Refusal) (r : Result R Refusal) → Numbered r
    → IfErr r (λ refusal. is_own refusal.reason ≡ true → later ≡ Err refusal)
no-own later (Ok answer) h = tt
no-own later (Err refusal) h = λ own. absurd (not-both own h)

-- where nothing was handed in, no reason is a caller's own
pub none-handed : {R S : Type 0} (done : S) (r : Result R Refusal)
    → IfErr r (λ refusal. is_own refusal.reason ≡ true → ◌≡◌ {A = Result S Refusal} (Ok done) (Err refusal)) → Numbered r
none-handed done (Ok answer) h = tt
none-handed done (Err refusal) h =
    false_of_not (is_own refusal.reason) (λ own. let bad = h own in let z : ◌≡◌ {A = ℕ} 0 1 = cc in omega arith)
