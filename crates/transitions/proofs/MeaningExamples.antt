-- The worked examples of the meaning of C.
-- Assumes nothing.
use mathlib.Core.Path.{◌≡◌, refl, sym}
use mathlib.Core.Bool.{Bool, true, false, not}
use mathlib.Core.List.{List, [], ◌∷◌}
use Prim.Native.Nat.{ℕ, zero, suc, ◌<◌}
use native.Mathlib.Omega.{arith}
use Rattle.basics.proofs.Tests.{not-both, not_iff}
use Rattle.action_language.specs.declared.Law.{Law}
use Rattle.transitions.specs.Meaning.{Interpretation, Same, Explained, state_at, action_at}
use Rattle.action_language.specs.Examples.{door_laws, water_laws}
use Rattle.transitions.specs.MeaningExamples.{one, two, ShownBy, CausedExamples, DoorExamples, WaterExamples}
use Rattle.transitions.specs.MeaningExamples.{RecipeExamples, MeaningHolds}

caused-examples : CausedExamples
caused-examples = record {
  closes-by-itself = refl;
  opens-by-itself = refl;
  opened-and-closed = refl;
  dries = refl;
  reflowed-while-locked = refl;
}

-- the fluents of one and of two
of_one : (I J : Interpretation) → I 0 ≡ J 0 → Same 1 I J
of_one I J e f = elim f as (λ f. f < 1 → I f ≡ J f) [ zero ↦ λ b. e | suc f ↦ λ b. absurd (omega arith) ]

of_two : (I J : Interpretation) → I 0 ≡ J 0 → I 1 ≡ J 1 → Same 2 I J
of_two I J e e' f = elim f as (λ f. f < 2 → I f ≡ J f)
    [ zero ↦ λ b. e | suc f ↦ elim f as (λ f. suc f < 2 → I (suc f) ≡ J (suc f)) [ zero ↦ λ b. e' | suc f ↦ λ b. absurd (omega arith) ] ]

-- an interpretation that shows it keeps a transition from being explained
shown : (n : ℕ) (ls : List Law) (s a s' I : Interpretation) → ShownBy n ls s a s' I → Explained n ls s a s' → ⊥
shown n ls s a s' I (satisfied, other) h = other (h.only I satisfied)

differ : (true ≡ false) → ⊥
differ e = not-both refl e

-- what a literal's negation says
negated : (b : Bool) → not b ≡ true → b ≡ false
negated b e = (not_iff b).0 e

door-examples : DoorExamples
door-examples = record {
  closed-is-state = (λ e. refl, (tt, tt));
  open-is-state = (λ e. e, (tt, tt));
  closes-by-itself = record { satisfied = (refl, tt); only = λ I all. of_one I (one true) all.0 };
  kept-open = record { satisfied = (refl, tt); only = λ I all. of_one I (one false) (negated (I 0) all.0) };
  stays_closed = record { satisfied = (refl, tt); only = λ I all. of_one I (one true) all.0 };
  opened = record { satisfied = (refl, tt); only = λ I all. of_one I (one false) (negated (I 0) all.0) };
  closed-shows = closed-shows;
  opens-by-itself = shown 1 door_laws (one true) (one false) (one false) (one true) closed-shows;
  opened-and-closed = λ h. differ (sym h.satisfied.1.0);
  path-closes = record {
    start = (λ e. e, (tt, tt));
    steps = λ t. elim t as (λ t. t < 1
        → Explained 1 door_laws (state_at 1 1 (2 ∷ 2 ∷ 1 ∷ []) t) (action_at 1 1 (2 ∷ 2 ∷ 1 ∷ []) t)
        (state_at 1 1 (2 ∷ 2 ∷ 1 ∷ []) (suc t))) [
          | zero ↦ λ b. record { satisfied = (refl, tt); only = λ I all. of_one I _ all.0 }
          | suc t ↦ λ b. absurd (omega arith)
        ];
  };
  path-opens-by-itself = λ h. differ ((h.steps 0 (omega arith)).only (one true) tt 0 (omega arith));
  path-last-step = λ h. differ ((h.steps 1 (omega arith)).only (one true) tt 0 (omega arith));
}
  where
    closed-shows : ShownBy 1 door_laws (one true) (one false) (one false) (one true)
    closed-shows = (tt, λ same. differ (same 0 (omega arith)))

water-examples : WaterExamples
water-examples = record {
  dry-is-state = (tt, (λ e. e, (tt, (tt, (tt, (tt, tt))))));
  wet-is-state = (tt, (λ e. refl, (tt, (tt, (tt, (tt, tt))))));
  wet-in-water-is-state = (tt, (λ e. refl, (tt, (tt, (tt, (tt, tt))))));
  dry-in-water = λ h. differ (sym (h.1.0 refl));
  put-in-water = record { satisfied = (refl, (refl, tt)); only = λ I all. of_two I (two true true) all.0 all.1.0 };
  stays-wet = record { satisfied = (refl, (refl, tt)); only = λ I all. of_two I (two false true) (negated (I 0) all.0) all.1.0 };
  wet-shows = wet-shows;
  dries = shown 2 water_laws (two false true) (one false) (two false false) (two false true) wet-shows;
  path-put-in-water = record {
    start = (tt, (λ e. e, (tt, (tt, (tt, (tt, tt))))));
    steps = λ t. elim t as (λ t. t < 1
        → Explained 2 water_laws (state_at 2 1 (2 ∷ 2 ∷ 1 ∷ 1 ∷ 1 ∷ []) t) (action_at 2 1 (2 ∷ 2 ∷ 1 ∷ 1 ∷ 1 ∷ []) t)
        (state_at 2 1 (2 ∷ 2 ∷ 1 ∷ 1 ∷ 1 ∷ []) (suc t))) [
          | zero ↦ λ b. record { satisfied = (refl, (refl, tt)); only = λ I all. of_two I _ all.0 all.1.0 }
          | suc t ↦ λ b. absurd (omega arith)
        ];
  };
  path-starts-dry-in-water = λ h. differ (sym (h.start.1.0 refl));
}
  where
    wet-shows : ShownBy 2 water_laws (two false true) (one false) (two false false) (two false true)
    wet-shows = ((refl, tt), λ same. differ (same 1 (omega arith)))

recipe-examples : RecipeExamples
recipe-examples = record {
  reflowed = record { satisfied = (refl, (refl, tt)); only = λ I all. of_two I (two false true) (negated (I 0) all.1.0) all.0 };
  reflowed-while-locked = λ h. differ (sym h.satisfied.1.0);
  nothing-shows = λ I all. differ (sym all.1.0);
}

pub meaning-holds : MeaningHolds
meaning-holds = record {
  caused = caused-examples;
  door = door-examples;
  water = water-examples;
  recipe = recipe-examples;
}
