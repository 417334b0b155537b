-- What a description that can be written keeps to.
-- Assumes nothing.
use mathlib.Core.Path.{◌≡◌, refl}
use mathlib.Core.Bool.{true}
use mathlib.Core.List.{List, ◌++◌}
use Prim.Native.Nat.{ℕ, ◌+◌, ◌*◌, ◌≤◌}
use native.Mathlib.Omega.{arith}
use lib.ListN.{length, length-take, length-append}
use Rattle.basics.specs.Search.{Each}
use Rattle.basics.proofs.Tests.{each_map}
use Rattle.action_language.specs.declared.Kind.{Kind}
use Rattle.action_language.specs.declared.Kind.TheVariants.{Static, Dynamic}
use Rattle.action_language.specs.declared.Law.{Law}
use Rattle.action_language.specs.Laws.{if_list}
use Rattle.action_language.specs.Acceptance.{law_fits}
use Rattle.action_language.proofs.Laws.{fits-if, fits_after}
use Rattle.action_language.proofs.Fits.{CodesBelow, HeadBelow, AfterBelow, law-fits}
use Rattle.reader_bounds.specs.Accepts.{afters_of}
use Rattle.written_form.specs.Writable.{Writable}

-- a law within the limits, n fluents among all names
pub record Bounded (n names : ℕ) (l : Law) : Type 0 where
  pub head : HeadBelow (2 * n) l.head
  pub ifs : CodesBelow (2 * n) (if_list l)
  pub few-ifs : length (if_list l) ≤ 6
  pub afters : CodesBelow (2 * names) (afters_of l.kind l)
  pub few-afters : length (afters_of l.kind l) ≤ 6

afters-below : (n m : ℕ) (l : Law) (k : Kind) → AfterBelow (2 * (n + m)) k l → CodesBelow (2 * (n + m)) (afters_of k l)
afters-below n m l Static h = tt
afters-below n m l Dynamic h = h

pub bounded : (n m : ℕ) (l : Law) → law_fits n m l ≡ true → Bounded n (n + m) l
bounded n m l e =
    let fits = law-fits n m l e in
    record {
      head = fits.head;
      ifs = fits.if-list;
      few-ifs = omega (arith, length-take l.if_count l.if_codes, (fits-if n m l e).0);
      afters = afters-below n m l l.kind fits.after_list;
      few-afters = few l.kind refl;
    }
  where
    few : (k : Kind) → l.kind ≡ k → length (afters_of k l) ≤ 6
    few Static q = omega arith
    few Dynamic q = omega (arith, length-take l.after_count l.after_codes, (fits_after n m l e q).0)

pub written-laws : (lent T : ℕ) (fluents actions : List (List ℕ)) (ls : List Law) → Writable lent T fluents actions ls
    → Each (Bounded (length fluents) (length (fluents ++ actions))) ls
written-laws lent T fluents actions ls w =
    rw (length-append fluents actions) (each_map (λ l e. bounded (length fluents) (length actions) l e) ls w.laws-fit)
