-- What an accepted law's codes are below.
-- Assumes nothing.
use mathlib.Core.Path.{◌≡◌}
use mathlib.Core.Bool.{true, ◌&&◌}
use mathlib.Core.List.{List}
use Prim.Native.Nat.{ℕ, ◌+◌, ◌*◌, ◌<◌}
use lib.Dec.{ltb, leb}
use borrow.Author.Tests.{ltb-true}
use Rattle.basics.specs.Search.{Each}
use Rattle.basics.proofs.Tests.{and-iff, all-each, each_map}
use Rattle.action_language.specs.declared.Head.{Head}
use Rattle.action_language.specs.declared.Head.TheVariants.{Lit, False}
use Rattle.action_language.specs.declared.Kind.{Kind}
use Rattle.action_language.specs.declared.Kind.TheVariants.{Static, Dynamic}
use Rattle.action_language.specs.declared.Law.{Law}
use Rattle.action_language.specs.Laws.{if_list, after_list}
use Rattle.action_language.specs.Acceptance.{codes_below, head_fits, after_fits, law_fits}

abbrev pub CodesBelow : ℕ → List ℕ → Type 0
CodesBelow k cs = Each (λ c. c < k) cs

abbrev pub HeadBelow : ℕ → Head → Type 0
HeadBelow k (Lit c) = c < k
HeadBelow k False = Unit

-- a static law's after_list is not read
abbrev pub AfterBelow : ℕ → Kind → Law → Type 0
AfterBelow k Static l = Unit
AfterBelow k Dynamic l = CodesBelow k (after_list l)

pub record Fits (n m : ℕ) (l : Law) : Type 0 where
  pub head : HeadBelow (2 * n) l.head
  pub if-list : CodesBelow (2 * n) (if_list l)
  pub after_list : AfterBelow (2 * (n + m)) l.kind l

codes-below : (k : ℕ) (cs : List ℕ) → codes_below k cs ≡ true → CodesBelow k cs
codes-below k cs e = each_map (λ c t. ltb-true c k t) cs ((all-each (λ c. ltb c k) cs).0 e)

head-below : (n : ℕ) (h : Head) → head_fits n h ≡ true → HeadBelow (2 * n) h
head-below n (Lit c) e = ltb-true c (2 * n) e
head-below n False e = tt

after-below : (n m : ℕ) (k : Kind) (l : Law) → after_fits n m k l ≡ true → AfterBelow (2 * (n + m)) k l
after-below n m Static l e = tt
after-below n m Dynamic l e =
    codes-below (2 * (n + m)) (after_list l) ((and-iff (leb l.after_count 6) (codes_below (2 * (n + m)) (after_list l))).0 e).1

pub law-fits : (n m : ℕ) (l : Law) → law_fits n m l ≡ true → Fits n m l
law-fits n m l e =
    let (front, after) =
    (and-iff (head_fits n l.head && leb l.if_count 6 && codes_below (2 * n) (if_list l)) (after_fits n m l.kind l)).0 e in
    let (counts, ifs) = (and-iff (head_fits n l.head && leb l.if_count 6) (codes_below (2 * n) (if_list l))).0 front in
    record {
      head = head-below n l.head ((and-iff (head_fits n l.head) (leb l.if_count 6)).0 counts).0;
      if-list = codes-below (2 * n) (if_list l) ifs;
      after_list = after-below n m l.kind l after;
    }
