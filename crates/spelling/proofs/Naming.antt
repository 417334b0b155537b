-- What a name keeps to.
-- Assumes nothing.
use mathlib.Core.Path.{◌≡◌}
use mathlib.Core.Bool.{true, false, not, ◌&&◌}
use mathlib.Core.List.{List}
use Prim.Native.Nat.{ℕ, ◌≤◌}
use borrow.Author.Tests.{leb-true, not-true}
use lib.Dec.{leb}
use lib.ListN.{length}
use Rattle.basics.specs.Search.{all, Each}
use Rattle.basics.proofs.Tests.{and-iff, all-each}
use Rattle.spelling.specs.Letters.{is_name_byte}
use Rattle.spelling.specs.Spelling.{same_name, false_bytes, starts_with_letter, is_name}

pub record Named (bs : List ℕ) : Type 0 where
  pub starts : starts_with_letter bs ≡ true
  pub short : length bs ≤ 16
  pub bytes : Each (λ b. is_name_byte b ≡ true) bs
  pub not-false : same_name bs false_bytes ≡ false

pub named : (bs : List ℕ) → is_name bs ≡ true → Named bs
unfolding is_name
named bs e =
    let (front, other) =
    (and-iff (starts_with_letter bs && leb (length bs) 16 && all is_name_byte bs) (not (same_name bs false_bytes))).0 e in
    let (counted, bytes) = (and-iff (starts_with_letter bs && leb (length bs) 16) (all is_name_byte bs)).0 front in
    let (starts, short) = (and-iff (starts_with_letter bs) (leb (length bs) 16)).0 counted in
    record {
      starts = starts;
      short = leb-true (length bs) 16 short;
      bytes = (all-each is_name_byte bs).0 bytes;
      not-false = not-true (same_name bs false_bytes) other;
    }
