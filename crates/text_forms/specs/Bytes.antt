-- Bytes that the format names, and how a run of bytes is cut at one of them.
-- Assumes nothing.
use Rattle.std.specs.Prelude.{List, ℕ, suc, eqb, take, drop}
use Rattle.std.proofs.Math.Option.{Option, none, some}
use Rattle.basics.specs.Search.{first}

abbrev pub newline : ℕ
newline = 10

abbrev pub comma : ℕ
comma = 44

abbrev pub hyphen : ℕ
hyphen = 45

abbrev pub equals_sign : ℕ
equals_sign = 61

-- a run cut at the first byte b: what stands before it and what behind it
pub record Cut : Type 0 where
  pub front : List ℕ
  pub back : List ℕ

abbrev pub cut_at : List ℕ → Option ℕ → Option Cut
cut_at bs none = none
cut_at bs (some i) = some (record { front = take i bs; back = drop (suc i) bs })

unfoldable pub cut : ℕ → List ℕ → Option Cut
cut b bs = cut_at bs (first (eqb b) 0 bs)
