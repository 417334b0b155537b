-- The spellings of the worked examples change letter case alone.
-- Assumes nothing.
use mathlib.Core.Path.{◌≡◌, refl}
use mathlib.Core.Bool.{Bool, true, false, cond, ◌&&◌}
use mathlib.Core.List.{List, [], ◌∷◌, map}
use Prim.Native.Nat.{ℕ, ◌-◌}
use native.Mathlib.Omega.{arith}
use borrow.Author.Tests.{leb-true}
use lib.Dec.{eqb, leb}
use Rattle.basics.proofs.Tests.{and-iff}
use Rattle.spelling.specs.Letters.{is_small}
use Rattle.letter_case.specs.Alike.{AlikeByte, equal, small, Alike}
use Rattle.letter_case.proofs.AlikeRuns.{alike_refl}
use Rattle.written_form.specs.Writing.{as_declared}
use Rattle.written_form.specs.Respelling.{InCapitals}
use Rattle.worked_examples.specs.Capitals.{raised, capitals_at}

pub declared : InCapitals as_declared
declared law line place name = alike_refl name

raised_byte : (b : ℕ) → AlikeByte b (raised b)
raised_byte b = go (is_small b) refl
  where
    go : (c : Bool) → is_small b ≡ c → AlikeByte b (cond c (b - 32) b)
    go true e =
        let (low, high) = (and-iff (leb 97 b) (leb b 122)).0 e in
        let from = leb-true 97 b low in
        let to = leb-true b 122 high in
        small (b - 97, omega arith, omega arith, omega arith)
    go false e = equal refl

raised-name : (xs : List ℕ) → Alike xs (map raised xs)
raised-name [] = tt
raised-name (x ∷ xs) = (raised_byte x, raised-name xs)

pub capitals-any : (law line place : ℕ) → InCapitals (capitals_at law line place)
capitals-any law line place i j k name = go (eqb i law && eqb j line && eqb k place)
  where
    go : (b : Bool) → Alike name (cond b (map raised name) name)
    go true = raised-name name
    go false = alike_refl name
