-- What the writers' loops share: words stored turn by turn.
-- Assumes nothing.
use mathlib.Core.Path.{◌≡◌}
use mathlib.Core.List.{List, [], ◌∷◌, ◌++◌}
use Prim.Native.Nat.{ℕ, suc, ◌+◌, ◌-◌, ◌≤◌, ◌<◌}
use native.Mathlib.Numerals.{add-one}
use native.Mathlib.Omega.{arith}
use lib.ListN.{length, get_or, drop, drop_of_length-le}
use lib.Seq.{drop-cons}
use Rattle.translation.specs.declared.writers.Writer.{Writer}
use Rattle.translation.specs.Writers.{Wrote}
use Rattle.translation.proofs.Writing.{Left, Split, begun, wrote, room}

-- the words that turn i stores, and those left before it: none from turn k on
pub record Turns (Goes : ℕ → Type 0) (k : ℕ) : Type 0 where
  pub first : ℕ → List ℕ
  pub left : ℕ → List ℕ
  pub next : (i : ℕ) → Goes i → left i ≡ first i ++ left (i + 1)
  pub done : (i : ℕ) → k ≤ i → left i ≡ []

-- turns told by how many are left
abbrev pub counted : (f : ℕ → ℕ → List ℕ) (first : ℕ → List ℕ) → ((i : ℕ) → f i 0 ≡ [])
    → ((i j : ℕ) → f i (suc j) ≡ first i ++ f (suc i) j) → (k : ℕ) → Turns (λ i. i < k) k
counted f first none more k =
    record {
      first = first;
      left = λ i. f i (k - i);
      next = λ i h. let e : k - i ≡ suc (k - (i + 1)) = omega arith in rw (e, add-one i) (more i (k - suc i));
      done = λ i h. let e : k - i ≡ 0 = omega arith in rw e (none i);
    }

-- turns that store the words of a list one by one
abbrev pub one_by_one : (ws : List ℕ) → Turns (λ i. i < length ws) (length ws)
one_by_one ws =
    record {
      first = λ i. get_or ws i 0 ∷ [];
      left = λ i. drop i ws;
      next = λ i h. rw add-one (drop-cons ws i 0 h);
      done = λ i h. drop_of_length-le ws h;
    }

-- what a loop of turns keeps before turn i
pub record Before {Goes : ℕ → Type 0} {k : ℕ} (turns : Turns Goes k) (i : ℕ) (now old : Writer) (ws₀ : List ℕ) : Type 0 where
  pub rest : Left now (turns.left i) old ws₀

pub starts : {Goes : ℕ → Type 0} {k : ℕ} (turns : Turns Goes k) (i : ℕ) (now : Writer) (ws₀ : List ℕ) → turns.left i ≡ ws₀
    → Before turns i now now ws₀
starts turns i now ws₀ e = record { rest = begun now (turns.left i) ws₀ e }

module _ {Goes : ℕ → Type 0} {k : ℕ} {turns : Turns Goes k} {i : ℕ} {now old : Writer} {ws₀ : List ℕ}
    (inv : Before turns i now old ws₀) where
  -- the turn's words come first of those left
  abbrev here : Goes i → Split (turns.left i)
  here h = record { first = turns.first i; rest = turns.left (i + 1); whole = turns.next i h }

  -- there is room for what the turn stores
  pub fits : Goes i → old.at + length ws₀ ≤ length old.table.now → now.at + length (turns.first i) ≤ length now.table.now
  fits h = room inv.rest (here h)

  -- the turn has stored it
  pub turned : Goes i → {next : Writer} → Wrote (turns.first i) now next → Before turns (i + 1) next old ws₀
  turned h w = record { rest = wrote inv.rest (here h) w }
