-- Nine lines, one behind the other, are the counts, the verdict's lines and the causal verdict's.
-- Assumes nothing.
use mathlib.Core.Path.{◌≡◌}
use mathlib.Core.List.{List, [], ◌++◌, append_assoc, append-nil}
use Prim.Native.Nat.{ℕ}

pub nine-lines : (h a r w n p c t i v k : List ℕ) → n ++ p ≡ v → c ++ t ++ i ≡ k
    → h ++ (a ++ (r ++ (w ++ (n ++ (p ++ (c ++ (t ++ (i ++ [])))))))) ≡ h ++ a ++ r ++ w ++ (v ++ k)
nine-lines h a r w n p c t i v k e f = rw (← e, ← f) (simp (append_assoc, append-nil))
