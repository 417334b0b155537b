-- A pair, written so that a long list of proofs stands on lines of one depth: `a & b & c & tt` is `(a, (b, (c, tt)))`.
infixr 20 ◌&◌
pub ◌&◌ : {A B : Type 0} → A → B → A × B
a & b = (a, b)
