-- What the reader's ending answers: the record; and what is read alone.
-- Assumes nothing.
use mathlib.Core.Path.{◌≡◌, sym, ap, ◌∙◌}
use mathlib.Core.List.{List}
use Prim.Native.Nat.{ℕ, ◌-◌}
use Rattle.std.specs.Prelude.{Result, Err}
use Rattle.basics.specs.declared.Refusal.{Refusal}
use Rattle.basics.specs.Refusals.{number_of, reply_by}
use Rattle.basics.specs.Replies.{Reply, refused, answered}
use Rattle.description_lines.specs.Descriptions.{Taken, read, described, description_of}
use Rattle.description_reader.specs.declared.declarations.Declarations.{Declarations}
use Rattle.description_reader.specs.Declarations.{declared_of, declarations}
use Rattle.description_reader.specs.declared.descriptions.Ending.{Ending}
use Rattle.description_reader.specs.Internal.{draft_of}
use Rattle.text.proofs.Spelling.{spelled-length}
use Rattle.description_reader.proofs.Walking.{counted}

-- the record of a description that was read
pub read-record : (text : List ℕ) (e : Ending)
    → record {
      fluents = e.state.fluents;
      actions = e.state.names.count - e.state.fluents;
      laws = e.state.count;
      horizon = e.state.horizon;
    }
    ≡ description_of (draft_of text e.state)
read-record text e = rw (spelled-length, counted text e.state)

-- a text that is refused where it is read alone
pub declared-refused : (text : List ℕ) {r : Result Declarations Refusal} {e : Refusal}
    → reply_by declared_of r ≡ declarations text (described 64 text) → r ≡ Err e
    → described 64 text ≡ refused (number_of e.reason) e.place
declared-refused text {r} {e} is was = go (described 64 text) (sym (ap (reply_by declared_of) was) ∙ is)
  where
    go : (o : Reply Taken) → refused (number_of e.reason) e.place ≡ declarations text o → o ≡ refused (number_of e.reason) e.place
    go (refused k p) q = let n : number_of e.reason ≡ k = cc in let m : e.place ≡ p = cc in rw (n, m)
    go (answered (read d rest lines)) q = cc
