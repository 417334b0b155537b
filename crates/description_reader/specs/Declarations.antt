-- What a description's text declares, read where no law run counts: the horizon, how many of the names are fluents, and where each
-- name stands.
-- Assumes nothing.
use Rattle.std.specs.Prelude.{List, ℕ}
use Rattle.basics.specs.Replies.{Reply, refused, answered}
use Rattle.text_forms.specs.declared.Names.{Names}
use Rattle.text_forms.specs.NamePlaces.{names_in}
use Rattle.description_reader.specs.declared.declarations.Declarations.{Declarations}
use Rattle.description_lines.specs.Descriptions.{Taken, read}

-- the same without the limits that the code's record keeps to
pub record Declared : Type 0 where
  pub lines : ℕ
  pub horizon : ℕ
  pub fluents : ℕ
  pub names : Names

abbrev pub declared_of : Declarations → Declared
declared_of r = record { lines = r.lines; horizon = r.horizon; fluents = r.fluents; names = r.names }

-- a refused text declares nothing
abbrev pub declarations : List ℕ → Reply Taken → Reply Declared
declarations text (refused number place) = refused number place
declarations text (answered (read d rest lines)) =
    answered (record { lines = lines; horizon = d.horizon; fluents = d.fluents; names = names_in lines text })
