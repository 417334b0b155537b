-- `ReaderState::fluent_line` meets its contract: a name that passed its tests joins those declared.
-- Assumes nothing.
use mathlib.Core.Path.{◌≡◌, refl, sym, ◌∙◌}
use native.Mathlib.Omega.{arith}
use native.Mathlib.Numerals.{add-one}
use borrow.Author.Rules.{rules}
use lib.ListN.{length}
use Rattle.description_reader.specs.Internal.{draft_of}
use Rattle.description_reader.proofs.Naming.{named}
use Rattle.description_reader.proofs.states.ReaderState.fluent_line.Goals as goal

pub returns-clause-step : goal.returns-clause-step
returns-clause-step c =
    let s = c.args.self.now in
    let line = c.args.line.now in
    let size : length s.names.places ≡ 32 = search rules in
    rw (add-one s.fluents)
    (named line.text.now s.names line.place.start line.place.length (draft_of line.text.now s) refl _ _ _ (omega arith)
    (sym c.check_name.ensures.answers ∙ c.in_ok-check_name.was))
