-- `choice` meets its contract: its eight words are copied.
-- Assumes nothing.
use mathlib.Core.List.{[], ◌∷◌}
use mathlib.Core.Path.{refl, ◌∙◌}
use native.Mathlib.Omega.{arith}
use borrow.Author.Tests.{lt-ltb}
use Rattle.logic_programs.specs.Words.{words}
use Rattle.translation_rules.specs.RuleForms.{choices}
use Rattle.translation.proofs.Writing.{copied}
use Rattle.translation.proofs.writers.Writer.choice.Goals as goal

pub returns : goal.returns
returns c =
    let writer = c.args.self.now in
    let ws = words (choices (c.args.atom ∷ [])) in
    let chosen = rw (lt-ltb c.args.atom 1024 c.requires.bound) at c.choice_words.ensures in
    record {
      same_table = refl;
      behind = refl;
      stored = copied writer.table.now writer.at _ _ ws (c.copy_from_slice.ensures.after ∙ chosen) (omega arith) (omega arith);
    }
