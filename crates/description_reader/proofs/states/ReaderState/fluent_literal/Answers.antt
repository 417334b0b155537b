-- `ReaderState::fluent_literal` meets its contract: a literal's code fits in a byte.
-- Assumes nothing.
use native.Mathlib.Omega.{arith}
use Rattle.basics.proofs.Results.{at_place}
use Rattle.text_forms.specs.Names.{literal}
use Rattle.text.specs.Internal.{spelled}
use Rattle.text.proofs.Spelling.{literal-small}
use Rattle.description_reader.proofs.states.ReaderState.fluent_literal.Goals as goal

pub overflow_cast-result : goal.overflow_cast-result
overflow_cast-result c =
    let s = c.args.self.now in
    let names = spelled c.args.line.now.text.now s.names in
    let small = literal-small names 0 s.fluents c.value.result.now (omega (arith, s.few)) in
    omega (arith, rw (at_place {o = literal names 0 s.fluents c.value.result.now} c.literal.ensures c.in-Some.is) at small)
