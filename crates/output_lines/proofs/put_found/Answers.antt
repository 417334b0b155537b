-- Nine lines, one behind the other, are the counts, the verdict and the causal verdict.
-- Assumes nothing.
use mathlib.Core.Path.{subst}
use mathlib.Core.List.{List}
use Prim.Native.Nat.{ℕ}
use Rattle.printed_lines.specs.Writing.{output_line, decimal, horizon_word, atoms_word, rules_word, words_word}
use Rattle.printed_lines.specs.Writing.{answer_word, at_word, causal_word, time_word, item_word}
use Rattle.printed_lines.proofs.Stores.{Wrote}
use Rattle.output_lines.specs.Internal.{word_bytes, value_bytes}
use Rattle.output_lines.proofs.Lines.{nine-lines}
use Rattle.output_lines.proofs.put_found.Goals as goal

pub returns-clause-fact : goal.returns-clause-fact
returns-clause-fact c =
    let n = c.args.counts in
    let i = c.args.input.now in
    let v = c.verdict_of-verdict.result in
    let k = c.causal_after-causal.result in
    subst (λ (ws : List ℕ). Wrote c.args.out.now 0 ws c.put_lines.new.out c.put_lines.result)
    (nine-lines (output_line horizon_word (decimal n.horizon)) (output_line atoms_word (decimal n.atoms))
    (output_line rules_word (decimal n.rules)) (output_line words_word (decimal n.words))
    (output_line answer_word (word_bytes v.answer)) (output_line at_word (value_bytes i v.at))
    (output_line causal_word (word_bytes k.causal)) (output_line time_word (value_bytes i k.time))
    (output_line item_word (value_bytes i k.item)) _ _
    (c.verdict_of-verdict.ensures i) (c.causal_after-causal.ensures i))
    c.put_lines.ensures.fact
