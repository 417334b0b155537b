-- `are_name_bytes` meets its contract: the library's search over the bytes, by the test that the closure makes.
-- Assumes nothing.
use mathlib.Core.Bool.{◌||◌}
use Rattle.std.proofs.Common.{rules, tests, ◌≡◌, ◌∙◌, eqb}
use Rattle.std.proofs.lemmas.Iterator.{YieldsList-from_slice}
use Rattle.std.proofs.lemmas.Iterator.Search.{all_from_yields_List}
use Rattle.std.specs.Char.{is_ascii_alphanumeric}
use Rattle.basics.proofs.Results.{list_all_all}
use Rattle.spelling.specs.Letters.{is_name_byte}
use Rattle.spelling.proofs.Library.{name-byte}
use Rattle.spelling.proofs.are_name_bytes.Goals as goal

pub returns : goal.returns
returns c =
    all_from_yields_List is_name_byte _ _ _ c.all.ensures.ran (YieldsList-from_slice c.args.bytes.now cc)
    (λ x b q k.
    let tested : (q ≡ record {}) × (b ≡ (is_ascii_alphanumeric x.now || eqb x.now 95)) = search (rules, tests) in
    (tested.0, tested.1 ∙ name-byte x.now))
    ∙ list_all_all is_name_byte c.args.bytes.now
