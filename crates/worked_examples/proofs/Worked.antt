-- Every worked example holds of the definitions.
-- Assumes nothing.
use mathlib.Core.List.{List, [], ◌∷◌}
use Rattle.basics.specs.Search.{Each}
use Rattle.basics.proofs.Tests.{each_append}
use Rattle.basics.proofs.Pairs.{◌&◌}
use Rattle.worked_examples.specs.Examples.{Example, Holds}
use Rattle.worked_examples.specs.Format.{reader_examples, line_examples, history_examples, long_examples}
use Rattle.worked_examples.specs.Short.{short_recipe_examples, short_examples}
use Rattle.worked_examples.specs.Log.{log_examples, caller_examples}
use Rattle.worked_examples.specs.Capitals.{style_examples, capital_examples}
use Rattle.worked_examples.specs.Worked.{worked, gathered, record_examples, largest_examples, engine_examples}
use Rattle.worked_examples.specs.Worked.{paper_examples, text_examples}
use Rattle.worked_examples.specs.Worked.{output_examples, code_examples}
use Rattle.worked_examples.specs.Formulas.{crate_formulas, crate_levels, formula_examples}
use Rattle.worked_examples.specs.Faults.{fault_examples}
use Rattle.worked_examples.specs.Cuts.{cut_examples, join_examples, apart_examples}
use Rattle.worked_examples.proofs.WorkedRecords.{record-examples, engine-examples, paper-examples}
use Rattle.worked_examples.proofs.WorkedCodes.{largest-examples, code-examples}
use Rattle.worked_examples.proofs.WorkedTexts.{text-examples}
use Rattle.worked_examples.proofs.WorkedFormat.{reader-examples, line-examples, history-examples}
use Rattle.worked_examples.proofs.WorkedLong.{long-examples}
use Rattle.worked_examples.proofs.WorkedShort.{short-recipe, short-examples}
use Rattle.worked_examples.proofs.WorkedLog.{log-examples, caller-examples}
use Rattle.worked_examples.proofs.WorkedCapitals.{style-examples, capital-examples}
use Rattle.worked_examples.proofs.WorkedFormulas.{crate-formulas, crate-levels, formula-examples}
use Rattle.worked_examples.proofs.WorkedFaults.{fault-examples}
use Rattle.worked_examples.proofs.WorkedCuts.{cut-examples, join-examples, apart-examples}
use Rattle.worked_examples.proofs.WorkedOutputs.{output-examples}

all_hold : (ess : List (List Example)) → Each (λ es. Each Holds es) ess → Each Holds (gathered ess)
all_hold [] h = tt
all_hold (es ∷ ess) h = (each_append Holds es (gathered ess)).1 (h.0, all_hold ess h.1)

pub worked-examples : Each Holds worked
worked-examples =
    all_hold
    (record_examples ∷ largest_examples ∷ engine_examples ∷ paper_examples ∷ text_examples ∷ reader_examples ∷ line_examples
    ∷ history_examples ∷ long_examples ∷ output_examples ∷ short_recipe_examples ∷ short_examples ∷ log_examples
    ∷ caller_examples ∷ style_examples ∷ capital_examples ∷ code_examples ∷ crate_formulas ∷ crate_levels
    ∷ formula_examples ∷ fault_examples ∷ cut_examples ∷ join_examples ∷ apart_examples ∷ [])
    (record-examples & largest-examples & engine-examples & paper-examples & text-examples & reader-examples
    & line-examples & history-examples & long-examples & output-examples & short-recipe & short-examples
    & log-examples & caller-examples & style-examples & capital-examples & code-examples & crate-formulas
    & crate-levels & formula-examples & fault-examples & cut-examples & join-examples & apart-examples & tt)
