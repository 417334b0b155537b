-- Which descriptions can be written and read back (Writing), and what the reader is then left with.
-- Assumes nothing.
use Rattle.std.specs.Prelude.{◌≡◌, true, false, List, [], ◌∷◌, ◌++◌, ℕ, suc, ◌+◌, ◌≤◌, length}
use Rattle.basics.specs.Search.{Each}
use Rattle.action_language.specs.declared.Kind.{Kind}
use Rattle.action_language.specs.declared.Kind.TheVariants.{Static, Dynamic}
use Rattle.action_language.specs.declared.Law.{Law}
use Rattle.action_language.specs.Acceptance.{law_fits}
use Rattle.spelling.specs.Spelling.{same_name, is_name}
use Rattle.description_lines.specs.LineSteps.{Draft}
use Rattle.reader_bounds.specs.Accepts.{Tidy}
use Rattle.written_form.specs.Writing.{Form, in_full, as_default, as_inertial, as_causes, as_nonexecutable, written_as}

abbrev pub AreNames : List (List ℕ) → Type 0
AreNames xs = Each (λ x. is_name x ≡ true) xs

-- no name is the same as an earlier one, in any mix of capitals
abbrev pub Distinct : List (List ℕ) → Type 0
Distinct [] = Unit
Distinct (x ∷ xs) = Each (λ y. same_name y x ≡ false) xs × Distinct xs

pub record Writable (lent T : ℕ) (fluents actions : List (List ℕ)) (ls : List Law) : Type 0 where
  pub horizon-from : 1 ≤ T
  pub horizon-to : T ≤ 30
  pub some-fluent : 1 ≤ length fluents
  pub few-fluents : length fluents ≤ 24
  pub few-actions : length actions ≤ 8
  pub are-names : AreNames (fluents ++ actions)
  pub distinct : Distinct (fluents ++ actions)
  pub few-laws : length ls ≤ 64
  pub held-laws : length ls ≤ lent
  pub laws-fit : Each (λ l. law_fits (length fluents) (length actions) l ≡ true) ls
  pub laws-tidy : Each Tidy ls

-- how many lines are written, by the form
abbrev pub form_lines : Form → Kind → ℕ
form_lines in_full Static = 2
form_lines in_full Dynamic = 3
form_lines as_default kind = 1
form_lines as_inertial kind = 1
form_lines as_causes kind = 2
form_lines as_nonexecutable kind = 1

abbrev pub law_lines : Form → Law → ℕ
law_lines form l = form_lines (written_as form l) l.kind

abbrev pub laws_lines : (ℕ → Form) → ℕ → List Law → ℕ
laws_lines forms i [] = 0
laws_lines forms i (l ∷ ls) = law_lines (forms i) l + laws_lines forms (suc i) ls

abbrev pub lines_written : List (List ℕ) → List (List ℕ) → (ℕ → Form) → List Law → ℕ
lines_written fluents actions forms ls = 1 + length fluents + length actions + laws_lines forms 0 ls + 1

abbrev pub draft : ℕ → ℕ → List (List ℕ) → List Law → Draft
draft T fluents names laws = record { horizon = T; fluents = fluents; names = names; laws = laws }

abbrev pub draft_written : ℕ → List (List ℕ) → List (List ℕ) → List Law → Draft
draft_written T fluents actions ls = draft T (length fluents) (fluents ++ actions) ls
