-- What differs in letter case alone is read alike, or refused alike, by any declared names in any mix of capitals (02, §3).
-- Assumes nothing.
use Rattle.std.specs.Prelude.{◌≡◌, ◌↔◌, Bool, true, ◌||◌, List, ℕ, eqb}
use Rattle.spelling.specs.Spelling.{same_name}
use Rattle.text_forms.specs.Lines.{if_key, after_key, state_key, act_key, by_key}
use Rattle.text_forms.specs.Names.{is_new, literal}
use Rattle.text_forms.specs.Lists.{list_of}
use Rattle.description_lines.specs.LineSteps.{Due, Draft, starts_law, read_head, line_step}
use Rattle.letter_case.specs.Alike.{Alike, AlikeNames}

-- the keys of the lines that use names: heads, literals and lists, in descriptions and histories
abbrev pub uses_names : ℕ → Bool
uses_names k = starts_law k || eqb k if_key || eqb k after_key || eqb k by_key || eqb k state_key || eqb k act_key

pub record LetterCase : Type 0 where
  -- two names are the same to the reader exactly if they differ in letter case alone
  pub same-name : (xs ys : List ℕ) → same_name xs ys ≡ true ↔ Alike xs ys
  -- a name is new, or it is no name or declared before
  pub declarations : (names names' : List (List ℕ)) → AlikeNames names names' → (xs ys : List ℕ) → Alike xs ys
      → is_new names xs ≡ is_new names' ys
  pub literals : (low high : ℕ) (names names' : List (List ℕ)) → AlikeNames names names' → (xs ys : List ℕ) → Alike xs ys
      → literal names low high xs ≡ literal names' low high ys
  pub heads : (fluents : ℕ) (names names' : List (List ℕ)) → AlikeNames names names' → (xs ys : List ℕ) → Alike xs ys
      → read_head names fluents xs ≡ read_head names' fluents ys
  pub lists : (low high most : ℕ) (names names' : List (List ℕ)) → AlikeNames names names' → (xs ys : List ℕ) → Alike xs ys
      → list_of names low high most xs ≡ list_of names' low high most ys
  -- a line of a description that uses names, wherever the reader is
  pub lines : (lent : ℕ) (due : Due) (d : Draft) (key : ℕ) → uses_names key ≡ true → (xs ys : List ℕ) → Alike xs ys
      → line_step lent due d key xs ≡ line_step lent due d key ys
