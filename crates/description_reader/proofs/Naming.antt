-- A name that joins those declared, and the names that the lines read declare.
-- Assumes nothing.
use mathlib.Core.Path.{◌≡◌, refl, ap, ◌∙◌}
use mathlib.Core.Bool.{Bool, true, false, cond}
use mathlib.Core.List.{List}
use Prim.Native.Nat.{ℕ, ◌+◌, ◌-◌, ◌<◌}
use native.Mathlib.Numerals.{add-one}
use native.Mathlib.Omega.{arith}
use lib.ListN.{length, take, drop, length-take, length-drop}
use Rattle.std.specs.Prelude.{Some, Result, Ok, Err}
use Rattle.basics.specs.declared.Reason.{Reason}
use Rattle.basics.specs.declared.Reason.TheVariants.{BadName, NoRoom}
use Rattle.text_forms.specs.declared.Key.{Key}
use Rattle.text_forms.specs.declared.LineAt.{LineAt}
use Rattle.text_forms.specs.declared.Names.{Names}
use Rattle.text_forms.specs.Keys.{number_of_key, number_or}
use Rattle.text_forms.proofs.Keys.{key_below}
use Rattle.text_forms.specs.Lines.{no_key}
use Rattle.text_forms.specs.Names.{is_new}
use Rattle.text_forms.specs.Places.{line_size, start_of_line, line_at}
use Rattle.text_forms.specs.NamePlaces.{with_name, declares_name, joined, joined_by, names_in}
use Rattle.text.specs.Internal.{spelled}
use Rattle.text.proofs.Placing.{line-fits}
use Rattle.text.proofs.Spelling.{spelled-more}
use Rattle.description_lines.specs.LineSteps.{Due, Draft, next, name_line}

-- a name that passed its tests joins those declared
module _ (text : List ℕ) (names : Names) (start size : ℕ) (d : Draft) (of : d.names ≡ spelled text names) where
  abbrev value : List ℕ
  value = take size (drop start text)

  abbrev tests : Bool → Bool → Result Unit Reason
  tests fits new = cond fits (cond new (Ok tt) (Err BadName)) (Err NoRoom)

  pub named : (fits : Bool) (due : Due) (fluents : ℕ) → names.count < length names.places
      → tests fits (is_new (spelled text names) value) ≡ Ok tt
      → next due
      (record { horizon = d.horizon; fluents = fluents; names = spelled text (with_name names start size); laws = d.laws })
      ≡ name_line fits due fluents d value
  named fits due fluents room passed = go fits (is_new (spelled text names) value) refl passed
    where
      more : Draft
      more = record { horizon = d.horizon; fluents = fluents; names = spelled text (with_name names start size); laws = d.laws }

      go : (b n : Bool) → is_new (spelled text names) value ≡ n → tests b n ≡ Ok tt → next due more ≡ name_line b due fluents d value
      go true true e h = rw (of, e, spelled-more text names start size room)
      go true false e h = cc
      go false n e h = cc

-- a line with a key, behind so many others, and the names behind it
pub record Placed (text : List ℕ) (at lines : ℕ) (l : LineAt) (key : Key) : Type 0 where
  pub starts : at ≡ start_of_line lines text
  pub is : l ≡ line_at text at
  pub keyed : l.key ≡ Some key

pub placed-by : {text : List ℕ} {at lines : ℕ} {l : LineAt} {key : Key} → at ≡ start_of_line lines text → l ≡ line_at text at
    → l.key ≡ Some key → Placed text at lines l key
placed-by starts is keyed = record { starts = starts; is = is; keyed = keyed }

module _ {text : List ℕ} {at lines : ℕ} {l : LineAt} {key : Key} (p : Placed text at lines l key) where
  below : number_or l.key < no_key
  below = rw p.keyed (key_below key)

  pub placed-later : at < l.next
  placed-later = (line-fits text at p.is).later below

  pub placed-start : l.next ≡ start_of_line (lines + 1) text
  placed-start =
      rw (add-one lines) ((line-fits text at p.is).ends below ∙ ap (λ k. k + line_size (drop k text)) p.starts)

  pub placed-names : {old new : Names} → old ≡ names_in lines text
      → new ≡ joined (declares_name (number_of_key key)) l.from (length (take (l.to - l.from) (drop l.from text))) old
      → new ≡ names_in (lines + 1) text
  placed-names {old} {new} places e =
      let f = line-fits text at p.is in
      let size : length (take (l.to - l.from) (drop l.from text)) ≡ l.to - l.from =
      omega (arith, length-take (l.to - l.from) (drop l.from text), length-drop l.from text, f.ordered, f.inside) in
      let number : number_of_key key ≡ number_or l.key = rw p.keyed refl in
      rw (add-one lines)
      (e
      ∙ ap (λ n. joined (declares_name (number_of_key key)) l.from n old) size
      ∙ ap (λ k. joined (declares_name k) l.from (l.to - l.from) old) number
      ∙ ap (joined_by l) places
      ∙ ap (λ k. joined_by k (names_in lines text)) (p.is ∙ ap (line_at text) p.starts))
