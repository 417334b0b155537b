-- `descriptions::read_lines` meets its contract. The invariant of the loop over lines: the lines left come to what the text comes to;
-- of the loop over a list's items: the items left come to what the list comes to.
-- Assumes nothing.
use mathlib.Core.Path.{◌≡◌}
use mathlib.Core.List.{[]}
use Prim.Native.Nat.{◌+◌, ◌-◌, ◌≤◌}
use lib.ListN.{length}
use Rattle.text_forms.specs.Lists.{list_from}
use Rattle.text_forms.specs.Places.{start_of_line}
use Rattle.text_forms.specs.NamePlaces.{names_in}
use Rattle.text.specs.Internal.{spelled, items_at}
use Rattle.description_lines.specs.Descriptions.{described}
use Rattle.description_reader.specs.Internal.{codes_in, draft_of, goes_on}
use Rattle.description_reader.proofs.Walking.{left}
use Rattle.description_reader.proofs.descriptions.read_lines.Given as goal

abbrev pub invariant-loop-i : goal.invariant-loop-i
invariant-loop-i l = record {
  inside : l.i ≤ length l.list + 1;
  items : list_from (spelled l.text l.state.names) 0 l.high 6 (codes_in l.gathered) (items_at l.list l.i)
      ≡ list_from (spelled l.text l.state.names) 0 l.high 6 [] (items_at l.list l.initial.i);
}

abbrev pub decreases-loop-i : goal.decreases-loop-i
decreases-loop-i l = length l.list + 1 - l.i

abbrev pub invariant-lines : goal.invariant-lines
invariant-lines l = record {
  within : l.at ≤ length l.text;
  few : l.line ≤ l.at;
  starts : l.at ≡ start_of_line l.line l.text;
  names : l.state.names ≡ names_in l.line l.text;
  lent : l.state.lent ≡ l.fn.lent;
  lines : left l.text l.fn.lent (goes_on l.state.due (draft_of l.text l.state)) l.at l.line ≡ described l.fn.lent l.text;
}

abbrev pub decreases-lines : goal.decreases-lines
decreases-lines l = length l.text - l.at
