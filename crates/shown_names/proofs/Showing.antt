-- The part of a text that is shown for a number: its bytes and where it begins.
-- Assumes nothing.
use mathlib.Core.Path.{◌≡◌, refl, sym, ap, ◌∙◌}
use mathlib.Core.List.{List, []}
use Prim.Native.Nat.{ℕ, suc, ◌+◌, ◌≤◌, ◌<◌}
use native.Mathlib.Numerals.{add-one}
use borrow.Author.Tests.{lt-ltb, le-ltb}
use denote.Ref.{Bor}
use lib.ListN.{length, get_or, get_or-eq_default}
use Rattle.basics.specs.Replies.{refused, answered}
use Rattle.text_forms.specs.Places.{value_of_line, start_of_value, LiesAt}
use Rattle.text.proofs.Placing.{line-value}
use Rattle.description_lines.specs.LineSteps.{Draft}
use Rattle.description_lines.specs.Descriptions.{read, described}
use Rattle.shown_names.specs.Shown.{shown_fluent, shown_action, shown_fluent_start, shown_action_start}
use Rattle.shown_names.proofs.Declaring.{declared-at}

module _ (text : List ℕ) (i : ℕ) where
  -- what is shown is some bytes that begin at some place
  abbrev pub FluentPart : List ℕ → ℕ → Type 0
  FluentPart bytes start = (shown_fluent text i ≡ bytes) × (shown_fluent_start text i ≡ start)

  abbrev pub ActionPart : List ℕ → ℕ → Type 0
  ActionPart bytes start = (shown_action text i ≡ bytes) × (shown_action_start text i ≡ start)

  -- a text that is refused
  module _ {k place : ℕ} (is : described 64 text ≡ refused k place) where
    pub fluent-refused : FluentPart [] 0
    unfolding shown_fluent shown_fluent_start
    fluent-refused = rw is (refl, refl)

    pub action-refused : ActionPart [] 0
    unfolding shown_action shown_action_start
    action-refused = rw is (refl, refl)

  -- a text that is read
  module _ {d : Draft} {rest : List ℕ} {lines : ℕ} (is : described 64 text ≡ answered (read d rest lines)) where
    pub fluent-shown : i < d.fluents → FluentPart (get_or d.names i []) (start_of_value (suc i) text)
    unfolding shown_fluent shown_fluent_start
    fluent-shown h = rw (is, lt-ltb i d.fluents h) (refl, refl)

    pub fluent-past : d.fluents ≤ i → FluentPart [] 0
    unfolding shown_fluent shown_fluent_start
    fluent-past h = rw (is, le-ltb i d.fluents h) (refl, refl)

    pub action-shown : d.fluents + i < length d.names
        → ActionPart (get_or d.names (d.fluents + i) []) (start_of_value (suc (d.fluents + i)) text)
    unfolding shown_action shown_action_start
    action-shown h = rw (is, lt-ltb (d.fluents + i) (length d.names) h) (refl, refl)

    pub action-past : length d.names ≤ d.fluents + i → ActionPart [] 0
    unfolding shown_action shown_action_start
    action-past h = rw (is, le-ltb (d.fluents + i) (length d.names) h) (get_or-eq_default d.names [] {n = d.fluents + i} h, refl)

-- a reference to that part
module _ (text r : Bor (List ℕ)) where
  -- the value of the line behind the horizon's that stands at the name's place
  pub value-shown : (d : Draft) (rest : List ℕ) (lines : ℕ) → described 64 text.now ≡ answered (read d rest lines)
      → (i : ℕ) → i < length d.names
      → (r.now ≡ value_of_line (i + 1) text.now) × LiesAt (start_of_value (i + 1) text.now) text r
      → (r.now ≡ get_or d.names i []) × LiesAt (start_of_value (suc i) text.now) text r
  value-shown d rest lines is i below gives =
      let there = declared-at text.now 64 d rest lines is i below in (
        gives.0 ∙ ap (λ n. value_of_line n text.now) (add-one i) ∙ line-value (suc i) text.now there.line there.is ∙ there.value,
        gives.1 ∙ ap {B = ℕ × ℕ} (λ n. (text.ref_ptr.0, start_of_value n text.now + text.ref_ptr.1)) (add-one i),
      )

  -- it is what is shown
  pub shown-as : {bytes shown : List ℕ} {start begins : ℕ} → (shown ≡ bytes) × (begins ≡ start)
      → (r.now ≡ bytes) × LiesAt start text r → (r.now ≡ shown) × LiesAt begins text r
  shown-as part lies = (
    lies.0 ∙ sym part.0,
    lies.1 ∙ ap {B = ℕ × ℕ} (λ k. (text.ref_ptr.0, k + text.ref_ptr.1)) (sym part.1),
  )
