-- `write_table` meets its contract. Four passes, each of which leaves the words of those behind it.
-- Assumes nothing.
use mathlib.Core.List.{List, [], ◌++◌}
use mathlib.Core.Path.{refl, sym, ◌∙◌}
use Prim.Native.Nat.{ℕ}
use native.Mathlib.Omega.{arith}
use Rattle.std.proofs.Common.{rules}
use Rattle.action_language.specs.declared.Law.{Law}
use Rattle.action_language.specs.declared.Description.{Description}
use Rattle.action_language.specs.Laws.{laws_of}
use Rattle.translation_rules.specs.Translated.{table_for}
use Rattle.translation.specs.declared.writers.Writer.{Writer}
use Rattle.translation.specs.Writers.{Wrote}
use Rattle.translation.proofs.Writing.{Left, front, last, begun, wrote, room, ended, static_words}
use Rattle.translation.proofs.Writing.{dynamic_words, fluent_words, action_words, passes, sets-front}
use Rattle.translation.proofs.writers.write_table.Goals as goal

module _ (d : Description) (laws : List Law) where
  -- the words of each pass, and of all that come after a pass
  abbrev static : List ℕ
  static = static_words d.fluents d.actions d.horizon (laws_of d laws)

  abbrev dynamic : List ℕ
  dynamic = dynamic_words d.fluents d.actions d.horizon (laws_of d laws)

  abbrev fluents : List ℕ
  fluents = fluent_words d.fluents d.actions d.horizon (laws_of d laws)

  abbrev actions : List ℕ
  actions = action_words d.fluents d.actions d.horizon (laws_of d laws)

  -- what is left before the first pass, and behind each
  module _ (start : Writer) where
    abbrev Remains : Writer → List ℕ → Type 0
    Remains now ws = Left now ws start (table_for d laws)

    left₀ : Remains start (static ++ (dynamic ++ (fluents ++ actions)))
    left₀ = begun start _ _ (sym (passes d.fluents d.actions d.horizon (laws_of d laws)))

    left₁ : (w₁ : Writer) → Wrote static start w₁ → Remains w₁ (dynamic ++ (fluents ++ actions))
    left₁ w₁ e₁ = wrote left₀ (front static (dynamic ++ (fluents ++ actions))) e₁

    left₂ : (w₁ w₂ : Writer) → Wrote static start w₁ → Wrote dynamic w₁ w₂ → Remains w₂ (fluents ++ actions)
    left₂ w₁ w₂ e₁ e₂ = wrote (left₁ w₁ e₁) (front dynamic (fluents ++ actions)) e₂

    left₃ : (w₁ w₂ w₃ : Writer) → Wrote static start w₁ → Wrote dynamic w₁ w₂ → Wrote fluents w₂ w₃ → Remains w₃ actions
    left₃ w₁ w₂ w₃ e₁ e₂ e₃ = wrote (left₂ w₁ w₂ e₁ e₂) (front fluents actions) e₃

    left₄ : (w₁ w₂ w₃ w₄ : Writer) → Wrote static start w₁ → Wrote dynamic w₁ w₂ → Wrote fluents w₂ w₃ → Wrote actions w₃ w₄
        → Remains w₄ []
    left₄ w₁ w₂ w₃ w₄ e₁ e₂ e₃ e₄ = wrote (left₃ w₁ w₂ w₃ e₁ e₂ e₃) (last actions) e₄

pub laws-requires : goal.laws-requires
laws-requires c =
    let d = c.args.d in
    let ls = c.args.laws.now in
    let w : Writer = record { table = c.args.table; at = 0 } in
    record {
      bound = omega arith;
      room = room (left₀ d ls w) (front (static d ls) (dynamic d ls ++ (fluents d ls ++ actions d ls))) (omega arith);
    }

pub laws-requires-2 : goal.laws-requires-2
laws-requires-2 c =
    let d = c.args.d in
    let ls = c.args.laws.now in
    record {
      bound = omega arith;
      room = room (left₁ d ls _ _ c.laws.ensures) (front (dynamic d ls) (fluents d ls ++ actions d ls)) (omega arith);
    }

pub choices-requires : goal.choices-requires
choices-requires c =
    let d = c.args.d in
    let ls = c.args.laws.now in
    record {
      bound = omega arith;
      room = room (left₂ d ls _ _ _ c.laws.ensures c.laws-2.ensures) (front (fluents d ls) (actions d ls)) (omega arith);
    }

pub actions-requires : goal.actions-requires
actions-requires c =
    let d = c.args.d in
    let ls = c.args.laws.now in
    record {
      bound = omega arith;
      room = room (left₃ d ls _ _ _ _ c.laws.ensures c.laws-2.ensures c.choices.ensures) (last (actions d ls)) (omega arith);
    }

pub returns : goal.returns
returns c =
    let d = c.args.d in
    let ls = c.args.laws.now in
    let done = left₄ d ls _ _ _ _ _ c.laws.ensures c.laws-2.ensures c.choices.ensures c.actions.ensures in
    let all = ended done refl in
    let is = all.stored ∙ sets-front (table_for d ls) c.args.table.now (omega arith) in
    let same = sym all.same_table in
    search (rules, is, same)
