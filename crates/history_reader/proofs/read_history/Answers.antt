-- `read_history` meets its contract: the description's refusal, 10, 1, the history's refusal, or its values.
-- Assumes nothing.
use native.Mathlib.Omega.{arith}
use mathlib.Core.Path.{◌≡◌, refl, sym, subst, ◌∙◌, ap}
use mathlib.Core.Bool.{false}
use mathlib.Core.List.{List}
use Prim.Native.Nat.{ℕ, ◌≤◌}
use borrow.Author.Rules.{rules}
use lib.ListN.{length, replicate}
use Rattle.std.specs.Prelude.{Result, Ok, Err}
use Rattle.basics.specs.declared.Refusal.{Refusal}
use Rattle.basics.specs.Refusals.{number_of, is_own, Numbered}
use Rattle.basics.specs.Replies.{refused}
use Rattle.text.proofs.Spelling.{spelled-length}
use Rattle.description_reader.specs.declared.declarations.Declarations.{Declarations}
use Rattle.description_reader.specs.Internal.{draft_by, Declares}
use Rattle.description_reader.proofs.Answering.{declared-refused}
use Rattle.history_reader.specs.Histories.{values_left, by_names, read_history, history_replied, history_reply_of, states_from}
use Rattle.history_reader.specs.Histories.{atoms, ActionsFilled}
use Rattle.history_reader.specs.Internal.{read_as, atoms_of}
use Rattle.history_reader.proofs.Recording.{history-room, history-long, history-lines, first-zeros}
use Rattle.history_reader.proofs.Kept.{actions-filled}
use Rattle.history_reader.proofs.read_history.Goals as goal

-- what a refusal promises
record Refuses (description text : List ℕ) (result : Result Unit Refusal) (old : List ℕ) : Type 0 where
  pub answers : history_reply_of result ≡ history_replied (read_history description text (length old))
  pub leaves : old ≡ values_left (read_history description text (length old)) old
  pub filled : ActionsFilled description result old
  pub numbered : Numbered result

refuses : (description text old : List ℕ) {result : Result Unit Refusal} (e : Refusal) → result ≡ Err e
    → is_own e.reason ≡ false → read_history description text (length old) ≡ refused (number_of e.reason) e.place
    → Refuses description text result old
refuses description text old e is own h =
    record {
      answers = ap history_reply_of is ∙ sym (ap history_replied h);
      leaves = sym (ap (λ x. values_left x old) h);
      filled = subst (λ r. ActionsFilled description r old) (sym is) tt;
      numbered = subst Numbered (sym is) own;
    }

-- where the lines are read
module _ (description text : List ℕ) (r : Declarations) (d : Declares description r) (room : ℕ) (size : room ≡ atoms_of r)
    (short : length text ≤ 65535) (result : Result Unit Refusal) (new : List ℕ)
    (is : read_as result new ≡ states_from r.horizon (draft_by description d.laws r) 0 1 (replicate room 0) text) where
  history : read_history description text room ≡ read_as result new
  unfolding read_history
  history = ap (λ x. by_names x text room) d.is ∙ history-lines description d.laws r d.rest r.lines text room size short ∙ sym is

  -- no action atom is left at 0
  acted : {u : Unit} → result ≡ Ok u → ActionsFilled description (Ok u) new
  acted e =
      let draft = draft_by description d.laws r in
      let names : length draft.names ≡ r.names.count = spelled-length description r.names in
      let all : room ≡ atoms draft = rw names size in
      actions-filled description text draft d.rest r.lines d.is (omega (arith, names, r.declared)) room all new
      (sym is ∙ ap (λ x. read_as x new) e)

pub returns-in_err-declared : goal.returns-in_err-declared
unfolding read_history
returns-in_err-declared c =
    let a = c.args in
    let refusal = c.in_err-declared.field-0.0 in
    let same : c.from_residual.result ≡ Err refusal = search rules in
    let h =
    ap (λ x. by_names x a.text.now (length a.values.now))
    (declared-refused a.description.now c.read_alone.ensures.answers c.in_err-declared.was) in
    let told = refuses a.description.now a.text.now a.values.now refusal same c.in_err-declared.ensures.numbered h in
    record { answers = told.answers; leaves = told.leaves; filled = told.filled; numbered = told.numbered }

pub returns-then-room-atom_count : goal.returns-then-room-atom_count
unfolding read_history
returns-then-room-atom_count c =
    let a = c.args in
    let d = c.in_ok-declared.ensures.bounded in
    let h =
    ap (λ x. by_names x a.text.now (length a.values.now)) d.is
    ∙ history-room a.description.now d.laws c.in_ok-declared.declared d.rest c.in_ok-declared.declared.lines a.text.now
    (length a.values.now) (λ q. c.if-room-atom_count.true (q ∙ sym c.atom_count.ensures.0)) in
    record { answers = sym (ap history_replied h); leaves = sym (ap (λ x. values_left x a.values.now) h); filled = tt; numbered = refl }

pub returns-then-text-gt65535 : goal.returns-then-text-gt65535
unfolding read_history
returns-then-text-gt65535 c =
    let a = c.args in
    let d = c.in_ok-declared.ensures.bounded in
    let h =
    ap (λ x. by_names x a.text.now (length a.values.now)) d.is
    ∙ history-long a.description.now d.laws c.in_ok-declared.declared d.rest c.in_ok-declared.declared.lines a.text.now
    (length a.values.now) (c.if-room-atom_count.false ∙ c.atom_count.ensures.0) c.if-text-gt65535.true in
    record { answers = sym (ap history_replied h); leaves = sym (ap (λ x. values_left x a.values.now) h); filled = tt; numbered = refl }

pub returns-in_err-read : goal.returns-in_err-read
returns-in_err-read c =
    let a = c.args in
    let n = length a.values.now in
    let r = c.in_ok-declared.declared in
    let d = c.in_ok-declared.ensures.bounded in
    let size = c.if-room-atom_count.false ∙ c.atom_count.ensures.0 in
    let few : n ≤ 1024 = omega (arith, c.if-room-atom_count.false, c.atom_count.ensures.1) in
    let is = c.read.ensures.answers d.laws
    ∙ ap (λ vs. states_from r.horizon (draft_by a.description.now d.laws r) 0 1 vs a.text.now) (first-zeros n 1024 few) in
    let refusal = c.in_err-read.field-0.0 in
    let same : c.from_residual-in_err-read.result ≡ Err refusal = search rules in
    let h =
    history a.description.now a.text.now r d n size c.if-text-gt65535.false c.read.result c.read.new.values is
    ∙ ap (λ x. read_as x c.read.new.values) c.in_err-read.was in
    let told = refuses a.description.now a.text.now a.values.now refusal same c.in_err-read.ensures.numbered h in
    record { answers = told.answers; leaves = told.leaves; filled = told.filled; numbered = told.numbered }

pub returns : goal.returns
returns c =
    let a = c.args in
    let n = length a.values.now in
    let r = c.in_ok-declared.declared in
    let d = c.in_ok-declared.ensures.bounded in
    let size = c.if-room-atom_count.false ∙ c.atom_count.ensures.0 in
    let few : n ≤ 1024 = omega (arith, c.if-room-atom_count.false, c.atom_count.ensures.1) in
    let is = c.read.ensures.answers d.laws
    ∙ ap (λ vs. states_from r.horizon (draft_by a.description.now d.laws r) 0 1 vs a.text.now) (first-zeros n 1024 few) in
    let h =
    history a.description.now a.text.now r d n size c.if-text-gt65535.false c.read.result c.read.new.values is
    ∙ ap (λ x. read_as x c.read.new.values) c.in_ok-read.was in
    let all = acted a.description.now a.text.now r d n size c.if-text-gt65535.false c.read.result c.read.new.values is c.in_ok-read.was in
    record {
      answers = sym (ap history_replied h);
      leaves = c.copy_from_slice.ensures.after ∙ sym (ap (λ x. values_left x a.values.now) h);
      filled = subst (λ vs. ActionsFilled a.description.now (Ok tt) vs) (sym c.copy_from_slice.ensures.after) all;
      numbered = tt;
    }
