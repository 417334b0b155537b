-- Cutting and joining, of each reading: by demand 3 it passes exactly the paths, and parts of paths and paths joined are paths.
-- Assumes nothing.
use mathlib.Core.Path.{◌≡◌, sym, ◌∙◌}
use mathlib.Core.Logic.{◌↔◌}
use mathlib.Core.List.{List, [], ◌∷◌}
use Prim.Native.Nat.{ℕ, ◌+◌, ◌-◌, ◌≤◌, ◌<◌}
use native.Mathlib.Omega.{arith}
use native.Mathlib.Nat.{mul-le-mul_right}
use lib.ListN.{length}
use Rattle.action_language.specs.declared.Kind.{Kind}
use Rattle.action_language.specs.declared.Kind.TheVariants.{Static, Dynamic}
use Rattle.action_language.specs.declared.Law.{Law}
use Rattle.action_language.specs.declared.Description.{Description}
use Rattle.action_language.specs.Laws.{laws_of, if_list, after_list, with_horizon}
use Rattle.action_language.proofs.Laws.{AllFit, accepted-law}
use Rattle.translation_rules.specs.Translated.{table_for}
use Rattle.translation_rules.proofs.Counts.{sum_laws, law_words_of, word_count}
use Rattle.correctness.specs.Demand3.{Complete, PathOf}
use Rattle.correctness.proofs.Demand3.{demand-3}
use Rattle.cut_and_join.specs.Halves.{first_steps, later_steps, last_state, first_state, joined}
use Rattle.cut_and_join.specs.Passing.{Criterion, by_path, by_answer_set, by_engine, by_formulas, by_history, by_causes, Passed}
use Rattle.cut_and_join.specs.CutAndJoin.{ForReading, CuttingAndJoining}
use Rattle.cut_and_join.proofs.Within.{path-part, path-whole}
use Rattle.cut_and_join.proofs.Lists.{first-within, later-within, join-begins, join-goes-on, each-undoes-the-other}
use Rattle.cut_and_join.proofs.Complete.{records-stay, first-complete, later-complete, joined-complete}
use Rattle.cut_and_join.proofs.Complete.{history-complete, causes-complete}

-- Paths

module _ (d : Description) (ls : List Law) (lent : ℕ) where
  abbrev n : ℕ
  n = d.fluents

  abbrev m : ℕ
  m = d.actions

  cut-path : (vs : List ℕ) (k : ℕ) → Complete d ls lent vs → k < d.horizon → PathOf d ls vs
      → PathOf (with_horizon d k) ls (first_steps n m k vs) × PathOf (with_horizon d (d.horizon - k)) ls (later_steps n m k vs)
  cut-path vs k whole inside h = (
    path-part n m 0 k vs (first_steps n m k vs) (first-within n m vs k) (laws_of d ls) fit d.horizon (omega arith) h,
    path-part n m k (d.horizon - k) vs (later_steps n m k vs) (later-within n m vs k (d.horizon - k)) (laws_of d ls) fit
        d.horizon (omega arith) h,
  )
    where
      fit : AllFit n m (laws_of d ls)
      fit = accepted-law d ls lent whole.records

  join-path : (vs ws : List ℕ) (j k : ℕ) → Complete (with_horizon d j) ls lent vs → Complete (with_horizon d k) ls lent ws
      → last_state n vs ≡ first_state n ws
      → PathOf (with_horizon d j) ls vs → PathOf (with_horizon d k) ls ws → PathOf (with_horizon d (j + k)) ls (joined n vs ws)
  join-path vs ws j k first second same =
      path-whole n m j k (joined n vs ws) vs ws (join-begins n m vs ws j k first.size second.size)
      (join-goes-on n m vs ws j k first.size second.size same) (laws_of d ls)
      (accepted-law d ls lent (sym (records-stay d ls lent j) ∙ first.records))

-- Readings

-- it passes a complete set exactly if the set is a path
abbrev Exact : Criterion → Type 0
Exact Passes =
    (d : Description) (ls : List Law) (lent : ℕ) (vs table : List ℕ) → Complete d ls lent vs → length (table_for d ls) ≤ length table
    → Passes d ls lent vs table ↔ PathOf d ls vs

module _ (Passes : Criterion) (exact : Exact Passes) (ls : List Law) (lent : ℕ) where
  passed-path : (d : Description) (vs : List ℕ) → Passed Passes d ls lent vs → PathOf d ls vs
  passed-path d vs h = (exact d ls lent vs (table_for d ls) h.complete (omega arith)).0 (h.passes (table_for d ls) (omega arith))

  path-passed : (d : Description) (vs : List ℕ) → Complete d ls lent vs → PathOf d ls vs → Passed Passes d ls lent vs
  path-passed d vs complete h = record { complete = complete; passes = λ table enough. (exact d ls lent vs table complete enough).1 h }

  for-reading : (d : Description) → ForReading Passes d ls lent
  for-reading d = record {
    cut = λ vs k h one inside. let (first, later) = cut-path d ls lent vs k h.complete inside (passed-path d vs h) in (
      path-passed (with_horizon d k) _ (first-complete d ls lent vs k h.complete one inside) first,
      path-passed (with_horizon d (d.horizon - k)) _ (later-complete d ls lent vs k h.complete one inside) later,
    );
    join = λ vs ws j k first second same few. path-passed (with_horizon d (j + k)) (joined d.fluents vs ws)
        (joined-complete d ls lent vs ws j k first.complete second.complete few)
        (join-path d ls lent vs ws j k first.complete second.complete same (passed-path _ vs first) (passed-path _ ws second));
    told = λ vs table complete enough passes. path-passed d vs complete ((exact d ls lent vs table complete enough).0 passes);
  }

-- a horizon that is no longer needs no more words
module _ (k T : ℕ) (b : k ≤ T) where
  law-grows : (kind : Kind) (l : Law) → law_words_of k kind l ≤ law_words_of T kind l
  law-grows Static l = mul-le-mul_right (3 + length (if_list l)) (omega arith)
  law-grows Dynamic l = mul-le-mul_right (3 + length (if_list l) + length (after_list l)) b

  sum-grows : (ls : List Law) → sum_laws (law_words_of k) ls ≤ sum_laws (law_words_of T) ls
  sum-grows [] = omega arith
  sum-grows (l ∷ ls) = omega (arith, law-grows l.kind l, sum-grows ls)

room-enough : (d : Description) (ls : List Law) (k : ℕ) → k ≤ d.horizon → length (table_for (with_horizon d k) ls) ≤ length (table_for d ls)
room-enough d ls k b =
    omega (
      arith,
      word_count d.fluents d.actions k (laws_of d ls),
      word_count d.fluents d.actions d.horizon (laws_of d ls),
      sum-grows k d.horizon b (laws_of d ls),
      mul-le-mul_right d.actions b,
    )

pub cutting-and-joining : CuttingAndJoining
cutting-and-joining d ls lent = record {
  by-path = for-reading by_path (λ d ls lent vs table complete enough. (λ h. h, λ h. h)) ls lent d;
  by-answer-set = for-reading by_answer_set (λ d ls lent vs table complete enough. (demand-3 d ls lent vs complete).answer-set) ls lent d;
  by-engine =
      for-reading by_engine (λ d ls lent vs table complete enough. (demand-3 d ls lent vs complete).engine-passes table enough) ls lent d;
  by-formulas =
      for-reading by_formulas
      (λ d ls lent vs table complete enough. (demand-3 d ls lent vs complete).completion-holds table enough) ls lent d;
  by-history = for-reading by_history by-history ls lent d;
  by-causes = for-reading by_causes by-causes ls lent d;
  undo = each-undoes-the-other d.fluents d.actions;
  history-told = λ vs room e. let (complete, enough) = history-complete d ls lent vs room e in
      path-passed by_history by-history ls lent d vs complete (((demand-3 d ls lent vs complete).history-passes room enough).0 e);
  causes-told = λ vs e. let complete = causes-complete d ls lent vs e in
      path-passed by_causes by-causes ls lent d vs complete ((demand-3 d ls lent vs complete).causal-path.0 e);
  room-enough = room-enough d ls;
}
  where
    by-history : Exact by_history
    by-history d ls lent vs table complete enough = (demand-3 d ls lent vs complete).history-passes (length table) enough

    by-causes : Exact by_causes
    by-causes d ls lent vs table complete enough = (demand-3 d ls lent vs complete).causal-path
