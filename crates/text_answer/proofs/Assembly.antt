-- Entries with costs as triplets: the kept count tells whether a pair repeats, and what is built is the file's graph.
use mathlib.Core.Path.{◌≡◌, refl, sym, ap, ◌∙◌, subst}
use mathlib.Core.Logic.{◌≢◌}
use mathlib.Core.Bool.{true, false, not}
use mathlib.Core.List.{List}
use Prim.Native.Nat.{ℕ, ◌+◌, ◌*◌}
use native.Mathlib.Omega.{arith}
use borrow.Author.Tests.{eq-eqb, ne_eqb}
use lib.Dec.{eqb}
use lib.ListN.{length, length-map}
use lib.IntN.{pos}
use lib.Ieee.{Float, binary64, of_int}
use Rattle.refusal.specs.Refusal.{repeated_pair}
use Rattle.triplets.specs.Built.{Triplets, triplets, Slices, built, kept_count, rows_before, values_before}
use Rattle.triplets.specs.inner.Steps.{Built, Sized, Roomy}
use Rattle.hungarian.specs.Graph.{CostGraph, graph_of}
use Rattle.text_matrix_market.specs.declared.banner.Kind.TheVariants.{General}
use Rattle.text_graph.specs.Graph.{cost_values, file_graph}
use Rattle.text_graph.proofs.KeptCount.{kept_count_lem, opposite}
use Rattle.text_symmetric_graph.proofs.Calls.{nothing_left}
use Rattle.text_report.specs.declared.Form.{Form}
use Rattle.text_report.specs.Report.{refused_text}
use Rattle.text_matrix_market.specs.File.{repeats}
use Rattle.text_answer.specs.Answer.{graph_text}
use Rattle.text_answer.specs.inner.Steps.{Entries, entries_text, Reportable}
use Rattle.text_answer.proofs.Graphs.{has_text}

module _ {n : ℕ} {rows cols : List ℕ} {values : List Float} {output : List ℕ} (S : Entries General n rows cols values output) where
  abbrev t : Triplets
  t = triplets rows cols values

  module _ {before after : Slices} {kept : ℕ} (b : Built n t before after kept) where
    -- fewer are kept exactly where a pair repeats
    counted : repeats rows cols ≡ not (eqb kept (length rows))
    counted = opposite (repeats rows cols) _ (ap (λ (k : ℕ). eqb k (length rows)) b.count ∙ kept_count_lem n t S.held.inside)

    pub repeated_text : (form : Form) → kept ≢ length rows → (weights : List ℕ) → refused_text repeated_pair ≡ entries_text form General n rows cols weights
    unfolding entries_text
    repeated_text form d weights = let e : repeats rows cols ≡ true = counted ∙ ap not (ne_eqb kept (length rows) d) in rw e refl

    -- all are kept: what is built, as it is lent on, is the graph
    module _ (all : kept ≡ length rows) (row_room : length before.row_idx ≡ length rows) (cost_room : length before.values ≡ length rows)
        {col_ptr row_idx : List ℕ} {cost : List Float} (p : col_ptr ≡ after.col_ptr) (r : row_idx ≡ after.row_idx) (c : cost ≡ after.values) where
      none_repeated : repeats rows cols ≡ false
      none_repeated = counted ∙ ap not (eq-eqb kept (length rows) all)

      graph_is : (weights : List ℕ) → values ≡ cost_values weights → graph_of n col_ptr row_idx cost ≡ file_graph n rows cols weights
      unfolding built
      graph_is weights valued =
          let place : col_ptr ≡ (built n t before).col_ptr = p ∙ ap (λ (x : Slices). x.col_ptr) b.slices in
          let row : row_idx ≡ rows_before rows cols n n =
          r ∙ ap (λ (x : Slices). x.row_idx) b.slices
          ∙ nothing_left (rows_before rows cols n n) before.row_idx (kept_count n t) (omega (arith, all, b.count, row_room)) in
          let value : cost ≡ values_before t n n =
          c ∙ ap (λ (x : Slices). x.values) b.slices
          ∙ nothing_left (values_before t n n) before.values (kept_count n t) (omega (arith, all, b.count, cost_room)) in
          rw (place, row, value, valued) refl

      -- and it has a text
      pub reportable : Reportable (graph_of n col_ptr row_idx cost) output
      reportable = subst (λ (g : CostGraph). Reportable g output) (sym (graph_is S.weights S.valued)) (has_text General S.held none_repeated)

      pub graph_text_lem : (form : Form) (weights : List ℕ) → values ≡ cost_values weights
          → graph_text form (graph_of n col_ptr row_idx cost) ≡ entries_text form General n rows cols weights
      unfolding entries_text
      graph_text_lem form weights v = ap (graph_text form) (graph_is weights v) ∙ rw none_repeated refl
