-- The graph of a file within the limits, where no pair repeats, passes the graph test: sizes, pointers, columns and costs, one law each.
use mathlib.Core.Path.{◌≡◌, ◌∙◌}
use mathlib.Core.Bool.{true, false}
use mathlib.Core.List.{List}
use Prim.Native.Nat.{ℕ, suc, ◌+◌, ◌≤◌}
use native.Mathlib.Omega.{arith}
use borrow.Author.Tests.{eq-eqb}
use lib.Ieee.{nan}
use lib.ListN.{length, get_or}
use Rattle.limits.specs.Limits.{max_general}
use Rattle.refusal.specs.Refusal.{cost_range}
use Rattle.sparse.specs.Fault.{unless}
use Rattle.triplets.specs.Built.{rows_before}
use Rattle.sparse.proofs.First.{or-none, all_zero}
use Rattle.sparse.proofs.Accepted.{sizes_accepted, pointers_accepted, general_columns_lem}
use Rattle.slices.proofs.Lists.{length_table}
use Rattle.cost_limit.specs.Range.{in_range}
use Rattle.sparse.specs.Pattern.{entries}
use Rattle.hungarian.specs.Graph.{CostGraph}
use Rattle.hungarian.specs.Test.{graph_fault, graph_lengths, cost_fault}
use Rattle.hungarian.specs.Accepted.{Accepted}
use Rattle.text_matrix_market.specs.File.{repeats}
use Rattle.text_graph.specs.Graph.{Inside, CostsFit, file_triplets, file_graph}
use Rattle.text_graph.proofs.KeptCount.{kept_few}
use Rattle.text_graph.proofs.GraphColumns.{graph_columns}
use Rattle.text_graph.proofs.GraphCosts.{values_length, graph_range}

module _ (n : ℕ) (rows cols costs : List ℕ) where
  cost_count_lem : length (file_graph n rows cols costs).cost ≡ entries (file_graph n rows cols costs).pattern
  cost_count_lem = values_length (file_triplets rows cols costs) n n

  lengths_fit_lem : graph_lengths (file_graph n rows cols costs) ≡ true
  lengths_fit_lem =
      let p : length (file_graph n rows cols costs).pattern.col_ptr ≡ n + 1 = omega (arith, length_table (suc n) (λ j. length (rows_before rows cols n j))) in
      rw (
        eq-eqb (length (file_graph n rows cols costs).pattern.col_ptr) (n + 1) p,
        eq-eqb (length (file_graph n rows cols costs).cost)
            (entries (file_graph n rows cols costs).pattern) cost_count_lem,
      )

  pub graph_accepted : n ≤ 64 → length rows ≤ 512 → Inside n rows cols → CostsFit n rows costs → repeats rows cols ≡ false
      → Accepted (file_graph n rows cols costs)
  unfolding graph_fault cost_fault
  graph_accepted few short inside costs_fit once =
      let g : CostGraph = file_graph n rows cols costs in
      let c = graph_columns n rows cols costs in
      or-none ((sizes_accepted n max_general (entries g.pattern) (graph_lengths g)).1
      (omega arith, omega (arith, kept_few n (file_triplets rows cols costs) inside), lengths_fit_lem))
      ∙ or-none ((pointers_accepted n g.pattern.col_ptr (entries g.pattern)).1 c.pointers)
      ∙ or-none ((general_columns_lem c.pointers).1 c)
      ∙ (all_zero (λ k. unless (in_range n (get_or g.cost k nan)) cost_range) (length g.cost)).1
      (λ k h. rw (graph_range n rows cols costs inside costs_fit once k (omega (arith, cost_count_lem))))
