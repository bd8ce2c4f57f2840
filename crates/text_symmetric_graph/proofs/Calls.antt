-- What the function's proof cites: the kept count tells whether a pair repeats; where none does, what is assembled is the matrix of the entries,
-- the building requires nothing more, and what it leaves is the graph.
use mathlib.Core.Path.{◌≡◌, refl, sym, ap, ◌∙◌, subst}
use mathlib.Core.Logic.{◌≢◌}
use mathlib.Core.Bool.{true, false, not}
use mathlib.Core.List.{List, ◌++◌, append-nil}
use Prim.Native.Nat.{ℕ, ◌+◌, ◌*◌, ◌≤◌}
use native.Mathlib.Omega.{arith}
use borrow.Author.Tests.{eq-eqb, ne_eqb}
use lib.Dec.{eqb}
use lib.Ieee.{Float}
use lib.ListN.{length, get_or, take, drop, drop_of_length-le, length-replicate}
use Rattle.triplets.specs.Built.{Triplets, triplets, kept_count, rows_before, values_before}
use Rattle.triplets.specs.inner.Steps.{Built}
use Rattle.triplets.specs.Built as Triplets
use Rattle.sparse.specs.Matrix.{Matrix, matrix}
use Rattle.hungarian.specs.Graph.{graph_of}
use Rattle.mc64_columns.specs.Columns.{value_logs}
use Rattle.mc64_columns.specs.Graphs.{Slices, built, kept_before}
use Rattle.mc64_columns.specs.inner.Steps.{GraphBuilt}
use Rattle.mc64_columns.proofs.Graphs.{ones_at}
use Rattle.mc64_symmetric.specs.Graph.{mirrored_columns}
use Rattle.mc64_symmetric.proofs.Building.{pointer_entries}
use Rattle.mc64_symmetric.proofs.Places.{pointer_few}
use Rattle.whole_graphs.specs.Graphs.{whole_symmetric_fault}
use Rattle.whole_graphs.proofs.Theorems.{Doubles, left_is}
use Rattle.text_graph.proofs.KeptCount.{kept_count_lem, opposite}
use Rattle.text_matrix_market.specs.File.{repeats}
use Rattle.std.proofs.Common.{Some}
use Rattle.text_symmetric_graph.specs.Graph.{SymmetricValues, triplet_matrix, mirrored_graph, triplet_graph}
use Rattle.text_symmetric_graph.specs.inner.Steps.{GraphRoom, HoldsGraph, GraphSlices, graph_slices, graph_left}
use Rattle.text_symmetric_graph.proofs.Whole.{kept_all, stored_doubles, nothing_wrong}

-- a list with nothing behind it
pub nothing_left : {A : Type 0} (l m : List A) (k : ℕ) → length m ≤ k → l ++ drop k m ≡ l
nothing_left l m k h = rw (drop_of_length-le m h) (append-nil l)

module _ {n : ℕ} {rows cols : List ℕ} {values : List Float} (S : SymmetricValues n rows cols values) where
  abbrev t : Triplets
  t = triplets rows cols values

  module _ {before after : Triplets.Slices} {kept : ℕ} (b : Built n t before after kept) where
    counted : repeats rows cols ≡ not (eqb kept (length rows))
    counted = opposite (repeats rows cols) _ (ap (λ (k : ℕ). eqb k (length rows)) b.count ∙ kept_count_lem n t S.held.inside)

    pub some_repeated : kept ≢ length rows → repeats rows cols ≡ true
    some_repeated d = counted ∙ ap not (ne_eqb kept (length rows) d)

    pub work_same : length after.work ≡ length before.work
    unfolding Triplets.built
    work_same = ap (λ (x : Triplets.Slices). length x.work) b.slices ∙ length-replicate (length before.work) 0

    module _ (all : kept ≡ length rows) (row_room : length before.row_idx ≡ length rows) (value_room : length before.values ≡ length rows) where
      none_repeated : repeats rows cols ≡ false
      none_repeated = counted ∙ ap not (eq-eqb kept (length rows) all)

      -- what is assembled
      abbrev stored : Matrix
      stored = matrix n after.col_ptr after.row_idx after.values

      matrix_is : stored ≡ triplet_matrix n t
      unfolding Triplets.built
      matrix_is =
          let r : after.row_idx ≡ rows_before rows cols n n =
          ap (λ (x : Triplets.Slices). x.row_idx) b.slices ∙ nothing_left (rows_before rows cols n n) before.row_idx (kept_count n t)
          (omega (arith, all, b.count)) in
          let v : after.values ≡ values_before t n n = ap (λ (x : Triplets.Slices). x.values) b.slices ∙ nothing_left (values_before t n n)
          before.values (kept_count n t) (omega (arith, all, b.count)) in
          rw (ap (λ (x : Triplets.Slices). x.col_ptr) b.slices, r, v) refl

      pub doubles : Doubles after.values
      doubles = subst (λ (x : Matrix). Doubles x.values) (sym matrix_is) (stored_doubles S none_repeated)

      module _ (s : Slices) (room : GraphRoom n (length rows) s.graph_ptr s.graph_idx s.cost) (cmax_room : length s.cmax ≡ n)
          (work_room : length s.work ≡ 2 * n + 2 + length rows) where
        pub fine : whole_symmetric_fault stored s ≡ 0
        fine = subst (λ (x : Matrix). whole_symmetric_fault x s ≡ 0) (sym matrix_is)
            (nothing_wrong S none_repeated s room.pointer_room room.row_room room.cost_room cmax_room work_room)

        pub holds : (left : Slices) (count : ℕ) → GraphBuilt n (mirrored_columns stored) (value_logs stored.values) s left count
            → HoldsGraph n t left.graph_ptr left.graph_idx left.cost count
        unfolding built
        holds left count x =
            let last : get_or left.graph_ptr n 0 ≡ count =
            ap (λ (l : Slices). get_or l.graph_ptr n 0) x.slices ∙ ones_at (kept_before (mirrored_columns stored)) _ n (omega arith) ∙ sym x.count in
            let long : length after.row_idx ≡ length rows = ap (λ (l : Matrix). length l.pattern.row_idx) matrix_is ∙ kept_all S none_repeated in
            record {
              once = none_repeated;
              graph = subst (λ (k : ℕ). graph_of n left.graph_ptr (take k left.graph_idx) (take k left.cost) ≡ triplet_graph n t) last
                  (left_is (mirrored_columns stored) stored s left x.slices ∙ ap mirrored_graph matrix_is);
              fits = omega (arith, x.count, pointer_entries stored n, pointer_few stored n, long);
            }

        pub leaves : (left : Slices) (count : ℕ) → GraphBuilt n (mirrored_columns stored) (value_logs stored.values) s left count
            → graph_slices left.graph_ptr left.graph_idx left.cost ≡ graph_left n t (graph_slices s.graph_ptr s.graph_idx s.cost) (Some count)
        unfolding built
        leaves left count x =
            ap (λ (l : Slices). graph_slices l.graph_ptr l.graph_idx l.cost) x.slices
            ∙ ap (λ (k : ℕ). laid stored k) (sym x.count)
            ∙ ap (λ (m : Matrix). laid m count) matrix_is
          where
            laid : Matrix → ℕ → GraphSlices
            laid m k =
                let g = mirrored_graph m in
                graph_slices g.pattern.col_ptr (g.pattern.row_idx ++ drop k s.graph_idx) (g.cost ++ drop k s.cost)
