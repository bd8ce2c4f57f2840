-- The graph of a match's pairs: accepted, with whole costs, and its entries are the pairs. Column j's stretch is from the count of the pairs
-- before it to that with its own, so it has one entry, of its row, or none; if no row occurs twice all of them are a matching.
use mathlib.Core.Path.{◌≡◌, refl, sym, ap, ◌∙◌}
use mathlib.Core.Logic.{◌≢◌, ◌⊎◌, inl, inr}
use mathlib.Core.Bool.{Bool, true, false}
use mathlib.Core.List.{List, map}
use Prim.Native.Nat.{ℕ, suc, ◌+◌, ◌*◌, ◌^◌, ◌≤◌, ◌<◌}
use native.Mathlib.Nat.{le_refl, mul-zero}
use native.Mathlib.Omega.{arith}
use borrow.Author.Tests.{eq-eqb, not-true}
use lib.ListN.{length, get_or, length-map}
use Rattle.limits.specs.Limits.{none}
use Rattle.slices.specs.Lists.{keep}
use Rattle.slices.proofs.Lists.{table_at}
use Rattle.triplets.specs.Built.{rows_before}
use Rattle.sparse.specs.Columns.{Columns}
use Rattle.matching.specs.Sum.{or_zero}
use Rattle.matching.proofs.Pairings.{count_most}
use Rattle.sparse.specs.Pattern.{row_of, column_of, start, end, entries, InColumn}
use Rattle.hungarian.specs.Accepted.{Accepted}
use Rattle.hungarian.specs.Optimal.{WholeCosts}
use Rattle.sparse.proofs.Columns.{in_column_lem}
use Rattle.text_matrix_market.specs.File.{entry_row, entry_column, entry_weight, repeats}
use Rattle.text_graph.specs.Graph.{Inside, CostsFit, file_triplets}
use Rattle.text_graph.proofs.KeptCount.{kept_count_lem}
use Rattle.text_graph.proofs.GraphColumns.{part_at, graph_columns}
use Rattle.text_graph.proofs.GraphCosts.{graph_whole}
use Rattle.text_graph.proofs.GraphAccepted.{graph_accepted}
use Rattle.text_pairs_read.specs.Pairs.{pair_entries, Rows}
use Rattle.text_pairs_match.specs.PairGraph.{pair_graph, RowsOnce, AllMatching}
use Rattle.text_pairs_match.proofs.PairLists.{taken, taken_row_lem, rows_to, cols_to, fields_more, count_more, pairs_counted_lem, each_field, same_length_lem}
use Rattle.text_pairs_match.proofs.PairLists.{rows_before_lem}

module _ (n : ℕ) (perm : List ℕ) (R : Rows n perm) where
  abbrev weights : List ℕ
  weights = map entry_weight (pair_entries n perm)

  -- ---- accepted
  row_inside : (j : ℕ) → j < n → get_or perm j 0 ≢ none → get_or perm j 0 < n
  row_inside j h f = go (R.rows j h)
    where
      go : (get_or perm j 0 ≡ none) ⊎ (get_or perm j 0 < n) → get_or perm j 0 < n
      go (inl e) = absurd (f e)
      go (inr l) = l

  inside : Inside n (rows_to perm n) (cols_to perm n)
  inside = record {
    pairs = same_length_lem perm n;
    rows_in = each_field (λ x. x < n) entry_row perm n row_inside;
    cols_in = each_field (λ x. x < n) entry_column perm n (λ j h f. h);
  }

  costs_fit_lem : CostsFit n (rows_to perm n) weights
  costs_fit_lem = record {
    same_length = length-map (pair_entries n perm) entry_weight ∙ sym (length-map (pair_entries n perm) entry_row);
    costs_in = each_field (λ x. n * x < 2 ^ 48) entry_weight perm n (λ j h f. rw (mul-zero n) (omega arith));
  }

  -- as many are kept as there are
  once : repeats (rows_to perm n) (cols_to perm n) ≡ false
  once =
      not-true (repeats (rows_to perm n) (cols_to perm n))
      (sym (kept_count_lem n (file_triplets (rows_to perm n) (cols_to perm n) weights) inside)
      ∙ eq-eqb (length (rows_before (rows_to perm n) (cols_to perm n) n n)) (length (rows_to perm n)) (ap length (rows_before_lem n perm R n (le_refl n))))

  -- column j begins behind the pairs of the columns before it
  start_at : (j : ℕ) → j ≤ n → start (pair_graph n perm).pattern j ≡ length (pair_entries j perm)
  start_at j h =
      table_at (suc n) (λ c. length (rows_before (rows_to perm n) (cols_to perm n) n c)) j (omega arith)
      ∙ ap length (rows_before_lem n perm R j h) ∙ length-map (pair_entries j perm) entry_row

  pub pairs_accepted : Accepted (pair_graph n perm)
  pairs_accepted =
      graph_accepted n (rows_to perm n) (cols_to perm n) weights R.few
      (omega (arith, R.few, length-map (pair_entries n perm) entry_row, pairs_counted_lem n perm, count_most none n (λ j. get_or perm j 0))) inside costs_fit_lem once

  pub pairs_whole : WholeCosts (pair_graph n perm)
  pairs_whole = graph_whole n (rows_to perm n) (cols_to perm n) weights inside costs_fit_lem once

  -- ---- its entries
  pub entry_count_lem : entries (pair_graph n perm).pattern ≡ length (pair_entries n perm)
  entry_count_lem = ap length (rows_before_lem n perm R n (le_refl n)) ∙ length-map (pair_entries n perm) entry_row

  pub columns : Columns n (pair_graph n perm).pattern.col_ptr (pair_graph n perm).pattern.row_idx
  columns = graph_columns n (rows_to perm n) (cols_to perm n) weights

  -- column j's stretch has one place or none
  stretch : (j : ℕ) → j < n → end (pair_graph n perm).pattern j ≡ start (pair_graph n perm).pattern j + or_zero (taken perm j) 1
  stretch j h = start_at (suc j) h ∙ count_more perm j ∙ ap (λ (x : ℕ). x + or_zero (taken perm j) 1) (sym (start_at j (omega arith)))

  -- an entry of column j is its only one, and the column has a row
  pub only : (j k : ℕ) → InColumn (pair_graph n perm).pattern j k → (k ≡ start (pair_graph n perm).pattern j) × (taken perm j ≡ true)
  only j k c = go (taken perm j) (stretch j c.column)
    where
      go : (b : Bool) → end (pair_graph n perm).pattern j ≡ start (pair_graph n perm).pattern j + or_zero b 1
          → (k ≡ start (pair_graph n perm).pattern j) × (b ≡ true)
      go true e = (omega (arith, c.above, c.below), refl)
      go false e = let z : ⊥ = omega (arith, c.above, c.below) in absurd z

  -- a column with a row has an entry
  pub entry_of : (j : ℕ) → j < n → taken perm j ≡ true → InColumn (pair_graph n perm).pattern j (start (pair_graph n perm).pattern j)
  entry_of j h t = record {
    column = h;
    above = le_refl (start (pair_graph n perm).pattern j);
    below = omega (arith, stretch j h, ap (λ (b : Bool). or_zero b 1) t);
  }

  first_row : (j : ℕ) → j < n → taken perm j ≡ true → row_of (pair_graph n perm).pattern (start (pair_graph n perm).pattern j) ≡ get_or perm j 0
  first_row j h t =
      let k : start (pair_graph n perm).pattern j ≡ length (rows_to perm j) + 0 = omega
      (arith, start_at j (omega arith), length-map (pair_entries j perm) entry_row) in
      let one : 0 < length (keep (taken perm j) (get_or perm j 0)) = rw t (omega arith) in
      rw (k, rows_before_lem n perm R n (le_refl n))
      (part_at 0 (λ c. keep (taken perm c) (get_or perm c 0)) (rows_to perm) (fields_more entry_row perm) j 0 n h one ∙ rw t refl)

  pub row_is : (j k : ℕ) → InColumn (pair_graph n perm).pattern j k → row_of (pair_graph n perm).pattern k ≡ get_or perm j 0
  row_is j k c = let o = only j k c in rw o.0 (first_row j c.column o.1)

  -- ---- a matching
  pub pairs_matching : RowsOnce n perm → AllMatching (pair_graph n perm).pattern
  pairs_matching apart = record {
    rows = λ k l h i s t e.
        let a = in_column_lem (pair_graph n perm).pattern columns k h in
        let b = in_column_lem (pair_graph n perm).pattern columns l i in
        let same = apart (column_of (pair_graph n perm).pattern k) (column_of (pair_graph n perm).pattern l) a.column b.column
        (taken_row_lem perm (column_of (pair_graph n perm).pattern k) (only (column_of (pair_graph n perm).pattern k) k a).1)
        (sym (row_is (column_of (pair_graph n perm).pattern k) k a) ∙ e ∙ row_is (column_of (pair_graph n perm).pattern l) l b) in
        one_column k l h i same;
    cols = λ k l h i s t e. one_column k l h i e;
  }
    where
      one_column : (k l : ℕ) → k < entries (pair_graph n perm).pattern → l < entries (pair_graph n perm).pattern
          → column_of (pair_graph n perm).pattern k ≡ column_of (pair_graph n perm).pattern l → k ≡ l
      one_column k l h i e =
          (only (column_of (pair_graph n perm).pattern k) k (in_column_lem (pair_graph n perm).pattern columns k h)).0
          ∙ ap (start (pair_graph n perm).pattern) e
          ∙ sym (only (column_of (pair_graph n perm).pattern l) l (in_column_lem (pair_graph n perm).pattern columns l i)).0
