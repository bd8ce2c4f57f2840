-- From the columns of all triplets to the matrix: no row and no column from n on has an entry, so that those below n are all.
use mathlib.Core.Path.{◌≡◌, refl, sym, ap, ap₂, ◌∙◌}
use mathlib.Core.Bool.{false}
use mathlib.Core.List.{List, [], ◌++◌, map, append-nil}
use Prim.Native.Nat.{ℕ, zero, suc, ◌+◌, ◌≤◌}
use native.Mathlib.Decide.{ℕ_discrete}
use native.Mathlib.Omega.{arith}
use lib.Ieee.{Float}
use lib.ListN.{length, get_or, drop, length-append, take-append-drop}
use lib.Seq.{ext_get_or}
use Rattle.limits.specs.Limits.{max_columns}
use Rattle.slices.specs.Lists.{keep, tabulate}
use Rattle.slices.specs.inner.Steps.{list_sum_to, Summed}
use Rattle.slices.proofs.Lists.{length_table, table_at}
use Rattle.slices.proofs.Sums.{sum_next}
use Rattle.triplets.specs.Built.{Triplets, filled, sum_at, column_rows, rows_before, values_before, kept_count}
use Rattle.triplets.specs.Order.{Below}
use Rattle.triplets_sorted.specs.inner.Steps.{column_to, rows_to, values_to, Taken, Rest}
use Rattle.triplets_sorted.proofs.Order.{absent}
use Rattle.triplets_sorted.proofs.Prefix.{empty_column}

-- ---- columns of all triplets, up to row m or column m from n on
module _ (t : Triplets) (n : ℕ) (rows_in : Below n t.rows) (cols_in : Below n t.cols) (pairs : length t.cols ≡ length t.rows) where
  no_row : (i j : ℕ) → n ≤ i → filled t.rows t.cols i j (length t.rows) ≡ false
  no_row i j h = absent t.rows t.cols i j (length t.rows) (λ x l e q. omega (arith, rows_in x l, e, h))

  no_column : (i j : ℕ) → n ≤ j → filled t.rows t.cols i j (length t.rows) ≡ false
  no_column i j h = absent t.rows t.cols i j (length t.rows) (λ x l e q. omega (arith, cols_in x (omega (arith, pairs, l)), q, h))

  column-is : (j i : ℕ) → column_to t.rows t.cols (length t.rows) j i ≡ column_rows t.rows t.cols j i
  unfolding column_to column_rows
  column-is j zero = refl
  column-is j (suc i) = ap (λ (l : List ℕ). l ++ keep (filled t.rows t.cols i j (length t.rows)) i) (column-is j i)

  rows_end : (j m : ℕ) → n ≤ m → column_to t.rows t.cols (length t.rows) j m ≡ column_rows t.rows t.cols j n
  unfolding column_to
  rows_end j zero h = let e : 0 ≡ n = omega arith in column-is j 0 ∙ ap (column_rows t.rows t.cols j) e
  rows_end j (suc m) h = go (rows_end j m) (ℕ_discrete (suc m) n)
    where
      go : (n ≤ m → column_to t.rows t.cols (length t.rows) j m ≡ column_rows t.rows t.cols j n) → Dec (suc m ≡ n)
          → column_to t.rows t.cols (length t.rows) j (suc m) ≡ column_rows t.rows t.cols j n
      go f (yes e) = column-is j (suc m) ∙ ap (column_rows t.rows t.cols j) e
      go f (no e) =
          rw (no_row m j (omega arith), append-nil (column_to t.rows t.cols (length t.rows) j m)) (f (omega arith))

  module _ (most : ℕ) (small : n ≤ most) where
    pub rows_are : (c : ℕ) → rows_to t.rows t.cols (length t.rows) most c ≡ rows_before t.rows t.cols n c
    unfolding rows_to rows_before
    rows_are zero = refl
    rows_are (suc c) = ap₂ ◌++◌ (rows_are c) (rows_end c most small)

    pub values_are : (c : ℕ) → values_to t (length t.rows) most c ≡ values_before t n c
    unfolding values_to values_before
    values_are zero = refl
    values_are (suc c) = ap₂ ◌++◌ (values_are c) (ap (map (λ i. sum_at t i c (length t.rows))) (rows_end c most small))

    columns_end : (m : ℕ) → n ≤ m → rows_to t.rows t.cols (length t.rows) most m ≡ rows_before t.rows t.cols n n
    unfolding rows_to
    columns_end zero h = let e : 0 ≡ n = omega arith in rows_are 0 ∙ ap (rows_before t.rows t.cols n) e
    columns_end (suc m) h = go (columns_end m) (ℕ_discrete (suc m) n)
      where
        go : (n ≤ m → rows_to t.rows t.cols (length t.rows) most m ≡ rows_before t.rows t.cols n n) → Dec (suc m ≡ n)
            → rows_to t.rows t.cols (length t.rows) most (suc m) ≡ rows_before t.rows t.cols n n
        go f (yes e) = rows_are (suc m) ∙ ap (rows_before t.rows t.cols n) e
        go f (no e) =
            rw (
              empty_column t.rows t.cols (length t.rows) m most (λ i. no_column i m (omega arith)),
              append-nil (rows_to t.rows t.cols (length t.rows) most m),
            )
            (f (omega arith))

    values_end : (m : ℕ) → n ≤ m → values_to t (length t.rows) most m ≡ values_before t n n
    unfolding values_to
    values_end zero h = let e : 0 ≡ n = omega arith in values_are 0 ∙ ap (values_before t n) e
    values_end (suc m) h = go (values_end m) (ℕ_discrete (suc m) n)
      where
        go : (n ≤ m → values_to t (length t.rows) most m ≡ values_before t n n) → Dec (suc m ≡ n)
            → values_to t (length t.rows) most (suc m) ≡ values_before t n n
        go f (yes e) = values_are (suc m) ∙ ap (values_before t n) e
        go f (no e) =
            rw (
              empty_column t.rows t.cols (length t.rows) m most (λ i. no_column i m (omega arith)),
              append-nil (values_to t (length t.rows) most m),
            )
            (f (omega arith))

    no_last : column_to t.rows t.cols (length t.rows) n most ≡ []
    no_last = empty_column t.rows t.cols (length t.rows) n most (λ i. no_column i n (omega arith))

  -- ---- the slices after all triplets
  module _ (small : n ≤ max_columns) {kept : ℕ} {col_ptr row_idx : List ℕ} {values : List Float}
      (p : Taken t (length t.rows) kept col_ptr row_idx values) (room : length col_ptr ≡ n + 1) where
    pub kept-is : kept ≡ kept_count n t
    kept-is = p.count ∙ ap length (columns_end max_columns small max_columns small)

    counts_summed : (c : ℕ) → c ≤ n → list_sum_to col_ptr c ≡ length (rows_to t.rows t.cols (length t.rows) max_columns c)
    unfolding list_sum_to rows_to
    counts_summed zero h = refl
    counts_summed (suc c) h =
        ap₂ ◌+◌ (counts_summed c (omega arith)) (p.counts c (omega (arith, room, h)))
        ∙ sym (length-append (rows_to t.rows t.cols (length t.rows) max_columns c)
        (column_to t.rows t.cols (length t.rows) c max_columns))

    pointers : (c : ℕ) → c ≤ n → list_sum_to col_ptr c ≡ length (rows_before t.rows t.cols n c)
    pointers c h = counts_summed c h ∙ ap length (rows_are max_columns small c)

    pub total : list_sum_to col_ptr (n + 1) ≡ kept
    total =
        let last : get_or col_ptr n 0 ≡ 0 = p.counts n (omega (arith, room)) ∙ ap length (no_last max_columns small) in
        let all : list_sum_to col_ptr n ≡ kept = pointers n (omega arith) ∙ sym kept-is in
        omega (arith, sum_next col_ptr n, last, all)

    pub col_ptr-is : (col_ptr' : List ℕ) → Summed (n + 1) col_ptr col_ptr' → length col_ptr' ≡ n + 1
        → col_ptr' ≡ tabulate (suc n) (λ j. length (rows_before t.rows t.cols n j))
    col_ptr-is col_ptr' s len =
        ext_get_or 0 col_ptr' (tabulate (suc n) (λ j. length (rows_before t.rows t.cols n j)))
        (omega (arith, len, length_table (suc n) (λ j. length (rows_before t.rows t.cols n j))))
        (λ i h. s.sums i (omega (arith, h, len)) ∙ pointers i (omega (arith, h, len))
        ∙ sym (table_at (suc n) (λ j. length (rows_before t.rows t.cols n j)) i (omega (arith, h, len))))

    pub row_idx-is : {row_idx₀ : List ℕ} {values₀ : List Float} → Rest 0 kept row_idx₀ values₀ row_idx values
        → row_idx ≡ rows_before t.rows t.cols n n ++ drop (kept_count n t) row_idx₀
    row_idx-is {row_idx₀} q =
        sym (take-append-drop kept row_idx)
        ∙ ap₂ ◌++◌ (p.rows_front ∙ columns_end max_columns small max_columns small)
        (q.rows_rest ∙ ap (λ (k : ℕ). drop k row_idx₀) kept-is)

    pub values_is : {row_idx₀ : List ℕ} {values₀ : List Float} → Rest 0 kept row_idx₀ values₀ row_idx values
        → values ≡ values_before t n n ++ drop (kept_count n t) values₀
    values_is {row_idx₀} {values₀} q =
        sym (take-append-drop kept values)
        ∙ ap₂ ◌++◌ (p.values_front ∙ values_end max_columns small max_columns small)
        (q.values_rest ∙ ap (λ (k : ℕ). drop k values₀) kept-is)
