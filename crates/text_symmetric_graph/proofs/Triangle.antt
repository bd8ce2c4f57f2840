-- The matrix of entries is a lower triangle: its columns are in order, and a position that is filled has an entry, which is not above the diagonal.
use mathlib.Core.Path.{◌≡◌, refl}
use mathlib.Core.Bool.{Bool, true, false, ◌||◌, false≢true}
use mathlib.Core.List.{List}
use Prim.Native.Nat.{ℕ, zero, suc, ◌+◌, ◌-◌, ◌≤◌, ◌<◌}
use native.Mathlib.Nat.{le_refl, not-suc-le-zero}
use native.Mathlib.Omega.{arith}
use borrow.Author.Tests.{eqb-true}
use lib.Dec.{eqb}
use lib.ListN.{length, get_or}
use Rattle.slices.specs.Lists.{tabulate}
use Rattle.slices.proofs.Bools.{both}
use Rattle.triplets.specs.Built.{stands, filled, column_rows, rows_before}
use Rattle.sparse.specs.Columns.{Lower}
use Rattle.mc64_columns.proofs.Kept.{keep_all}
use Rattle.text_graph.proofs.GraphColumns.{next_before, pointer_at, row_at}

module _ (rows cols : List ℕ) (lower : (k : ℕ) → k < length rows → get_or cols k 0 ≤ get_or rows k 0) where
  filled_lower : (i j k : ℕ) → k ≤ length rows → filled rows cols i j k ≡ true → j ≤ i
  unfolding filled
  filled_lower i j zero h e = absurd (false≢true e)
  filled_lower i j (suc k) h e = go (filled rows cols i j k) (stands rows cols i j k) (filled_lower i j k (omega arith)) standing e
    where
      standing : stands rows cols i j k ≡ true → j ≤ i
      standing s =
          let b = both (eqb (get_or rows k 0) i) (eqb (get_or cols k 0) j) s in
          omega (arith, eqb-true (get_or rows k 0) i b.0, eqb-true (get_or cols k 0) j b.1, lower k h)

      go : (f s : Bool) → (f ≡ true → j ≤ i) → (s ≡ true → j ≤ i) → (f || s) ≡ true → j ≤ i
      go true s a b e = a refl
      go false s a b e = b e

  -- place p of a column's rows below i
  column_lower : (j i p : ℕ) → p < length (column_rows rows cols j i) → j ≤ get_or (column_rows rows cols j i) p 0
  unfolding column_rows
  column_lower j zero p h = absurd (not-suc-le-zero h)
  column_lower j (suc i) p h =
      keep_all (column_rows rows cols j i) i (λ x. j ≤ x) p (filled rows cols i j (length rows)) (column_lower j i p)
      (filled_lower i j (length rows) (le_refl (length rows))) h

  pub matrix_lower : (n : ℕ) → Lower n (tabulate (suc n) (λ j. length (rows_before rows cols n j))) (rows_before rows cols n n)
  matrix_lower n = record { below = below }
    where
      below : (j k : ℕ) → j < n → get_or (tabulate (suc n) (λ c. length (rows_before rows cols n c))) j 0 ≤ k
          → k < get_or (tabulate (suc n) (λ c. length (rows_before rows cols n c))) (suc j) 0
          → j ≤ get_or (rows_before rows cols n n) k 0
      below j k h l u =
          let p : ℕ = k - length (rows_before rows cols n j) in
          let e : k ≡ length (rows_before rows cols n j) + p = omega (arith, pointer_at n rows cols j (omega arith)) in
          let b : p < length (column_rows rows cols j n) =
          omega (arith, pointer_at n rows cols j (omega arith), pointer_at n rows cols (suc j) h, next_before n rows cols j) in
          rw (row_at n rows cols j p k h b e) (column_lower j n p b)
