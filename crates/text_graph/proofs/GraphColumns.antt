-- The graph's pointers rise from 0 to the count, and the rows of a column rise below n: each column holds the filled rows in their order.
-- By induction on the rows of a column; a place of the graph is a place of the column whose pointers enclose it.
use mathlib.Core.Path.{◌≡◌, refl, ap, ◌∙◌}
use mathlib.Core.Bool.{Bool, true, false}
use mathlib.Core.List.{List, [], ◌∷◌, ◌++◌, append-nil}
use mathlib.Core.Logic.{◌⊎◌, inl, inr}
use Prim.Native.Nat.{ℕ, zero, suc, ◌+◌, ◌-◌, ◌≤◌, ◌<◌}
use native.Mathlib.Nat.{not-suc-le-zero, le_refl}
use native.Mathlib.Decide.{ℕ_discrete}
use native.Mathlib.Omega.{arith}
use lib.ListN.{length, get_or, length-append, get_or-append}
use lib.Seq.{get_or-append-add}
use Rattle.slices.specs.Lists.{keep, tabulate}
use Rattle.triplets.specs.Built.{filled, column_rows, rows_before}
use Rattle.sparse.specs.Columns.{Pointers, Columns}
use Rattle.sparse.proofs.Accepted.{column_of_lem}
use Rattle.slices.proofs.Lists.{get_d_last, last_or, table_at}
use Rattle.text_graph.specs.Graph.{file_graph}

-- ---- lists that follow one another
module _ {A : Type 0} (d : A) (held joined : ℕ → List A) (more : (c : ℕ) → joined (suc c) ≡ joined c ++ held c) where
  longer : (c : ℕ) → length (joined (suc c)) ≡ length (joined c) + length (held c)
  longer c = ap length (more c) ∙ length-append (joined c) (held c)

  reach : (c m : ℕ) → c < m → length (joined c) + length (held c) ≤ length (joined m)
  reach c zero h = absurd (not-suc-le-zero h)
  reach c (suc m) h = go (reach c m) (ℕ_discrete c m)
    where
      go : (c < m → length (joined c) + length (held c) ≤ length (joined m)) → Dec (c ≡ m) → length (joined c) + length (held c) ≤ length (joined (suc m))
      go f (yes e) = rw (← e) (omega (arith, longer c))
      go f (no e) = omega (arith, f (omega arith), longer m)

  -- element p of part c
  pub part_at : (c p m : ℕ) → c < m → p < length (held c) → get_or (joined m) (length (joined c) + p) d ≡ get_or (held c) p d
  part_at c p zero h l = absurd (not-suc-le-zero h)
  part_at c p (suc m) h l = go (part_at c p m) (ℕ_discrete c m)
    where
      go : (c < m → p < length (held c) → get_or (joined m) (length (joined c) + p) d ≡ get_or (held c) p d) → Dec (c ≡ m)
          → get_or (joined (suc m)) (length (joined c) + p) d ≡ get_or (held c) p d
      go f (yes e) = rw (← e, more c) (get_or-append-add (joined c) (held c) p d)
      go f (no e) = rw (more m) (get_or-append (joined m) (held m) d (length (joined c) + p) (omega (arith, reach c m (omega arith))) ∙ f (omega arith) l)

-- ---- one column
-- place p of a list with i kept after it or not: one of the list, or the last
abbrev Lies : List ℕ → Bool → ℕ → ℕ → Type 0
Lies l b i p = ((p < length l) × (get_or (l ++ keep b i) p 0 ≡ get_or l p 0)) ⊎ ((p ≡ length l) × (get_or (l ++ keep b i) p 0 ≡ i))

lies : (l : List ℕ) (b : Bool) (i p : ℕ) → p < length (l ++ keep b i) → Lies l b i p
lies l false i p h = inl (rw (append-nil l) at h, rw (append-nil l))
lies l true i p h = go (last_or l i p h)
  where
    go : (p < length l) ⊎ (p ≡ length l) → Lies l true i p
    go (inl s) = inl (s, get_or-append l (i ∷ []) 0 p s)
    go (inr s) = inr (s, rw s (get_d_last l i 0))

module _ (rows cols : List ℕ) (j : ℕ) where
  -- place p of its rows below i
  column_below_lem : (i p : ℕ) → p < length (column_rows rows cols j i) → get_or (column_rows rows cols j i) p 0 < i
  unfolding column_rows
  column_below_lem zero p h = absurd (not-suc-le-zero h)
  column_below_lem (suc i) p h = go (filled rows cols i j (length rows)) (column_below_lem i p) (lies old (filled rows cols i j (length rows)) i p h)
    where
      old : List ℕ
      old = column_rows rows cols j i

      go : (b : Bool) → (p < length old → get_or old p 0 < i) → Lies old b i p → get_or (old ++ keep b i) p 0 < suc i
      go b f (inl s) = rw s.1 (omega (arith, f s.0))
      go b f (inr s) = rw s.1 (omega arith)

  column_rises : (i p : ℕ) → suc p < length (column_rows rows cols j i) → get_or (column_rows rows cols j i) p 0 < get_or (column_rows rows cols j i) (suc p) 0
  unfolding column_rows
  column_rises zero p h = absurd (not-suc-le-zero h)
  column_rises (suc i) p h =
      go (filled rows cols i j (length rows)) (column_rises i p) (lies old (filled rows cols i j (length rows)) i p (omega arith))
      (lies old (filled rows cols i j (length rows)) i (suc p) h)
    where
      old : List ℕ
      old = column_rows rows cols j i

      go : (b : Bool) → (suc p < length old → get_or old p 0 < get_or old (suc p) 0) → Lies old b i p → Lies old b i (suc p)
          → get_or (old ++ keep b i) p 0 < get_or (old ++ keep b i) (suc p) 0
      go b f (inl s) (inl u) = rw (s.1, u.1) (f u.0)
      go b f (inl s) (inr u) = rw (s.1, u.1) (column_below_lem i p s.0)
      go b f (inr s) (inl u) = let z : ⊥ = omega (arith, s.0, u.0) in absurd z
      go b f (inr s) (inr u) = let z : ⊥ = omega (arith, s.0, u.0) in absurd z

-- ---- all columns
-- entry k of the graph is place `place` of column `col`
pub record Entry (n : ℕ) (rows cols : List ℕ) (k : ℕ) : Type 0 where
  pub col : ℕ
  pub place : ℕ
  pub col_in : col < n
  pub place_in : place < length (column_rows rows cols col n)
  pub at : k ≡ length (rows_before rows cols n col) + place

module _ (n : ℕ) (rows cols : List ℕ) where
  pub next_before : (j : ℕ) → length (rows_before rows cols n (suc j)) ≡ length (rows_before rows cols n j) + length (column_rows rows cols j n)
  unfolding rows_before
  next_before j = length-append (rows_before rows cols n j) (column_rows rows cols j n)

  pub pointer_at : (j : ℕ) → j ≤ n → get_or (tabulate (suc n) (λ c. length (rows_before rows cols n c))) j 0 ≡ length (rows_before rows cols n j)
  pointer_at j h = table_at (suc n) (λ c. length (rows_before rows cols n c)) j (omega arith)

  graph_pointers_lem : Pointers n (tabulate (suc n) (λ j. length (rows_before rows cols n j))) (length (rows_before rows cols n n))
  unfolding rows_before
  graph_pointers_lem =
      record {
        first = pointer_at 0 (omega arith);
        last = pointer_at n (le_refl n);
        rises = λ j h. omega (arith, pointer_at j (omega arith), pointer_at (suc j) h, next_before j);
      }

  pub entry_at : (k : ℕ) → k < length (rows_before rows cols n n) → Entry n rows cols k
  entry_at k h =
      let c = column_of_lem graph_pointers_lem k n (le_refl n) (rw graph_pointers_lem.last h) in
      record {
        col = c.0;
        place = k - length (rows_before rows cols n c.0);
        col_in = c.1;
        place_in = omega (arith, c.2, c.3, pointer_at c.0 (omega (arith, c.1)), pointer_at (suc c.0) c.1, next_before c.0);
        at = omega (arith, c.2, pointer_at c.0 (omega (arith, c.1)));
      }

  pub row_at : (j p k : ℕ) → j < n → p < length (column_rows rows cols j n) → k ≡ length (rows_before rows cols n j) + p
      → get_or (rows_before rows cols n n) k 0 ≡ get_or (column_rows rows cols j n) p 0
  row_at j p k h l e = rw e (part_at 0 (λ c. column_rows rows cols c n) (rows_before rows cols n) (λ c. unfold rows_before in refl) j p n h l)

  row_below : (k : ℕ) → Entry n rows cols k → get_or (rows_before rows cols n n) k 0 < n
  row_below k e = rw (row_at e.col e.place k e.col_in e.place_in e.at) (column_below_lem rows cols e.col n e.place e.place_in)

  rows_rise : (j k : ℕ) → j < n → get_or (tabulate (suc n) (λ c. length (rows_before rows cols n c))) j 0 ≤ k
      → suc k < get_or (tabulate (suc n) (λ c. length (rows_before rows cols n c))) (suc j) 0 → get_or (rows_before rows cols n n) k 0 < get_or
      (rows_before rows cols n n) (suc k) 0
  rows_rise j k h l u =
      let p : ℕ = k - length (rows_before rows cols n j) in
      let e : k ≡ length (rows_before rows cols n j) + p = omega (arith, pointer_at j (omega arith)) in
      let b : suc p < length (column_rows rows cols j n) = omega (arith, pointer_at j (omega arith), pointer_at (suc j) h, next_before j) in
      rw (row_at j p k h (omega arith) e, row_at j (suc p) (suc k) h b (omega arith)) (column_rises rows cols j n p b)

  graph_rises : (costs : List ℕ) (j k : ℕ) → j < n → get_or (file_graph n rows cols costs).pattern.col_ptr j 0 ≤ k
      → suc k < get_or (file_graph n rows cols costs).pattern.col_ptr (suc j) 0
      → get_or (file_graph n rows cols costs).pattern.row_idx k 0 < get_or (file_graph n rows cols costs).pattern.row_idx (suc k) 0
  graph_rises costs = rows_rise

  pub graph_columns : (costs : List ℕ) → Columns n (file_graph n rows cols costs).pattern.col_ptr (file_graph n rows cols costs).pattern.row_idx
  graph_columns costs = record { pointers = graph_pointers_lem; inside = λ k h. row_below k (entry_at k h); rising = graph_rises costs }
