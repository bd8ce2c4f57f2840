-- The columns of an accepted pattern: each entry stands in just one, which `column_of` counts out; its graph is simple.
use mathlib.Core.Path.{◌≡◌, sym, ◌∙◌, subst}
use Prim.Native.Nat.{ℕ, zero, suc, ◌+◌, ◌-◌, ◌≤◌, ◌<◌, min}
use native.Mathlib.Nat.{le_trans, le_refl, le_of_eq, lt_of_lt_of_le, lt_trans}
use native.Mathlib.Omega.{arith}
use native.Mathlib.Decide.{dec_lt}
use borrow.Author.Tests.{le-leb, lt-leb}
use lib.Dec.{leb}
use lib.ListN.{get_or}
use Rattle.matching.specs.Sum.{sum_to, or_zero}
use Rattle.matching.specs.Matching.{InRange, Simple}
use Rattle.sparse.specs.Pattern.{Pattern, bipartite, row_of, column_of, start, end, entries, InColumn}
use Rattle.sparse.specs.Columns.{Columns}

module _ (p : Pattern) (w : Columns p.n p.col_ptr p.row_idx) where
  -- pointers rise over any distance
  rises : (m j : ℕ) → j + m ≤ p.n → start p j ≤ get_or p.col_ptr (j + m) 0
  rises zero j h = subst (λ (x : ℕ). start p j ≤ get_or p.col_ptr x 0) (let e : j ≡ j + 0 = omega arith in e) (le_refl (start p j))
  rises (suc m) j h =
      le_trans (rises m j (omega arith))
      (subst (λ (x : ℕ). get_or p.col_ptr (j + m) 0 ≤ get_or p.col_ptr x 0) (let e : suc (j + m) ≡ j + suc m = omega arith in e)
      (w.pointers.rises (j + m) (omega arith)))

  pub pointers_rise : (i j : ℕ) → i ≤ j → j ≤ p.n → start p i ≤ start p j
  pointers_rise i j h l = subst (λ (x : ℕ). start p i ≤ start p x) (let e : i + (j - i) ≡ j = omega arith in e) (rises (j - i) i (omega arith))

  pub in_entries : (j k : ℕ) → InColumn p j k → k < entries p
  in_entries j k c = lt_of_lt_of_le c.below (le_trans (pointers_rise (suc j) p.n c.column (le_refl p.n)) (le_of_eq w.pointers.last))

  pub row_below : (j k : ℕ) → InColumn p j k → row_of p k < p.n
  row_below j k c = w.inside k (in_entries j k c)

  -- as many of the first m columns end at or before k as there are, up to the column of k
  ended : (j k m : ℕ) → InColumn p j k → m ≤ p.n → sum_to m (λ i. or_zero (leb (end p i) k) 1) ≡ min m j
  unfolding sum_to
  ended j k zero c h = let e : 0 ≡ min 0 j = omega arith in e
  ended j k (suc m) c h = go (dec_lt m j) (ended j k m c (omega arith))
    where
      go : Dec (m < j) → sum_to m (λ i. or_zero (leb (end p i) k) 1) ≡ min m j → sum_to m (λ i. or_zero (leb (end p i) k) 1) + or_zero
          (leb (end p m) k) 1 ≡ min (suc m) j
      go (yes l) e = rw (e, le-leb (end p m) k (le_trans (pointers_rise (suc m) j l (omega (arith, c.column))) c.above)) (omega arith)
      go (no l) e = rw (e, lt-leb (end p m) k (lt_of_lt_of_le c.below (pointers_rise (suc j) (suc m) (omega arith) h))) (omega arith)

  pub column-is : (j k : ℕ) → InColumn p j k → column_of p k ≡ j
  unfolding column_of
  column-is j k c = ended j k p.n c (le_refl p.n) ∙ (let e : min p.n j ≡ j = omega (arith, c.column) in e)

  -- a column is found below any pointer that is past the entry
  found : (m k : ℕ) → m ≤ p.n → k < start p m → (j : ℕ) × InColumn p j k
  found zero k h l = let z : ⊥ = omega (arith, w.pointers.first) in absurd z
  found (suc m) k h l = go (dec_lt k (start p m)) (found m k (omega arith))
    where
      go : Dec (k < start p m) → (k < start p m → (j : ℕ) × InColumn p j k) → (j : ℕ) × InColumn p j k
      go (yes l') f = f l'
      go (no l') f = (m, record { column = h; above = omega arith; below = l })

  pub in_column_lem : (k : ℕ) → k < entries p → InColumn p (column_of p k) k
  in_column_lem k h =
      let c : (j : ℕ) × InColumn p j k = found p.n k (le_refl p.n) (omega (arith, w.pointers.last)) in
      subst (λ (j : ℕ). InColumn p j k) (sym (column-is c.0 k c.1)) c.1

  -- rows rise over any distance within a column
  rows_rise : (m j k : ℕ) → InColumn p j k → suc (k + m) < end p j → row_of p k < row_of p (suc (k + m))
  rows_rise zero j k c h = subst (λ (x : ℕ). row_of p k < row_of p (suc x)) (let e : k ≡ k + 0 = omega arith in e)
      (w.rising j k c.column c.above (omega arith))
  rows_rise (suc m) j k c h =
      lt_trans (rows_rise m j k c (omega arith))
      (subst (λ (x : ℕ). row_of p (suc (k + m)) < row_of p (suc x)) (let e : suc (k + m) ≡ k + suc m = omega arith in e)
      (w.rising j (suc (k + m)) c.column (omega (arith, c.above)) (omega arith)))

  pub rows_apart : (j k l : ℕ) → InColumn p j k → InColumn p j l → k < l → row_of p k < row_of p l
  rows_apart j k l c d h = subst (λ (x : ℕ). row_of p k < row_of p x) (let e : suc (k + (l - suc k)) ≡ l = omega arith in e)
      (rows_rise (l - suc k) j k c (omega (arith, d.below)))

  -- two entries of one column with the same row are one
  pub same_entry : (j k l : ℕ) → InColumn p j k → InColumn p j l → row_of p k ≡ row_of p l → k ≡ l
  same_entry j k l c d e = go (dec_lt k l) (dec_lt l k)
    where
      go : Dec (k < l) → Dec (l < k) → k ≡ l
      go (yes h) q = let z : ⊥ = omega (arith, rows_apart j k l c d h) in absurd z
      go (no h) (yes q) = let z : ⊥ = omega (arith, rows_apart j l k d c q) in absurd z
      go (no h) (no q) = omega arith

  pub simple : Simple (bipartite p)
  simple k l h i e f = same_entry (column_of p k) k l (in_column_lem k h) (subst (λ (j : ℕ). InColumn p j l) (sym f) (in_column_lem l i)) e

  pub in_range_lem : InRange (bipartite p)
  in_range_lem = record { rows = w.inside; cols = λ k h. (in_column_lem k h).column }
