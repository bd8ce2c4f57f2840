-- Rounds mark exactly the columns that an alternating path leads to: a round that marks no more is the last that does, and n rounds cannot each mark more.
use mathlib.Core.Path.{◌≡◌, refl, sym, ap, ◌∙◌}
use mathlib.Core.Logic.{◌⊎◌, inl, inr}
use mathlib.Core.Bool.{Bool, true, false, ◌&&◌, ◌||◌}
use mathlib.Core.List.{List}
use Prim.Native.Nat.{ℕ, zero, suc, ◌≤◌, ◌<◌}
use native.Mathlib.Nat.{mul-one}
use native.Mathlib.Decide.{ℕ_discrete, dec_lt}
use native.Mathlib.Omega.{arith}
use borrow.Author.Tests.{eqb-true, eq-eqb}
use lib.Dec.{eqb}
use lib.ListN.{length, get_or}
use Rattle.limits.specs.Limits.{none}
use Rattle.slices.proofs.Bools.{both}
use Rattle.slices.proofs.Lists.{length_table, table_at}
use Rattle.sparse.specs.Columns.{Columns}
use Rattle.matching.specs.Sum.{sum_to, updated}
use Rattle.matching.proofs.Updated.{updated_same, updated_other}
use Rattle.matching.proofs.Sums.{sum_le, sum_const, sum_updated}
use Rattle.sparse.specs.Pattern.{Pattern, row_of, column_of, entries}
use Rattle.sparse.proofs.Columns.{in_range_lem}
use Rattle.match_check.proofs.Pairing.{some_place, some_found}
use Rattle.match_largest.specs.Marks.{row_at, is_free, mark, is_met, columns_after, marked_columns, marked_rows}
use Rattle.match_largest.specs.Call.{Reached, ReachedRow}

-- ---- bits
pub mark_is : (b : Bool) → mark b ≡ 1 → b ≡ true
mark_is true e = refl
mark_is false e = let z : ⊥ = omega arith in absurd z

pub is_mark : {b : Bool} → b ≡ true → mark b ≡ 1
is_mark e = ap mark e

pub mark_bit : (b : Bool) → mark b ≤ 1
mark_bit true = omega arith
mark_bit false = omega arith

pub bit_le : (a b : ℕ) → a ≤ 1 → (a ≡ 1 → b ≡ 1) → a ≤ b
bit_le a b h f = elim (ℕ_discrete a 1) [
  | yes e ↦ omega (arith, f e)
  | no d ↦ omega arith
]

pub same_bits : (a b : ℕ) → a ≤ 1 → b ≤ 1 → (a ≡ 1 → b ≡ 1) → (b ≡ 1 → a ≡ 1) → a ≡ b
same_bits a b h l f f' = omega (arith, bit_le a b h f, bit_le b a l f')

or_is : (a b : Bool) → (a || b) ≡ true → (a ≡ true) ⊎ (b ≡ true)
or_is true b e = inl refl
or_is false b e = inr e

or_first : {a : Bool} (b : Bool) → a ≡ true → (a || b) ≡ true
or_first b e = ap (λ (t : Bool). t || b) e

or_second : (a : Bool) {b : Bool} → b ≡ true → (a || b) ≡ true
or_second true e = refl
or_second false e = e

-- a sum with a smaller summand
pub sum_lt : (n : ℕ) (v w : ℕ → ℕ) (i : ℕ) → i < n → ((j : ℕ) → j < n → v j ≤ w j) → v i < w i → sum_to n v < sum_to n w
sum_lt n v w i b h l = omega (arith, sum_updated n w i (v i) b, sum_le n v (updated w i (v i)) at)
  where
    at : (j : ℕ) → j < n → v j ≤ updated w i (v i) j
    at j c = elim (ℕ_discrete j i) [
      | yes e ↦ omega (arith, ap v e, ap (updated w i (v i)) e, updated_same w i (v i))
      | no d ↦ omega (arith, updated_other w i (v i) j d, h j c)
    ]

-- ---- rows that a marked column has an entry in
module _ (g : Pattern) (columns : List ℕ) (i : ℕ) where
  pub met_entry : is_met g columns i ≡ true → (k : ℕ) × (k < entries g) × (row_of g k ≡ i) × (get_or columns (column_of g k) 0 ≡ 1)
  unfolding is_met
  met_entry e =
      let r = some_place (λ k. eqb (row_of g k) i && eqb (get_or columns (column_of g k) 0) 1) (entries g) 0 e in
      let b = both (eqb (row_of g r.0) i) (eqb (get_or columns (column_of g r.0) 0) 1) r.3 in
      (r.0, omega (arith, r.2), eqb-true _ _ b.0, eqb-true _ _ b.1)

  pub entry_met : (k : ℕ) → k < entries g → row_of g k ≡ i → get_or columns (column_of g k) 0 ≡ 1 → is_met g columns i ≡ true
  unfolding is_met
  entry_met k h e m =
      some_found (λ l. eqb (row_of g l) i && eqb (get_or columns (column_of g l) 0) 1) (entries g) 0 k (omega arith) (omega arith)
      (rw (eq-eqb (row_of g k) i e, eq-eqb (get_or columns (column_of g k) 0) 1 m) refl)

module _ (g : Pattern) (perm : List ℕ) (w : Columns g.n g.col_ptr g.row_idx) where
  -- column j is marked after so many rounds
  abbrev At : ℕ → ℕ → Type 0
  At t j = get_or (columns_after g perm t) j 0 ≡ 1

  first-at : (j : ℕ) → j < g.n → get_or (columns_after g perm 0) j 0 ≡ mark (is_free perm j)
  unfolding columns_after
  first-at j h = table_at g.n (λ c. mark (is_free perm c)) j h

  next_at : (t j : ℕ) → j < g.n → get_or (columns_after g perm (suc t)) j 0 ≡ mark (is_free perm j || is_met g (columns_after g perm t) (row_at perm j))
  unfolding columns_after
  next_at t j h = table_at g.n (λ c. mark (is_free perm c || is_met g (columns_after g perm t) (row_at perm c))) j h

  free_at : (t j : ℕ) → j < g.n → is_free perm j ≡ true → At t j
  free_at zero j h e = first-at j h ∙ is_mark e
  free_at (suc t) j h e = next_at t j h ∙ is_mark (or_first (is_met g (columns_after g perm t) (row_at perm j)) e)

  by_entry : (t j k : ℕ) → j < g.n → k < entries g → row_of g k ≡ row_at perm j → At t (column_of g k) → At (suc t) j
  by_entry t j k h l e m = next_at t j h ∙ is_mark (or_second (is_free perm j) (entry_met g (columns_after g perm t) (row_at perm j) k l e m))

  -- a column that is marked in a round is free, or has the row of an entry of one marked before
  abbrev Came : ℕ → ℕ → Type 0
  Came t j = (is_free perm j ≡ true) ⊎ ((k : ℕ) × (k < entries g) × (row_of g k ≡ row_at perm j) × At t (column_of g k))

  came : (t j : ℕ) → j < g.n → At (suc t) j → Came t j
  came t j h m = go (or_is (is_free perm j) _ (mark_is _ (sym (next_at t j h) ∙ m)))
    where
      go : (is_free perm j ≡ true) ⊎ (is_met g (columns_after g perm t) (row_at perm j) ≡ true) → Came t j
      go (inl e) = inl e
      go (inr e) = inr (met_entry g (columns_after g perm t) (row_at perm j) e)

  grows : (t j : ℕ) → j < g.n → At t j → At (suc t) j
  grows zero j h m = free_at 1 j h (mark_is (is_free perm j) (sym (first-at j h) ∙ m))
  grows (suc t) j h m = go (came t j h m) (λ k b. grows t (column_of g k) ((in_range_lem g w).cols k b))
    where
      go : Came t j → ((k : ℕ) → k < entries g → At t (column_of g k) → At (suc t) (column_of g k)) → At (suc (suc t)) j
      go (inl e) f = free_at (suc (suc t)) j h e
      go (inr c) f = by_entry (suc t) j c.0 h c.1 c.2 (f c.0 c.1 c.3)

  -- a round that marks no more
  abbrev Stable : ℕ → Type 0
  Stable t = (j : ℕ) → j < g.n → At (suc t) j → At t j

  stays : (t : ℕ) → Stable t → Stable (suc t)
  stays t s j h m = go (came (suc t) j h m)
    where
      go : Came (suc t) j → At (suc t) j
      go (inl e) = free_at (suc t) j h e
      go (inr c) = by_entry t j c.0 h c.1 c.2 (s (column_of g c.0) ((in_range_lem g w).cols c.0 c.1) c.3)

  bit : (t j : ℕ) → j < g.n → get_or (columns_after g perm t) j 0 ≤ 1
  bit zero j h = omega (arith, first-at j h, mark_bit (is_free perm j))
  bit (suc t) j h = omega (arith, next_at t j h, mark_bit (is_free perm j || is_met g (columns_after g perm t) (row_at perm j)))

  abbrev count : ℕ → ℕ
  count t = sum_to g.n (λ j. get_or (columns_after g perm t) j 0)

  -- as long as each round marks more, there are as many marks as rounds
  steady : (t : ℕ) → Stable t ⊎ (t ≤ count t)
  steady zero = inr (omega arith)
  steady (suc t) = go (steady t) (dec_lt (count t) (count (suc t)))
    where
      settled : (count t < count (suc t) → ⊥) → Stable t
      settled n j h m = elim (ℕ_discrete (get_or (columns_after g perm t) j 0) 1) [
        | yes e ↦ e
        | no d ↦ absurd (n (sum_lt g.n (λ c. get_or (columns_after g perm t) c 0) (λ c. get_or (columns_after g perm (suc t)) c 0) j h
            (λ c b. bit_le _ _ (bit t c b) (grows t c b)) (omega (arith, bit t j h, m))))
      ]

      go : Stable t ⊎ (t ≤ count t) → Dec (count t < count (suc t)) → Stable (suc t) ⊎ (suc t ≤ count (suc t))
      go (inl s) d = inl (stays t s)
      go (inr h) (yes l) = inr (omega arith)
      go (inr h) (no n) = inl (stays t (settled n))

  stable : Stable g.n
  stable = go (steady g.n)
    where
      go : Stable g.n ⊎ (g.n ≤ count g.n) → Stable g.n
      go (inl s) = s
      go (inr l) = λ j h m. elim (ℕ_discrete (get_or (columns_after g perm g.n) j 0) 1) [
        | yes e ↦ e
        | no d ↦
            let z : ⊥ = omega (
              arith,
              sum_lt g.n (λ c. get_or (columns_after g perm g.n) c 0) (λ c. 1) j h (λ c b. bit g.n c b)
                  (omega (arith, bit g.n j h)),
              sum_const g.n 1,
              mul-one g.n,
            ) in
            absurd z
      ]

  -- ---- the marks
  reached_at : (t j : ℕ) → j < g.n → At t j → Reached g perm j
  reached_at zero j h m = Reached.begins h (eqb-true (row_at perm j) none (mark_is (is_free perm j) (sym (first-at j h) ∙ m)))
  reached_at (suc t) j h m = go (came t j h m) (λ k b. reached_at t (column_of g k) ((in_range_lem g w).cols k b))
    where
      go : Came t j → ((k : ℕ) → k < entries g → At t (column_of g k) → Reached g perm (column_of g k)) → Reached g perm j
      go (inl e) f = Reached.begins h (eqb-true (row_at perm j) none e)
      go (inr c) f = Reached.goes c.0 c.1 (f c.0 c.1 c.3) h (sym c.2)

  pub column_reached_lem : (j : ℕ) → j < g.n → get_or (marked_columns g perm) j 0 ≡ 1 → Reached g perm j
  unfolding marked_columns
  column_reached_lem j h m = reached_at g.n j h m

  pub reached_column : {j : ℕ} → Reached g perm j → get_or (marked_columns g perm) j 0 ≡ 1
  unfolding marked_columns
  reached_column {j} (Reached.begins h e) = free_at g.n j h (eq-eqb (row_at perm j) none e)
  reached_column {j} (Reached.goes k b r h e) = stable j h (by_entry g.n j k h b (sym e) (reached_column r))

  pub column_bit : (j : ℕ) → j < g.n → get_or (marked_columns g perm) j 0 ≤ 1
  unfolding marked_columns
  column_bit j h = bit g.n j h

  -- one round more changes nothing
  pub column-is : (j : ℕ) → j < g.n → get_or (marked_columns g perm) j 0 ≡ mark (is_free perm j || is_met g (marked_columns g perm) (row_at perm j))
  unfolding marked_columns
  column-is j h = same_bits _ _ (bit g.n j h) (bit (suc g.n) j h) (grows g.n j h) (stable j h) ∙ next_at g.n j h

  pub row_is : (i : ℕ) → i < g.n → get_or (marked_rows g perm) i 0 ≡ mark (is_met g (marked_columns g perm) i)
  unfolding marked_rows
  row_is i h = table_at g.n (λ r. mark (is_met g (marked_columns g perm) r)) i h

  pub row_bit_lem : (i : ℕ) → i < g.n → get_or (marked_rows g perm) i 0 ≤ 1
  row_bit_lem i h = omega (arith, row_is i h, mark_bit (is_met g (marked_columns g perm) i))

  pub row_reached : (i : ℕ) → i < g.n → get_or (marked_rows g perm) i 0 ≡ 1 → ReachedRow g perm i
  row_reached i h m =
      let c = met_entry g (marked_columns g perm) i (mark_is _ (sym (row_is i h) ∙ m)) in
      record { entry = c.0; within = c.1; row = c.2; column = column_reached_lem (column_of g c.0) ((in_range_lem g w).cols c.0 c.1) c.3 }

  pub reached_row : (i : ℕ) → i < g.n → ReachedRow g perm i → get_or (marked_rows g perm) i 0 ≡ 1
  reached_row i h r = row_is i h ∙ is_mark (entry_met g (marked_columns g perm) i r.entry r.within r.row (reached_column r.column))

pub columns_length : (g : Pattern) (perm : List ℕ) → length (marked_columns g perm) ≡ g.n
unfolding marked_columns columns_after
columns_length g perm = go g.n
  where
    go : (t : ℕ) → length (columns_after g perm t) ≡ g.n
    go zero = length_table g.n (λ j. mark (is_free perm j))
    go (suc t) = length_table g.n (λ j. mark (is_free perm j || is_met g (columns_after g perm t) (row_at perm j)))

pub rows_length : (g : Pattern) (perm : List ℕ) → length (marked_rows g perm) ≡ g.n
unfolding marked_rows
rows_length g perm = length_table g.n (λ i. mark (is_met g (marked_columns g perm) i))
