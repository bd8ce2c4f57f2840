-- The values of the first k triplets, and what one more changes, as Prefix has it of the rows: the last sum grows, or one more is appended.
use mathlib.Core.Path.{◌≡◌, refl, sym, ap, ap₂, ◌∙◌}
use mathlib.Core.Bool.{Bool, true, false}
use mathlib.Core.List.{List, [], ◌∷◌, ◌++◌, map, append-nil, append_assoc}
use Prim.Native.Nat.{ℕ, zero, suc, ◌+◌, ◌≤◌, ◌<◌}
use native.Mathlib.Nat.{not-suc-le-zero, le_refl}
use native.Mathlib.Decide.{ℕ_discrete}
use native.Mathlib.Omega.{arith}
use borrow.Author.Tests.{eq-eqb, ne_eqb}
use lib.Ieee.{Float, nan, binary64, add}
use lib.ListN.{length, get_or, length-append, length-map}
use Rattle.float64.specs.Constants as Constants
use Rattle.slices.specs.Lists.{keep}
use Rattle.triplets.specs.Built.{Triplets, stands, filled, plus, sum_at}
use Rattle.triplets.proofs.Positions.{none_yet, map-append}
use Rattle.triplets_sorted.specs.inner.Steps.{column_to, rows_to, values_to}
use Rattle.triplets_sorted.proofs.Prefix.{empty_column, other, later_still, own_before, own_after, own_bare}

pub values_none : (t : Triplets) (n m : ℕ) → values_to t 0 n m ≡ []
unfolding values_to filled
values_none t n zero = refl
values_none t n (suc m) = rw (values_none t n m, empty_column t.rows t.cols 0 m n (λ i. refl))

-- ---- the first k triplets
module _ (t : Triplets) (k : ℕ) where
  -- as many values as rows
  pub values_as_rows : (n m : ℕ) → length (values_to t k n m) ≡ length (rows_to t.rows t.cols k n m)
  unfolding rows_to values_to
  values_as_rows n zero = refl
  values_as_rows n (suc m) =
      length-append (values_to t k n m) (map (λ i. sum_at t i m k) (column_to t.rows t.cols k m n))
      ∙ ap₂ ◌+◌ (values_as_rows n m) (length-map (column_to t.rows t.cols k m n) (λ i. sum_at t i m k))
      ∙ sym (length-append (rows_to t.rows t.cols k n m) (column_to t.rows t.cols k m n))

  -- columns that are empty past c
  values_end : (n c m : ℕ) → c < m → ((i j : ℕ) → c < j → filled t.rows t.cols i j k ≡ false)
      → values_to t k n m ≡ values_to t k n c ++ map (λ i. sum_at t i c k) (column_to t.rows t.cols k c n)
  unfolding values_to
  values_end n c zero h none = absurd (not-suc-le-zero h)
  values_end n c (suc m) h none = go (values_end n c m) (ℕ_discrete m c)
    where
      go : (c < m → ((i j : ℕ) → c < j → filled t.rows t.cols i j k ≡ false)
          → values_to t k n m ≡ values_to t k n c ++ map (λ i. sum_at t i c k) (column_to t.rows t.cols k c n))
          → Dec (m ≡ c)
          → values_to t k n m ++ map (λ i. sum_at t i m k) (column_to t.rows t.cols k m n)
          ≡ values_to t k n c ++ map (λ i. sum_at t i c k) (column_to t.rows t.cols k c n)
      go f (yes e) = rw e
      go f (no e) =
          rw (empty_column t.rows t.cols k m n (λ i. none i m (omega arith)), append-nil (values_to t k n m)) (f (omega arith) none)

  -- ---- one more
  sum_still : (i j : ℕ) → (get_or t.rows k 0 ≡ i → get_or t.cols k 0 ≡ j → ⊥) → sum_at t i j (suc k) ≡ sum_at t i j k
  unfolding sum_at
  sum_still i j ne = go (ℕ_discrete (get_or t.rows k 0) i) (ℕ_discrete (get_or t.cols k 0) j)
    where
      go : Dec (get_or t.rows k 0 ≡ i) → Dec (get_or t.cols k 0 ≡ j)
          → plus (stands t.rows t.cols i j k) (sum_at t i j k) (get_or t.vals k nan) ≡ sum_at t i j k
      go (yes e) (yes q) = absurd (ne e q)
      go (no e) q = rw (ne_eqb (get_or t.rows k 0) i e)
      go (yes e) (no q) = rw (eq-eqb (get_or t.rows k 0) i e, ne_eqb (get_or t.cols k 0) j q)

  sum_here : sum_at t (get_or t.rows k 0) (get_or t.cols k 0) (suc k)
      ≡ add binary64 (sum_at t (get_or t.rows k 0) (get_or t.cols k 0) k) (get_or t.vals k nan)
  unfolding sum_at
  sum_here =
      rw (eq-eqb (get_or t.rows k 0) (get_or t.rows k 0) refl, eq-eqb (get_or t.cols k 0) (get_or t.cols k 0) refl)

  -- another column
  sums_other : (j : ℕ) → (get_or t.cols k 0 ≡ j → ⊥) → (l : List ℕ) → map (λ i. sum_at t i j (suc k)) l ≡ map (λ i. sum_at t i j k) l
  sums_other j ne [] = refl
  sums_other j ne (r ∷ l) = ap₂ (λ (x : Float) (s : List Float). x ∷ s) (sum_still r j (λ e q. ne q)) (sums_other j ne l)

  -- the triplet's column, before its row
  sums_below_lem : (i : ℕ) → i ≤ get_or t.rows k 0
      → map (λ r. sum_at t r (get_or t.cols k 0) (suc k)) (column_to t.rows t.cols k (get_or t.cols k 0) i)
      ≡ map (λ r. sum_at t r (get_or t.cols k 0) k) (column_to t.rows t.cols k (get_or t.cols k 0) i)
  unfolding column_to
  sums_below_lem zero h = refl
  sums_below_lem (suc i) h =
      map-append (λ r. sum_at t r (get_or t.cols k 0) (suc k)) (column_to t.rows t.cols k (get_or t.cols k 0) i)
      (keep (filled t.rows t.cols i (get_or t.cols k 0) k) i)
      ∙ ap₂ ◌++◌ (sums_below_lem i (omega arith)) (one (filled t.rows t.cols i (get_or t.cols k 0) k))
      ∙ sym (map-append (λ r. sum_at t r (get_or t.cols k 0) k) (column_to t.rows t.cols k (get_or t.cols k 0) i)
      (keep (filled t.rows t.cols i (get_or t.cols k 0) k) i))
    where
      one : (b : Bool)
          → map (λ r. sum_at t r (get_or t.cols k 0) (suc k)) (keep b i) ≡ map (λ r. sum_at t r (get_or t.cols k 0) k) (keep b i)
      one true = ap (λ (x : Float). x ∷ []) (sum_still i (get_or t.cols k 0) (λ e q. omega arith))
      one false = refl

  values_below : (n m : ℕ) → m ≤ get_or t.cols k 0 → values_to t (suc k) n m ≡ values_to t k n m
  unfolding values_to
  values_below n zero h = refl
  values_below n (suc m) h =
      ap₂ ◌++◌ (values_below n m (omega arith))
      (ap (map (λ i. sum_at t i m (suc k))) (other t.rows t.cols k m n (λ e. omega arith))
      ∙ sums_other m (λ e. omega arith) (column_to t.rows t.cols k m n))

-- all values after one more triplet but the last
abbrev pub values_but_last : Triplets → ℕ → ℕ → List Float
values_but_last t k n =
    values_to t k n (get_or t.cols k 0)
    ++ map (λ i. sum_at t i (get_or t.cols k 0) k) (column_to t.rows t.cols k (get_or t.cols k 0) (get_or t.rows k 0))

-- ---- one more that is in no earlier column, and in no earlier row of its column
module _ (t : Triplets) (k n : ℕ) (row_in : get_or t.rows k 0 < n) (col_in : get_or t.cols k 0 < n)
    (none_later : (i j : ℕ) → get_or t.cols k 0 < j → filled t.rows t.cols i j k ≡ false)
    (none_above : (i : ℕ) → get_or t.rows k 0 < i → filled t.rows t.cols i (get_or t.cols k 0) k ≡ false) where
  pub values_after : values_to t (suc k) n n
      ≡ values_but_last t k n ++ (add binary64 (sum_at t (get_or t.rows k 0) (get_or t.cols k 0) k) (get_or t.vals k nan) ∷ [])
  values_after =
      values_end t (suc k) n (get_or t.cols k 0) n col_in
      (later_still t.rows t.cols k n row_in col_in none_later none_above)
      ∙ ap₂ ◌++◌ (values_below t k n (get_or t.cols k 0) (le_refl (get_or t.cols k 0)))
      (ap (map (λ i. sum_at t i (get_or t.cols k 0) (suc k))) (own_after t.rows t.cols k n row_in col_in none_later none_above)
      ∙ map-append (λ i. sum_at t i (get_or t.cols k 0) (suc k))
      (column_to t.rows t.cols k (get_or t.cols k 0) (get_or t.rows k 0)) (get_or t.rows k 0 ∷ [])
      ∙ ap₂ ◌++◌ (sums_below_lem t k (get_or t.rows k 0) (le_refl (get_or t.rows k 0))) (ap (λ (x : Float). x ∷ []) (sum_here t k)))
      ∙ sym (append_assoc (values_to t k n (get_or t.cols k 0))
      (map (λ i. sum_at t i (get_or t.cols k 0) k) (column_to t.rows t.cols k (get_or t.cols k 0) (get_or t.rows k 0)))
      (add binary64 (sum_at t (get_or t.rows k 0) (get_or t.cols k 0) k) (get_or t.vals k nan) ∷ []))

  pub values_before_lem : filled t.rows t.cols (get_or t.rows k 0) (get_or t.cols k 0) k ≡ true
      → values_to t k n n ≡ values_but_last t k n ++ (sum_at t (get_or t.rows k 0) (get_or t.cols k 0) k ∷ [])
  values_before_lem e =
      values_end t k n (get_or t.cols k 0) n col_in none_later
      ∙ ap (λ (l : List ℕ). values_to t k n (get_or t.cols k 0) ++ map (λ i. sum_at t i (get_or t.cols k 0) k) l)
      (own_before t.rows t.cols k n row_in col_in none_later none_above
      ∙ ap (λ (b : Bool). column_to t.rows t.cols k (get_or t.cols k 0) (get_or t.rows k 0) ++ keep b (get_or t.rows k 0)) e)
      ∙ ap (λ (l : List Float). values_to t k n (get_or t.cols k 0) ++ l)
      (map-append (λ i. sum_at t i (get_or t.cols k 0) k) (column_to t.rows t.cols k (get_or t.cols k 0) (get_or t.rows k 0))
      (get_or t.rows k 0 ∷ []))
      ∙ sym (append_assoc (values_to t k n (get_or t.cols k 0))
      (map (λ i. sum_at t i (get_or t.cols k 0) k) (column_to t.rows t.cols k (get_or t.cols k 0) (get_or t.rows k 0)))
      (sum_at t (get_or t.rows k 0) (get_or t.cols k 0) k ∷ []))

  pub values_new : filled t.rows t.cols (get_or t.rows k 0) (get_or t.cols k 0) k ≡ false
      → values_to t (suc k) n n ≡ values_to t k n n ++ (add binary64 Constants.zero (get_or t.vals k nan) ∷ [])
  values_new e =
      values_after
      ∙ ap₂ (λ (l : List Float) (x : Float). l ++ (add binary64 x (get_or t.vals k nan) ∷ []))
      (ap (λ (l : List ℕ). values_to t k n (get_or t.cols k 0) ++ map (λ i. sum_at t i (get_or t.cols k 0) k) l)
      (sym (own_bare t.rows t.cols k n row_in col_in none_later none_above e))
      ∙ sym (values_end t k n (get_or t.cols k 0) n col_in none_later))
      (none_yet t (get_or t.cols k 0) (get_or t.rows k 0) k e)
