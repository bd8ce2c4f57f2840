-- The rows of the first k triplets, and what one more changes, if none of them is in a later column or in a later row of its column: it is
-- the last entry, or one more is appended. By induction on the rows of a column, then on the columns.
use mathlib.Core.Path.{◌≡◌, refl, sym, ap, ap₂, ◌∙◌}
use mathlib.Core.Bool.{Bool, true, false, ◌||◌}
use mathlib.Core.List.{List, [], ◌∷◌, ◌++◌, append-nil, append_assoc}
use Prim.Native.Nat.{ℕ, zero, suc, ◌≤◌, ◌<◌}
use native.Mathlib.Nat.{not-suc-le-zero, le_refl}
use native.Mathlib.Decide.{ℕ_discrete}
use native.Mathlib.Omega.{arith}
use borrow.Author.Tests.{eq-eqb, ne_eqb}
use lib.ListN.{length, get_or}
use Rattle.slices.specs.Lists.{keep}
use Rattle.slices.proofs.Lists.{length_more}
use Rattle.triplets.specs.Built.{stands, filled}
use Rattle.triplets.proofs.Positions.{or-false}
use Rattle.triplets_sorted.specs.inner.Steps.{column_to, rows_to}

or-true : (b : Bool) → (b || true) ≡ true
or-true true = refl
or-true false = refl

-- ---- the first k triplets
module _ (rows cols : List ℕ) (k : ℕ) where
  -- a column whose rows past r are empty
  ends : (j r m : ℕ) → r < m → ((i : ℕ) → r < i → filled rows cols i j k ≡ false)
      → column_to rows cols k j m ≡ column_to rows cols k j r ++ keep (filled rows cols r j k) r
  unfolding column_to
  ends j r zero h none = absurd (not-suc-le-zero h)
  ends j r (suc m) h none = go (ends j r m) (ℕ_discrete m r)
    where
      go : (r < m → ((i : ℕ) → r < i → filled rows cols i j k ≡ false)
          → column_to rows cols k j m ≡ column_to rows cols k j r ++ keep (filled rows cols r j k) r) → Dec (m ≡ r)
          → column_to rows cols k j m ++ keep (filled rows cols m j k) m ≡ column_to rows cols k j r ++ keep (filled rows cols r j k) r
      go f (yes e) = rw e
      go f (no e) = rw (none m (omega arith), append-nil (column_to rows cols k j m)) (f (omega arith) none)

  pub empty_column : (j m : ℕ) → ((i : ℕ) → filled rows cols i j k ≡ false) → column_to rows cols k j m ≡ []
  unfolding column_to
  empty_column j zero none = refl
  empty_column j (suc m) none = rw (none m, append-nil (column_to rows cols k j m)) (empty_column j m none)

  -- columns that are empty past c
  columns_end : (n c m : ℕ) → c < m → ((i j : ℕ) → c < j → filled rows cols i j k ≡ false)
      → rows_to rows cols k n m ≡ rows_to rows cols k n c ++ column_to rows cols k c n
  unfolding rows_to
  columns_end n c zero h none = absurd (not-suc-le-zero h)
  columns_end n c (suc m) h none = go (columns_end n c m) (ℕ_discrete m c)
    where
      go : (c < m → ((i j : ℕ) → c < j → filled rows cols i j k ≡ false)
          → rows_to rows cols k n m ≡ rows_to rows cols k n c ++ column_to rows cols k c n)
          → Dec (m ≡ c) → rows_to rows cols k n m ++ column_to rows cols k m n ≡ rows_to rows cols k n c ++ column_to rows cols k c n
      go f (yes e) = rw e
      go f (no e) = rw (empty_column m n (λ i. none i m (omega arith)), append-nil (rows_to rows cols k n m)) (f (omega arith) none)

  -- a column has at most one entry in a row
  pub column_few : (j i : ℕ) → length (column_to rows cols k j i) ≤ i
  unfolding column_to
  column_few j zero = le_refl 0
  column_few j (suc i) = go (filled rows cols i j k) (column_few j i)
    where
      go : (b : Bool) → length (column_to rows cols k j i) ≤ i → length (column_to rows cols k j i ++ keep b i) ≤ suc i
      go true h = omega (arith, length_more (column_to rows cols k j i) i, h)
      go false h = rw (append-nil (column_to rows cols k j i)) (omega (arith, h))

  -- ---- one more
  pub present : filled rows cols (get_or rows k 0) (get_or cols k 0) (suc k) ≡ true
  unfolding filled
  present =
      rw (eq-eqb (get_or rows k 0) (get_or rows k 0) refl, eq-eqb (get_or cols k 0) (get_or cols k 0) refl)
      (or-true (filled rows cols (get_or rows k 0) (get_or cols k 0) k))

  still : (i j : ℕ) → (get_or rows k 0 ≡ i → get_or cols k 0 ≡ j → ⊥) → filled rows cols i j (suc k) ≡ filled rows cols i j k
  unfolding filled
  still i j ne = go (ℕ_discrete (get_or rows k 0) i) (ℕ_discrete (get_or cols k 0) j)
    where
      go : Dec (get_or rows k 0 ≡ i) → Dec (get_or cols k 0 ≡ j) → (filled rows cols i j k || stands rows cols i j k) ≡ filled rows cols i j k
      go (yes e) (yes q) = absurd (ne e q)
      go (no e) q = rw (ne_eqb (get_or rows k 0) i e, or-false (filled rows cols i j k))
      go (yes e) (no q) = rw (eq-eqb (get_or rows k 0) i e, ne_eqb (get_or cols k 0) j q, or-false (filled rows cols i j k))

  -- another column
  pub other : (j i : ℕ) → (get_or cols k 0 ≡ j → ⊥) → column_to rows cols (suc k) j i ≡ column_to rows cols k j i
  unfolding column_to
  other j zero ne = refl
  other j (suc i) ne = ap₂ (λ (l : List ℕ) (b : Bool). l ++ keep b i) (other j i ne) (still i j (λ e q. ne q))

  -- the triplet's column, before its row
  below : (i : ℕ) → i ≤ get_or rows k 0 → column_to rows cols (suc k) (get_or cols k 0) i ≡ column_to rows cols k (get_or cols k 0) i
  unfolding column_to
  below zero h = refl
  below (suc i) h =
      ap₂ (λ (l : List ℕ) (b : Bool). l ++ keep b i) (below i (omega arith)) (still i (get_or cols k 0) (λ e q. omega arith))

  columns_below : (n m : ℕ) → m ≤ get_or cols k 0 → rows_to rows cols (suc k) n m ≡ rows_to rows cols k n m
  unfolding rows_to
  columns_below n zero h = refl
  columns_below n (suc m) h = ap₂ ◌++◌ (columns_below n m (omega arith)) (other m n (λ e. omega arith))

pub rows_none : (rows cols : List ℕ) (n m : ℕ) → rows_to rows cols 0 n m ≡ []
unfolding rows_to filled
rows_none rows cols n zero = refl
rows_none rows cols n (suc m) = rw (rows_none rows cols n m, empty_column rows cols 0 m n (λ i. refl))

-- ---- one more that is in no earlier column, and in no earlier row of its column
module _ (rows cols : List ℕ) (k n : ℕ) (row_in : get_or rows k 0 < n) (col_in : get_or cols k 0 < n)
    (none_later : (i j : ℕ) → get_or cols k 0 < j → filled rows cols i j k ≡ false)
    (none_above : (i : ℕ) → get_or rows k 0 < i → filled rows cols i (get_or cols k 0) k ≡ false) where
  pub later_still : (i j : ℕ) → get_or cols k 0 < j → filled rows cols i j (suc k) ≡ false
  later_still i j h = still rows cols k i j (λ e q. omega arith) ∙ none_later i j h

  above_still : (i : ℕ) → get_or rows k 0 < i → filled rows cols i (get_or cols k 0) (suc k) ≡ false
  above_still i h = still rows cols k i (get_or cols k 0) (λ e q. omega arith) ∙ none_above i h

  pub own_before : column_to rows cols k (get_or cols k 0) n
      ≡ column_to rows cols k (get_or cols k 0) (get_or rows k 0) ++ keep (filled rows cols (get_or rows k 0) (get_or cols k 0) k) (get_or rows k 0)
  own_before = ends rows cols k (get_or cols k 0) (get_or rows k 0) n row_in none_above

  pub own_after : column_to rows cols (suc k) (get_or cols k 0) n ≡ column_to rows cols k (get_or cols k 0) (get_or rows k 0) ++ (get_or rows k 0 ∷ [])
  own_after =
      ends rows cols (suc k) (get_or cols k 0) (get_or rows k 0) n row_in above_still
      ∙ ap₂ (λ (l : List ℕ) (b : Bool). l ++ keep b (get_or rows k 0)) (below rows cols k (get_or rows k 0) (le_refl (get_or rows k 0))) (present rows cols k)

  all_before : rows_to rows cols k n n ≡ rows_to rows cols k n (get_or cols k 0) ++ column_to rows cols k (get_or cols k 0) n
  all_before = columns_end rows cols k n (get_or cols k 0) n col_in none_later

  all_after : rows_to rows cols (suc k) n n ≡ rows_to rows cols k n (get_or cols k 0) ++ column_to rows cols (suc k) (get_or cols k 0) n
  all_after =
      columns_end rows cols (suc k) n (get_or cols k 0) n col_in later_still
      ∙ ap (λ (l : List ℕ). l ++ column_to rows cols (suc k) (get_or cols k 0) n) (columns_below rows cols k n (get_or cols k 0) (le_refl (get_or cols k 0)))

  module _ (e : filled rows cols (get_or rows k 0) (get_or cols k 0) k ≡ true) where
    pub own_again : column_to rows cols (suc k) (get_or cols k 0) n ≡ column_to rows cols k (get_or cols k 0) n
    own_again =
        own_after
        ∙ sym (own_before ∙ ap (λ (b : Bool). column_to rows cols k (get_or cols k 0) (get_or rows k 0) ++ keep b (get_or rows k 0)) e)

    pub rows_again : rows_to rows cols (suc k) n n ≡ rows_to rows cols k n n
    rows_again = all_after ∙ ap (λ (l : List ℕ). rows_to rows cols k n (get_or cols k 0) ++ l) own_again ∙ sym all_before

  module _ (e : filled rows cols (get_or rows k 0) (get_or cols k 0) k ≡ false) where
    pub own_bare : column_to rows cols k (get_or cols k 0) n ≡ column_to rows cols k (get_or cols k 0) (get_or rows k 0)
    own_bare =
        own_before ∙ ap (λ (b : Bool). column_to rows cols k (get_or cols k 0) (get_or rows k 0) ++ keep b (get_or rows k 0)) e
        ∙ append-nil (column_to rows cols k (get_or cols k 0) (get_or rows k 0))

    pub own_new : column_to rows cols (suc k) (get_or cols k 0) n ≡ column_to rows cols k (get_or cols k 0) n ++ (get_or rows k 0 ∷ [])
    own_new = own_after ∙ ap (λ (l : List ℕ). l ++ (get_or rows k 0 ∷ [])) (sym own_bare)

    pub rows_new : rows_to rows cols (suc k) n n ≡ rows_to rows cols k n n ++ (get_or rows k 0 ∷ [])
    rows_new =
        all_after ∙ ap (λ (l : List ℕ). rows_to rows cols k n (get_or cols k 0) ++ l) own_new
        ∙ sym (append_assoc (rows_to rows cols k n (get_or cols k 0)) (column_to rows cols k (get_or cols k 0) n) (get_or rows k 0 ∷ []))
        ∙ ap (λ (l : List ℕ). l ++ (get_or rows k 0 ∷ [])) (sym all_before)
