-- The lists of a match's pairs: one more column adds its row, column and weight or nothing. So the pair of column j is among them exactly by its row,
-- and assembled they are themselves: each column has its row or none, and columns rise. By induction on the columns.
use mathlib.Core.Path.{◌≡◌, refl, sym, ap, ap₂, ◌∙◌}
use mathlib.Core.Logic.{◌≢◌, ◌⊎◌, inl, inr}
use mathlib.Core.Bool.{Bool, true, false, not, cond, ◌&&◌, ◌||◌, and-false, and-true, or-false, or_assoc}
use mathlib.Core.List.{List, [], ◌∷◌, ◌++◌, map, map-append, append-nil}
use Prim.Native.Nat.{ℕ, zero, suc, ◌+◌, ◌≤◌, ◌<◌}
use native.Mathlib.Nat.{not-suc-le-zero}
use native.Mathlib.Decide.{ℕ_discrete, dec_lt}
use native.Mathlib.Omega.{arith}
use borrow.Author.Tests.{eq-eqb, ne_eqb, eqb-false, not-true, lt-ltb, le-ltb}
use lib.Dec.{eqb, ltb}
use lib.ListN.{length, get_or, length-append, length-map, get_or-append}
use Rattle.limits.specs.Limits.{none}
use Rattle.slices.specs.Lists.{keep}
use Rattle.slices.proofs.Lists.{get_d_last, last_or}
use Rattle.triplets.specs.Built.{filled, column_rows, rows_before}
use Rattle.matching.specs.Sum.{sum_to, or_zero}
use Rattle.matching.specs.Pairing.{matched_count}
use Rattle.text_matrix_market.specs.declared.stages.Entry.{Entry}
use Rattle.text_matrix_market.specs.File.{entry_row, entry_column, pair_among}
use Rattle.text_graph.proofs.KeptCount.{filled_among, keep_length}
use Rattle.text_pairs_read.specs.Pairs.{pair_entry, pair_entries, Rows}

-- column j has a row
abbrev pub taken : List ℕ → ℕ → Bool
taken perm j = not (eqb (get_or perm j 0) none)

pub taken_row_lem : (perm : List ℕ) (j : ℕ) → taken perm j ≡ true → get_or perm j 0 ≢ none
taken_row_lem perm j e = eqb-false (get_or perm j 0) none (not-true (eqb (get_or perm j 0) none) e)

-- ---- one column more
abbrev pub rows_to : List ℕ → ℕ → List ℕ
rows_to perm k = map entry_row (pair_entries k perm)

abbrev pub cols_to : List ℕ → ℕ → List ℕ
cols_to perm k = map entry_column (pair_entries k perm)

pub fields_more : (f : Entry → ℕ) (perm : List ℕ) (k : ℕ) → map f (pair_entries (suc k) perm) ≡ map f (pair_entries k perm) ++ keep (taken perm k)
    (f (pair_entry (get_or perm k 0) k))
unfolding pair_entries
fields_more f perm k = go (eqb (get_or perm k 0) none)
  where
    x : Entry
    x = pair_entry (get_or perm k 0) k

    go : (b : Bool) → map f (pair_entries k perm ++ cond b [] (x ∷ [])) ≡ map f (pair_entries k perm) ++ keep (not b) (f x)
    go true = map-append f (pair_entries k perm) []
    go false = map-append f (pair_entries k perm) (x ∷ [])

pub same_length_lem : (perm : List ℕ) (k : ℕ) → length (cols_to perm k) ≡ length (rows_to perm k)
same_length_lem perm k = length-map (pair_entries k perm) entry_column ∙ sym (length-map (pair_entries k perm) entry_row)

pub count_more : (perm : List ℕ) (k : ℕ) → length (pair_entries (suc k) perm) ≡ length (pair_entries k perm) + or_zero (taken perm k) 1
count_more perm k =
    sym (length-map (pair_entries (suc k) perm) entry_row)
    ∙ ap length (fields_more entry_row perm k)
    ∙ length-append (rows_to perm k) (keep (taken perm k) (get_or perm k 0))
    ∙ ap₂ ◌+◌ (length-map (pair_entries k perm) entry_row) (keep_length (taken perm k) (get_or perm k 0))

-- as many pairs as matched columns
pub pairs_counted_lem : (n : ℕ) (perm : List ℕ) → length (pair_entries n perm) ≡ matched_count none n (λ j. get_or perm j 0)
unfolding matched_count sum_to pair_entries
pairs_counted_lem zero perm = refl
pairs_counted_lem (suc n) perm = count_more perm n ∙ ap (λ (x : ℕ). x + or_zero (taken perm n) 1) (pairs_counted_lem n perm)

-- what holds of each pair holds at each place
pub each_field : (P : ℕ → Type 0) (f : Entry → ℕ) (perm : List ℕ) (n : ℕ) → ((j : ℕ) → j < n → get_or perm j 0 ≢ none → P (f (pair_entry (get_or perm j 0) j)))
    → (k : ℕ) → k < length (map f (pair_entries n perm)) → P (get_or (map f (pair_entries n perm)) k 0)
unfolding pair_entries
each_field P f perm zero h k l = absurd (not-suc-le-zero l)
each_field P f perm (suc n) h k l =
    rw (fields_more f perm n) (go (each_field P f perm n (λ j b. h j (omega arith)) k) (taken perm n) refl (rw (fields_more f perm n) at l))
  where
    old : List ℕ
    old = map f (pair_entries n perm)

    x : ℕ
    x = f (pair_entry (get_or perm n 0) n)

    last : (k < length old → P (get_or old k 0)) → get_or perm n 0 ≢ none → (k < length old) ⊎ (k ≡ length old) → P (get_or (old ++ (x ∷ [])) k 0)
    last before t (inl s) = rw (get_or-append old (x ∷ []) 0 k s) (before s)
    last before t (inr s) = rw (s, get_d_last old x 0) (h n (omega arith) t)

    go : (k < length old → P (get_or old k 0)) → (b : Bool) → taken perm n ≡ b → k < length (old ++ keep b x) → P (get_or (old ++ keep b x) k 0)
    go before false e s = rw (append-nil old) (before (rw (append-nil old) at s))
    go before true e s = last before (taken_row_lem perm n e) (last_or old x k s)

-- ---- a pair among them
among_keep : (i j : ℕ) (b : Bool) (row col : ℕ) (rows cols : List ℕ) → length cols ≡ length rows
    → pair_among i j (rows ++ keep b row) (cols ++ keep b col) ≡ (pair_among i j rows cols || (b && (eqb row i && eqb col j)))
unfolding pair_among
among_keep i j true row col [] [] e = or-false (eqb row i && eqb col j)
among_keep i j false row col [] [] e = refl
among_keep i j b row col [] (c ∷ cols) e = let z : ⊥ = omega arith in absurd z
among_keep i j b row col (r ∷ rows) [] e = let z : ⊥ = omega arith in absurd z
among_keep i j b row col (r ∷ rows) (c ∷ cols) e =
    ap (λ (x : Bool). (eqb r i && eqb c j) || x) (among_keep i j b row col rows cols (omega arith))
    ∙ sym (or_assoc (eqb r i && eqb c j) (pair_among i j rows cols) (b && (eqb row i && eqb col j)))

module _ (perm : List ℕ) (i j : ℕ) where
  among_more : (k : ℕ) → pair_among i j (rows_to perm (suc k))
      (cols_to perm (suc k)) ≡ (pair_among i j (rows_to perm k) (cols_to perm k) || (taken perm k && (eqb (get_or perm k 0) i && eqb k j)))
  among_more k = rw (fields_more entry_row perm k, fields_more entry_column perm k)
      (among_keep i j (taken perm k) (get_or perm k 0) k (rows_to perm k) (cols_to perm k) (same_length_lem perm k))

  other : (k : ℕ) → k ≢ j → pair_among i j (rows_to perm (suc k)) (cols_to perm (suc k)) ≡ pair_among i j (rows_to perm k) (cols_to perm k)
  other k d = among_more k ∙ rw (ne_eqb k j d, and-false (eqb (get_or perm k 0) i), and-false (taken perm k))
      (or-false (pair_among i j (rows_to perm k) (cols_to perm k)))

  -- a column that is not reached has no pair
  not_reached : (k : ℕ) → k ≤ j → pair_among i j (rows_to perm k) (cols_to perm k) ≡ false
  unfolding pair_among pair_entries
  not_reached zero h = refl
  not_reached (suc k) h = other k (omega arith) ∙ not_reached k (omega arith)

  among_column : (k : ℕ) → j < k → pair_among i j (rows_to perm k) (cols_to perm k) ≡ (taken perm j && eqb (get_or perm j 0) i)
  among_column zero h = absurd (not-suc-le-zero h)
  among_column (suc k) h = go (among_column k) (ℕ_discrete k j)
    where
      go : (j < k → pair_among i j (rows_to perm k) (cols_to perm k) ≡ (taken perm j && eqb (get_or perm j 0) i)) → Dec (k ≡ j)
          → pair_among i j (rows_to perm (suc k)) (cols_to perm (suc k)) ≡ (taken perm j && eqb (get_or perm j 0) i)
      go before (yes e) = among_more k ∙ rw (not_reached k (omega arith), e, eq-eqb j j refl, and-true (eqb (get_or perm j 0) i)) refl
      go before (no d) = other k d ∙ before (omega arith)

-- ---- assembled
-- a column whose only filled row is r, or none
one_row : (rows cols : List ℕ) (j : ℕ) (b : Bool) (r : ℕ) → ((i : ℕ) → filled rows cols i j (length rows) ≡ (b && eqb r i)) → (m : ℕ)
    → column_rows rows cols j m ≡ keep (b && ltb r m) r
unfolding column_rows
one_row rows cols j b r h zero = rw (le-ltb r 0 (omega arith), and-false b) refl
one_row rows cols j b r h (suc m) = rw (one_row rows cols j b r h m, h m) (go b)
  where
    step : Dec (r < m) → Dec (r ≡ m) → keep (ltb r m) r ++ keep (eqb r m) m ≡ keep (ltb r (suc m)) r
    step (yes l) d = rw (lt-ltb r m l, ne_eqb r m (λ e. omega arith), lt-ltb r (suc m) (omega arith)) refl
    step (no l) (yes e) = rw (le-ltb r m (omega arith), eq-eqb r m e, lt-ltb r (suc m) (omega arith)) (ap (λ (x : ℕ). x ∷ []) (sym e))
    step (no l) (no d) = rw (le-ltb r m (omega arith), ne_eqb r m d, le-ltb r (suc m) (omega arith)) refl

    go : (b : Bool) → keep (b && ltb r m) r ++ keep (b && eqb r m) m ≡ keep (b && ltb r (suc m)) r
    go true = step (dec_lt r m) (ℕ_discrete r m)
    go false = refl

module _ (n : ℕ) (perm : List ℕ) (R : Rows n perm) where
  row_fits : (j : ℕ) → j < n → (taken perm j && ltb (get_or perm j 0) n) ≡ taken perm j
  row_fits j h = go (R.rows j h)
    where
      go : (get_or perm j 0 ≡ none) ⊎ (get_or perm j 0 < n) → (taken perm j && ltb (get_or perm j 0) n) ≡ taken perm j
      go (inl e) = rw (eq-eqb (get_or perm j 0) none e) refl
      go (inr l) = rw (lt-ltb (get_or perm j 0) n l) (and-true (taken perm j))

  column_pair_lem : (j : ℕ) → j < n → column_rows (rows_to perm n) (cols_to perm n) j n ≡ keep (taken perm j) (get_or perm j 0)
  column_pair_lem j h =
      one_row (rows_to perm n) (cols_to perm n) j (taken perm j) (get_or perm j 0)
      (λ i. filled_among (rows_to perm n) (cols_to perm n) (same_length_lem perm n) i j ∙ among_column perm i j n h) n
      ∙ ap (λ (b : Bool). keep b (get_or perm j 0)) (row_fits j h)

  pub rows_before_lem : (j : ℕ) → j ≤ n → rows_before (rows_to perm n) (cols_to perm n) n j ≡ rows_to perm j
  unfolding rows_before pair_entries
  rows_before_lem zero h = refl
  rows_before_lem (suc j) h = ap₂ ◌++◌ (rows_before_lem j (omega arith)) (column_pair_lem j h) ∙ sym (fields_more entry_row perm j)
