-- As many positions are filled as there are entries exactly if no pair repeats. The positions are counted one by one: one more entry fills one
-- more exactly if its pair is not among the rest. By induction on the entries.
use mathlib.Core.Path.{◌≡◌, refl, sym, ap, ap₂, ◌∙◌}
use mathlib.Core.Bool.{Bool, true, false, not, ◌&&◌, ◌||◌, and-false, or-false, or_assoc}
use mathlib.Core.List.{List, [], ◌∷◌}
use mathlib.Core.Logic.{◌≢◌}
use Prim.Native.Nat.{ℕ, zero, suc, ◌+◌, ◌≤◌, ◌<◌}
use native.Mathlib.Nat.{mul-zero}
use native.Mathlib.Omega.{arith}
use borrow.Author.Tests.{eq-eqb, ne_eqb}
use lib.Dec.{eqb, eqb-suc-suc}
use lib.ListN.{length, length-append}
use Rattle.slices.specs.Lists.{keep}
use Rattle.triplets.specs.Built.{Triplets, stands, filled, column_rows, rows_before, kept_count}
use Rattle.matching.specs.Sum.{sum_to, or_zero}
use Rattle.matching.proofs.Sums.{sum_same, sum_const, sum_change}
use Rattle.text_matrix_market.specs.File.{repeats, pair_among}
use Rattle.text_graph.specs.Graph.{Inside}

-- ---- a position is filled where its pair is among the entries
pub filled_first : (row col : ℕ) (rows cols : List ℕ) (i j k : ℕ) → filled (row ∷ rows) (col ∷ cols) i j
    (suc k) ≡ ((eqb row i && eqb col j) || filled rows cols i j k)
unfolding filled
filled_first row col rows cols i j zero = sym (or-false (eqb row i && eqb col j))
filled_first row col rows cols i j (suc k) =
    ap (λ (b : Bool). b || stands rows cols i j k) (filled_first row col rows cols i j k) ∙ or_assoc (eqb row i && eqb col j) (filled rows cols i j k)
    (stands rows cols i j k)

pub filled_among : (rows cols : List ℕ) → length cols ≡ length rows → (i j : ℕ) → filled rows cols i j (length rows) ≡ pair_among i j rows cols
unfolding filled pair_among
filled_among [] cols e i j = refl
filled_among (row ∷ rows) [] e i j = let z : ⊥ = omega arith in absurd z
filled_among (row ∷ rows) (col ∷ cols) e i j =
    filled_first row col rows cols i j (length rows) ∙ ap (λ (b : Bool). (eqb row i && eqb col j) || b) (filled_among rows cols (omega arith) i j)

-- ---- the positions, counted
in_column : ℕ → List ℕ → List ℕ → ℕ → ℕ
in_column n rows cols j = sum_to n (λ i. or_zero (pair_among i j rows cols) 1)

positions : ℕ → List ℕ → List ℕ → ℕ
positions n rows cols = sum_to n (in_column n rows cols)

pub keep_length : (b : Bool) (i : ℕ) → length (keep b i) ≡ or_zero b 1
keep_length true i = refl
keep_length false i = refl

module _ (rows cols : List ℕ) (pairs : length cols ≡ length rows) where
  column_length_lem : (j n : ℕ) → length (column_rows rows cols j n) ≡ in_column n rows cols j
  unfolding column_rows in_column sum_to
  column_length_lem j zero = refl
  column_length_lem j (suc n) =
      length-append (column_rows rows cols j n) (keep (filled rows cols n j (length rows)) n)
      ∙ ap₂ ◌+◌ (column_length_lem j n) (keep_length (filled rows cols n j (length rows)) n ∙ ap (λ (b : Bool). or_zero b 1) (filled_among rows cols pairs n j))

  rows_length : (n j : ℕ) → length (rows_before rows cols n j) ≡ sum_to j (in_column n rows cols)
  unfolding rows_before sum_to
  rows_length n zero = refl
  rows_length n (suc j) = length-append (rows_before rows cols n j) (column_rows rows cols j n) ∙ ap₂ ◌+◌ (rows_length n j) (column_length_lem j n)

-- ---- one entry more
or_zero_either : (b : Bool) → or_zero b 1 + or_zero (not b) 1 ≡ 1
or_zero_either true = refl
or_zero_either false = refl

module _ (n row col : ℕ) (rows cols : List ℕ) where
  other_row : (i j : ℕ) → i ≢ row → or_zero (pair_among i j (row ∷ rows) (col ∷ cols)) 1 ≡ or_zero (pair_among i j rows cols) 1
  unfolding pair_among
  other_row i j h = rw (ne_eqb row i (λ e. h (sym e)))

  other_column : (i j : ℕ) → j ≢ col → or_zero (pair_among i j (row ∷ rows) (col ∷ cols)) 1 ≡ or_zero (pair_among i j rows cols) 1
  unfolding pair_among
  other_column i j h = rw (ne_eqb col j (λ e. h (sym e)), and-false (eqb row i))

  own : or_zero (pair_among row col (row ∷ rows) (col ∷ cols)) 1 ≡ 1
  unfolding pair_among
  own = rw (eq-eqb row row refl, eq-eqb col col refl)

  one_more : row < n → col < n → positions n (row ∷ rows) (col ∷ cols) ≡ positions n rows cols + or_zero (not (pair_among row col rows cols)) 1
  unfolding positions in_column
  one_more h l =
      omega (
        arith,
        sum_change n (in_column n (row ∷ rows) (col ∷ cols)) (in_column n rows cols) col l
            (λ j b d. sum_same n (λ i. or_zero (pair_among i j (row ∷ rows) (col ∷ cols)) 1) (λ i. or_zero (pair_among i j rows cols) 1)
            (λ i c. other_column i j d)),
        sum_change n (λ i. or_zero (pair_among i col (row ∷ rows) (col ∷ cols)) 1) (λ i. or_zero (pair_among i col rows cols) 1) row h (λ i c d. other_row i col d),
        own,
        or_zero_either (pair_among row col rows cols),
      )

-- ---- all of them
none_filled : (n : ℕ) (cols : List ℕ) → positions n [] cols ≡ 0
unfolding positions in_column pair_among
none_filled n cols =
    sum_same n (λ j. sum_to n (λ i. 0)) (λ j. 0) (λ j h. sum_const n 0 ∙ mul-zero n) ∙ sum_const n 0 ∙ mul-zero n

-- the count of entries against the count of positions, with one entry more
grown : (seen rest : Bool) (p q m : ℕ) → q ≡ p + or_zero (not seen) 1 → (p ≤ m) × (eqb p m ≡ not rest) → (q ≤ suc m) × (eqb q (suc m) ≡ not (seen || rest))
grown true rest p q m e h = (omega (arith, h.0), ne_eqb q (suc m) (λ z. omega (arith, h.0)))
grown false rest p q m e h =
    let s : q ≡ suc p = omega arith in
    (omega (arith, h.0), ap (λ (a : ℕ). eqb a (suc m)) s ∙ eqb-suc-suc p m ∙ h.1)

inside_rest : {n row col : ℕ} {rows cols : List ℕ} → Inside n (row ∷ rows) (col ∷ cols) → Inside n rows cols
inside_rest p = record { pairs = omega (arith, p.pairs); rows_in = λ k h. p.rows_in (suc k) (omega arith); cols_in = λ k h. p.cols_in (suc k) (omega arith) }

counted : (n : ℕ) (rows cols : List ℕ) → Inside n rows cols → (positions n rows cols ≤ length rows)
    × (eqb (positions n rows cols) (length rows) ≡ not (repeats rows cols))
unfolding repeats
counted n [] cols p = rw (none_filled n cols) (omega arith, refl)
counted n (row ∷ rows) [] p = let z : ⊥ = omega (arith, p.pairs) in absurd z
counted n (row ∷ rows) (col ∷ cols) p =
    grown (pair_among row col rows cols) (repeats rows cols) (positions n rows cols) (positions n (row ∷ rows) (col ∷ cols)) (length rows)
    (one_more n row col rows cols (p.rows_in 0 (omega arith)) (p.cols_in 0 (omega arith)))
    (counted n rows cols (inside_rest p))

module _ (n : ℕ) (t : Triplets) (p : Inside n t.rows t.cols) where
  kept_positions : kept_count n t ≡ positions n t.rows t.cols
  unfolding positions
  kept_positions = rows_length t.rows t.cols p.pairs n n

  pub kept_few : kept_count n t ≤ length t.rows
  kept_few = rw kept_positions (counted n t.rows t.cols p).0

  -- the kept count tells whether a pair repeats
  pub kept_count_lem : eqb (kept_count n t) (length t.rows) ≡ not (repeats t.rows t.cols)
  kept_count_lem = rw kept_positions (counted n t.rows t.cols p).1

-- ---- a test by its opposite
pub opposite : (b c : Bool) → c ≡ not b → b ≡ not c
opposite true c e = ap not (sym e)
opposite false c e = ap not (sym e)
