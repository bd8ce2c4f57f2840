-- Where no pair repeats, each cost of the graph is a whole number in range: it is 0.0 plus the one cost of its pair, an exact sum.
-- By induction on the entries: an entry at a position finds none there before it.
use mathlib.Core.Path.{◌≡◌, refl, sym, ap₂, ◌∙◌, subst₂}
use mathlib.Core.Bool.{Bool, true, false, ◌&&◌, ◌||◌}
use mathlib.Core.List.{List, [], ◌∷◌, map}
use Prim.Native.Nat.{ℕ, zero, suc, ◌+◌, ◌*◌, ◌^◌, ◌≤◌, ◌<◌}
use native.Mathlib.Nat.{not-suc-le-zero, le_refl, mul-le-mul_right}
use native.Mathlib.Omega.{arith}
use borrow.Author.Tests.{eqb-true}
use lib.Dec.{T, eqb, le→leb}
use lib.IntN.{pos}
use lib.ListN.{length, get_or, length-append, length-map}
use lib.Ieee.{Float, nan, binary64, of_int, in_float, add}
use Rattle.float64.specs.Number.{Whole}
use Rattle.float64.specs.Constants.{zero as fzero}
use Rattle.float64.proofs.Constants.{zero_whole}
use Rattle.slices.proofs.Bools.{same_eqb, both, neither}
use Rattle.float64.proofs.WholeNumbers.{whole_add}
use Rattle.triplets.specs.Built.{Triplets, triplets, stands, filled, plus, sum_at, column_rows, rows_before, values_before}
use Rattle.triplets.proofs.Positions.{none_yet}
use Rattle.cost_limit.specs.Range.{in_range}
use Rattle.cost_limit.proofs.Range.{natural_whole, whole_fits}
use Rattle.triplets.specs.Order.{Below}
use Rattle.sparse.specs.Pattern.{entries}
use Rattle.hungarian.specs.Graph.{cost_of}
use Rattle.hungarian.specs.Optimal.{WholeCosts}
use Rattle.text_matrix_market.specs.File.{repeats, pair_among}
use Rattle.text_graph.specs.Graph.{Inside, CostsFit, cost_values, file_graph}
use Rattle.text_graph.proofs.KeptCount.{filled_first}
use Rattle.text_graph.proofs.GraphColumns.{part_at, Entry, entry_at}

-- ---- a cost as a double
-- it may be cast
pub cost_casts : (c : ℕ) → c < 2 ^ 53 → T (in_float binary64 (pos c))
unfolding in_float
cost_casts c h = le→leb c (2 ^ 53) (omega arith)

-- the cost itself is below 2 ^ 48 where there is a column
small : (n c : ℕ) → 0 < n → n * c < 2 ^ 48 → c < 2 ^ 48
small n c some h = let l : 1 * c ≤ n * c = mul-le-mul_right c some in omega arith

pub costs_small : {n : ℕ} {rows cols costs : List ℕ} → Inside n rows cols → CostsFit n rows costs → Below (2 ^ 48) costs
costs_small {n} {rows} {cols} {costs} inside costs_fit k h =
    small n (get_or costs k 0) (omega (arith, inside.rows_in k (omega (arith, costs_fit.same_length)))) (costs_fit.costs_in k h)

-- x stands for a cost
record IsCost (n : ℕ) (x : Float) : Type 0 where
  amount : ℕ
  low : n * amount < 2 ^ 48
  whole : Whole x (pos amount)

-- ---- no pair repeats
turned : (a b : ℕ) → eqb a b ≡ eqb b a
turned a b = same_eqb a b b a sym sym

-- a pair that is not among the entries is not entry k's
not_there : (i j : ℕ) (rows cols : List ℕ) → length cols ≡ length rows → pair_among i j rows cols ≡ false → (k : ℕ) → k < length rows
    → (eqb i (get_or rows k 0) && eqb j (get_or cols k 0)) ≡ false
unfolding pair_among
not_there i j [] cols p e k h = absurd (not-suc-le-zero h)
not_there i j (row ∷ rows) [] p e k h = let z : ⊥ = omega arith in absurd z
not_there i j (row ∷ rows) (col ∷ cols) p e zero h = ap₂ ◌&&◌ (turned i row) (turned j col) ∙ (neither (eqb row i && eqb col j) (pair_among i j rows cols) e).0
not_there i j (row ∷ rows) (col ∷ cols) p e (suc k) h =
    not_there i j rows cols (omega arith) (neither (eqb row i && eqb col j) (pair_among i j rows cols) e).1 k (omega arith)

-- entry k's position is not filled before it
first_there : (rows cols : List ℕ) → length cols ≡ length rows → repeats rows cols ≡ false → (k : ℕ) → k < length rows
    → filled rows cols (get_or rows k 0) (get_or cols k 0) k ≡ false
unfolding repeats filled
first_there [] cols p e k h = absurd (not-suc-le-zero h)
first_there (row ∷ rows) [] p e k h = let z : ⊥ = omega arith in absurd z
first_there (row ∷ rows) (col ∷ cols) p e zero h = refl
first_there (row ∷ rows) (col ∷ cols) p e (suc k) h =
    let s = neither (pair_among row col rows cols) (repeats rows cols) e in
    filled_first row col rows cols (get_or rows k 0) (get_or cols k 0) k
    ∙ ap₂ ◌||◌ (not_there row col rows cols (omega arith) s.0 k (omega arith)) (first_there rows cols (omega arith) s.1 k (omega arith))

-- ---- the sums
pub map_at : (f : ℕ → Float) (l : List ℕ) (k : ℕ) → k < length l → get_or (map f l) k nan ≡ f (get_or l k 0)
map_at f [] k h = absurd (not-suc-le-zero h)
map_at f (x ∷ l) zero h = refl
map_at f (x ∷ l) (suc k) h = map_at f l k (omega arith)

zero_plus : (n c : ℕ) → 0 < n → n * c < 2 ^ 48 → IsCost n (add binary64 fzero (of_int binary64 (pos c)))
zero_plus n c some h =
    let l : c < 2 ^ 48 = small n c some h in
    record {
      amount = 0 + c;
      low = omega arith;
      whole =
          whole_add fzero (of_int binary64 (pos c)) (pos 0) (pos c) zero_whole (natural_whole c (omega arith)) (omega arith);
    }

-- ---- a value of the matrix is the sum at its position
module _ (t : Triplets) (n : ℕ) where
  held : ℕ → List Float
  held j = map (λ i. sum_at t i j (length t.rows)) (column_rows t.rows t.cols j n)

  pub values_length : (j : ℕ) → length (values_before t n j) ≡ length (rows_before t.rows t.cols n j)
  unfolding values_before rows_before held
  values_length zero = refl
  values_length (suc j) =
      length-append (values_before t n j) (held j)
      ∙ ap₂ ◌+◌ (values_length j) (length-map (column_rows t.rows t.cols j n) (λ i. sum_at t i j (length t.rows)))
      ∙ sym (length-append (rows_before t.rows t.cols n j) (column_rows t.rows t.cols j n))

  value_at_lem : (k : ℕ) (e : Entry n t.rows t.cols k) → get_or (values_before t n n) k nan ≡ sum_at t
      (get_or (column_rows t.rows t.cols e.col n) e.place 0) e.col (length t.rows)
  unfolding held
  value_at_lem k e =
      let j = e.col in
      rw (e.at, ← values_length j)
      (part_at nan held (values_before t n) (λ c. unfold values_before held in refl) j e.place n e.col_in
      (rw (length-map (column_rows t.rows t.cols j n) (λ i. sum_at t i j (length t.rows))) e.place_in)
      ∙ map_at (λ i. sum_at t i j (length t.rows)) (column_rows t.rows t.cols j n) e.place e.place_in)

-- ---- where no pair repeats
-- a sum is 0.0, or 0.0 plus the one value of its pair: what holds of these, for two lists of values side by side, holds of all sums
module _ (R : Float → Float → Type 0) (rows cols : List ℕ) (u v : List Float) (pairs : length cols ≡ length rows) (once : repeats rows cols ≡ false)
    (none : R fzero fzero) (one : (k : ℕ) → k < length rows → R (add binary64 fzero (get_or u k nan)) (add binary64 fzero (get_or v k nan))) where
  -- an entry that stands there adds its value to 0.0
  first_value : (i j k : ℕ) → k < length rows → stands rows cols i j k ≡ true
      → R (add binary64 (sum_at (triplets rows cols u) i j k) (get_or u k nan)) (add binary64 (sum_at (triplets rows cols v) i j k) (get_or v k nan))
  first_value i j k h s =
      let b = both (eqb (get_or rows k 0) i) (eqb (get_or cols k 0) j) s in
      let e : filled rows cols i j k ≡ false =
      subst₂ (λ (x y : ℕ). filled rows cols x y k ≡ false) (eqb-true (get_or rows k 0) i b.0) (eqb-true (get_or cols k 0) j b.1)
      (first_there rows cols pairs once k h) in
      rw (none_yet (triplets rows cols u) j i k e, none_yet (triplets rows cols v) j i k e) (one k h)

  sums_hold : (i j k : ℕ) → k ≤ length rows → R (sum_at (triplets rows cols u) i j k) (sum_at (triplets rows cols v) i j k)
  unfolding sum_at
  sums_hold i j zero h = none
  sums_hold i j (suc k) h = go (stands rows cols i j k) (first_value i j k h) (sums_hold i j k (omega arith))
    where
      go : (s : Bool) → (s ≡ true → R (add binary64 (sum_at (triplets rows cols u) i j k) (get_or u k nan))
          (add binary64 (sum_at (triplets rows cols v) i j k) (get_or v k nan)))
          → R (sum_at (triplets rows cols u) i j k) (sum_at (triplets rows cols v) i j k)
          → R (plus s (sum_at (triplets rows cols u) i j k) (get_or u k nan)) (plus s (sum_at (triplets rows cols v) i j k) (get_or v k nan))
      go true f c = f refl
      go false f c = c

  pub values_hold : (n k : ℕ) → k < length (rows_before rows cols n n) → R (get_or (values_before (triplets rows cols u) n n) k nan)
      (get_or (values_before (triplets rows cols v) n n) k nan)
  values_hold n k h =
      let e = entry_at n rows cols k h in
      rw (value_at_lem (triplets rows cols u) n k e, value_at_lem (triplets rows cols v) n k e)
      (sums_hold (get_or (column_rows rows cols e.col n) e.place 0) e.col (length rows) (le_refl (length rows)))

-- ---- the costs
module _ (n : ℕ) (rows cols costs : List ℕ) (inside : Inside n rows cols) (costs_fit : CostsFit n rows costs) (once : repeats rows cols ≡ false) where
  own_cost : (k : ℕ) → k < length rows → IsCost n (add binary64 fzero (get_or (cost_values costs) k nan))
  own_cost k h =
      rw (map_at (λ c. of_int binary64 (pos c)) costs k (omega (arith, costs_fit.same_length)))
      (zero_plus n (get_or costs k 0) (omega (arith, inside.rows_in k h)) (costs_fit.costs_in k (omega (arith, costs_fit.same_length))))

  graph_costs_lem : (k : ℕ) → k < entries (file_graph n rows cols costs).pattern → IsCost n (cost_of (file_graph n rows cols costs) k)
  graph_costs_lem k h =
      values_hold (λ x y. IsCost n x) rows cols (cost_values costs) (cost_values costs) inside.pairs once
      (record { amount = 0; low = omega arith; whole = zero_whole }) own_cost n k h

  pub graph_whole : WholeCosts (file_graph n rows cols costs)
  graph_whole k h = let c = graph_costs_lem k h in (pos c.amount, c.whole)

  pub graph_range : (k : ℕ) → k < entries (file_graph n rows cols costs).pattern → in_range n (cost_of (file_graph n rows cols costs) k) ≡ true
  graph_range k h = let c = graph_costs_lem k h in whole_fits n c.amount (cost_of (file_graph n rows cols costs) k) c.whole c.low
