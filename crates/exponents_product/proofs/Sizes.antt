-- From the logarithms of a matrix's entries to the sizes at its places: at most one entry is at (i, j), so the size there is its own, or 0 (`size_is`).
-- A match whose duals are potentials of the logarithms is near the largest, for either kind (`near_largest`).
use mathlib.Core.Path.{◌≡◌, refl, sym, ◌∙◌, subst}
use mathlib.Core.Bool.{Bool}
use mathlib.Core.List.{List}
use mathlib.Core.Logic.{◌≢◌, ◌⊎◌, inl, inr}
use Prim.Native.Nat.{ℕ, zero, suc, ◌+◌, ◌*◌, ◌^◌, ◌≤◌, ◌<◌}
use native.Mathlib.Nat.{mul-zero, lt_of_lt_of_le}
use native.Mathlib.Decide.{ℕ_discrete}
use native.Mathlib.Omega.{arith}
use lib.Dec.{T}
use lib.Pow.{pow_pos}
use lib.ListN.{length}
use Rattle.float64.proofs.Integers.{plus, minus}
use Rattle.matching.specs.Sum.{sum_to, or_zero}
use Rattle.matching.proofs.Sums.{or_zero_pos, or_zero_true, sum_change, sum_const}
use Rattle.sparse.specs.Matrix.{Matrix}
use Rattle.exponents_bounds.specs.Bounds.{KeptEntry, entry_magnitude}
use Rattle.exponents_bounds.proofs.AnyColumns.{Alone, LogPotentials}
use Rattle.exponents_product.specs.Product.{size_by, CompleteChoice, product_of, rows_of, NearLargest}
use Rattle.exponents_product.proofs.Products.{some_base, NearTo, Below, Tight, near}

-- ---- sums with one summand
sum_alone : (n : ℕ) (w : ℕ → ℕ) (i : ℕ) → i < n → ((j : ℕ) → j < n → j ≢ i → w j ≡ 0) → sum_to n w ≡ w i
sum_alone n w i b h = omega (arith, sum_change n w (λ j. 0) i b h, sum_const n 0, mul-zero n)

-- a sum is 0 or has a summand
some_summand : (n : ℕ) (w : ℕ → ℕ) → (sum_to n w ≡ 0) ⊎ ((i : ℕ) × (i < n) × (0 < w i))
unfolding sum_to
some_summand zero w = inl refl
some_summand (suc n) w = go (some_summand n w) (ℕ_discrete (w n) 0)
  where
    go : (sum_to n w ≡ 0) ⊎ ((i : ℕ) × (i < n) × (0 < w i)) → Dec (w n ≡ 0) → (sum_to n w + w n ≡ 0) ⊎ ((i : ℕ) × (i < suc n) × (0 < w i))
    go (inl z) (yes e) = inl (omega arith)
    go (inr (i, b, p)) (yes e) = inr (i, omega arith, p)
    go x (no d) = inr (n, omega arith, omega arith)

-- ---- a matrix of either kind, of which `at i j k` says that entry k is at (i, j)
module _ (m : Matrix) (At : ℕ → ℕ → ℕ → Type 0) (at : ℕ → ℕ → ℕ → Bool)
    (says : (i j k : ℕ) → T (at i j k) → At k i j) (tells : (i j k : ℕ) → At k i j → T (at i j k)) where
  abbrev size : ℕ → ℕ → ℕ
  size i j = size_by (at i j) m

  abbrev summand : ℕ → ℕ → ℕ → ℕ
  summand i j k = or_zero (at i j k) (entry_magnitude m k)

  -- where no two are in one place
  pub size_is : Alone m At → (i j k : ℕ) → k < length m.pattern.row_idx → At k i j → size i j ≡ entry_magnitude m k
  unfolding size_by
  size_is alone i j k h a = sum_alone (length m.pattern.row_idx) (summand i j) k h others ∙ or_zero_true (at i j k) (entry_magnitude m k) (tells i j k a)
    where
      others : (l : ℕ) → l < length m.pattern.row_idx → l ≢ k → summand i j l ≡ 0
      others l g d = go (ℕ_discrete (summand i j l) 0)
        where
          go : Dec (summand i j l ≡ 0) → summand i j l ≡ 0
          go (yes e) = e
          go (no e) = absurd (d (alone i j l k g h (says i j l (or_zero_pos (at i j l) (entry_magnitude m l) (omega arith))) a))

module _ (m : Matrix) (At : ℕ → ℕ → ℕ → Type 0) (at : ℕ → ℕ → ℕ → Bool)
    (says : (i j k : ℕ) → T (at i j k) → At k i j) (tells : (i j k : ℕ) → At k i j → T (at i j k)) (perm : List ℕ) (L : LogPotentials m At perm) where
  abbrev sizes : ℕ → ℕ → ℕ
  sizes i j = size_by (at i j) m

  abbrev part : ℕ → ℕ → ℕ → ℕ
  part i j k = or_zero (at i j k) (entry_magnitude m k)

  own_size : (i j k : ℕ) → KeptEntry m k → At k i j → sizes i j ≡ entry_magnitude m k
  own_size i j k K = size_is m At at says tells L.alone i j k K.stored

  -- nothing, or a kept entry
  size_at : (i j : ℕ) → (sizes i j ≡ 0) ⊎ ((k : ℕ) × KeptEntry m k × At k i j)
  unfolding size_by
  size_at i j = go (some_summand (length m.pattern.row_idx) (part i j))
    where
      go : (sum_to (length m.pattern.row_idx) (part i j) ≡ 0) ⊎ ((k : ℕ) × (k < length m.pattern.row_idx) × (0 < part i j k))
          → (sizes i j ≡ 0) ⊎ ((k : ℕ) × KeptEntry m k × At k i j)
      go (inl z) = inl z
      go (inr (k, h, p)) =
          let t = or_zero_pos (at i j k) (entry_magnitude m k) p in
          inr (k, L.some k h (subst (λ (x : ℕ). 0 < x) (or_zero_true (at i j k) (entry_magnitude m k) t) p), says i j k t)

  -- ---- potentials by their parts
  abbrev ups : ℕ → ℕ → ℕ
  ups i j = plus (L.row i) + plus (L.column j)

  abbrev downs : ℕ → ℕ → ℕ
  downs i j = 1074 * 65536 + (minus (L.row i) + minus (L.column j))

  below_at : (i j : ℕ) → (sizes i j ≡ 0) ⊎ Below 65536 (sizes i j) (ups i j) (downs i j)
  below_at i j = go (size_at i j)
    where
      go : (sizes i j ≡ 0) ⊎ ((k : ℕ) × KeptEntry m k × At k i j) → (sizes i j ≡ 0) ⊎ Below 65536 (sizes i j) (ups i j) (downs i j)
      go (inl z) = inl z
      go (inr (k, K, a)) =
          let r = L.below i j k K a in
          inr (record { q = r.q; bound = subst (λ (x : ℕ). x ^ 65536 < 2 ^ (r.q + 2)) (sym (own_size i j k K a)) r.bounds.below; sum = r.sum })

  tight_at : (j : ℕ) → j < m.pattern.n → Tight 65536 (sizes (rows_of perm j) j) (ups (rows_of perm j) j) (downs (rows_of perm j) j)
  tight_at j h =
      let (k, K, a) = L.pair j h in
      let r = L.tight j k K a in
      record { q = r.q; bound = subst (λ (x : ℕ). 2 ^ r.q ≤ x ^ 65536) (sym (own_size (rows_of perm j) j k K a)) r.bounds.at_most; sum = r.sum }

  -- a pair is not zero
  pair_some : (j : ℕ) → j < m.pattern.n → 0 < sizes (rows_of perm j) j
  pair_some j h = some_base 65536 (sizes (rows_of perm j) j) (omega arith) (lt_of_lt_of_le (pow_pos (tight_at j h).q) (tight_at j h).bound)

  ours : CompleteChoice m.pattern.n (rows_of perm)
  ours = record { inside = L.inside; once = L.once }

  pub near_largest : NearLargest m.pattern.n sizes perm
  near_largest = record { complete = ours; some = pair_some; most = λ rows c. (both rows c).0; below = λ h rows c. (both rows c).1 h }
    where
      both : (rows : ℕ → ℕ) → CompleteChoice m.pattern.n rows → NearTo 65536 m.pattern.n (product_of m.pattern.n sizes rows)
          (product_of m.pattern.n sizes (rows_of perm))
      both rows c =
          near 65536 (omega arith) m.pattern.n (1074 * 65536) sizes (λ i. plus (L.row i)) (λ j. plus (L.column j)) (λ i. minus (L.row i))
          (λ j. minus (L.column j))
          ours tight_at c (λ j h. below_at (rows j) j)
