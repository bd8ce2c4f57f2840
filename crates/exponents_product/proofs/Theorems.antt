-- The product of a match against that of any complete choice of entries, of what the calls leave: `general_largest_product` and `symmetric_largest_product` for
-- our own matches, `checked_general_product` and `checked_symmetric_product` for matches that others made. The calls' outcomes are premises, as in
-- exponent_bounds; what is left has potentials (`general_left`, `symmetric_left`), and these show it (`near_largest`).
use Rattle.std.proofs.Common.{Result}
use mathlib.Core.Path.{◌≡◌, refl, sym, ap₂, subst}
use mathlib.Core.Bool.{Bool, ◌&&◌}
use mathlib.Core.List.{List, map}
use mathlib.Core.Logic.{inl, inr, ⊎_elim}
use Prim.Native.Nat.{ℕ, ◌<◌}
use borrow.Author.Tests.{eq-eqb, eqb-true}
use lib.Dec.{T}
use lib.Ieee.{binary64, of_bits}
use lib.Ieee.Bits.{is_true}
use lib.ListN.{length, get_or}
use Rattle.refusal.specs.Refusal.{accepted}
use Rattle.refusal.specs.Number.{fault_of}
use Rattle.slices.specs.Outcome.{outcome_is}
use Rattle.slices.proofs.Bools.{both}
use Rattle.sparse.specs.Matrix.{Matrix}
use Rattle.sparse.specs.Pattern.{column_of}
use Rattle.hungarian.proofs.Rows.{or_l, or_r, or_cases}
use Rattle.hungarian_match.specs.Call as Match
use Rattle.hungarian.specs.declared.Counts.{Counts}
use Rattle.match_check.specs.Check.{Claim, claim, check_fault}
use Rattle.mc64_columns.specs.Graphs.{Slices}
use Rattle.whole_graphs.specs.Graphs.{whole_general_graph, whole_symmetric_graph, graph_left}
use Rattle.whole_graphs.proofs.Theorems.{Doubles}
use Rattle.exponents_bounds.specs.Bounds.{entry_magnitude}
use Rattle.exponents_bounds.proofs.AnyColumns.{EntryAt, EitherAt, LogPotentials}
use Rattle.exponents_bounds.proofs.Theorems.{left_certified, checked_certified, general_once, symmetric_once, general_left, symmetric_left}
use Rattle.exponents_product.specs.Product.{entry_at, either_at, general_size, symmetric_size, NearLargest}
use Rattle.exponents_product.proofs.Sizes.{size_is, near_largest}

-- ---- the tests of a place
entry_says : (m : Matrix) (i j k : ℕ) → T (entry_at m i j k) → EntryAt m k i j
entry_says m i j k t = let b = both _ _ (is_true _ t) in (eqb-true _ _ b.0, eqb-true _ _ b.1)

entry_tells : (m : Matrix) (i j k : ℕ) → EntryAt m k i j → T (entry_at m i j k)
entry_tells m i j k (r, d) = subst T (sym (ap₂ (λ (a b : Bool). a && b) (eq-eqb _ _ r) (eq-eqb _ _ d))) tt

either_says : (m : Matrix) (i j k : ℕ) → T (either_at m i j k) → EitherAt m k i j
either_says m i j k t = ⊎_elim (λ u. inl (entry_says m i j k u)) (λ u. inr (entry_says m j i k u)) (or_cases (entry_at m i j k) (entry_at m j i k) t)

either_tells : (m : Matrix) (i j k : ℕ) → EitherAt m k i j → T (either_at m i j k)
either_tells m i j k (inl e) = or_l (entry_at m i j k) (entry_at m j i k) (entry_tells m i j k e)
either_tells m i j k (inr e) = or_r (entry_at m i j k) (entry_at m j i k) (entry_tells m j i k e)

-- ---- potentials of either kind
general_near : (m : Matrix) (perm : List ℕ) → LogPotentials m (EntryAt m) perm → NearLargest m.pattern.n (general_size m) perm
general_near m perm = near_largest m (EntryAt m) (entry_at m) (entry_says m) (entry_tells m) perm

symmetric_near : (m : Matrix) (perm : List ℕ) → LogPotentials m (EitherAt m) perm → NearLargest m.pattern.n (symmetric_size m) perm
symmetric_near m perm = near_largest m (EitherAt m) (either_at m) (either_says m) (either_tells m) perm

-- ---- the theorems
module _ (m : Matrix) (bits : List ℕ) (same : m.values ≡ map (of_bits binary64) bits) (s after : Slices) (a : Result ℕ ℕ) where
  -- the size at the place of an entry is its own, as no other is there; of a symmetric matrix at its mirror's place too
  pub general_sizes : outcome_is a after ≡ whole_general_graph m s → fault_of a ≡ accepted
      → (k : ℕ) → k < length m.pattern.row_idx → general_size m (get_or m.pattern.row_idx k 0) (column_of m.pattern k) ≡ entry_magnitude m k
  general_sizes o z k h = size_is m (EntryAt m) (entry_at m) (entry_says m) (entry_tells m) (general_once m bits same s after a o z) _ _ k h
      (refl, refl)

  pub symmetric_sizes_lem : outcome_is a after ≡ whole_symmetric_graph m s → fault_of a ≡ accepted → (k : ℕ) → k < length m.pattern.row_idx
      → (symmetric_size m (get_or m.pattern.row_idx k 0) (column_of m.pattern k) ≡ entry_magnitude m k)
      × (symmetric_size m (column_of m.pattern k) (get_or m.pattern.row_idx k 0) ≡ entry_magnitude m k)
  symmetric_sizes_lem o z k h =
      let is = size_is m (EitherAt m) (either_at m) (either_says m) (either_tells m) (symmetric_once m bits same s after a o z) in
      (is _ _ k h (inl (refl, refl)), is _ _ k h (inr (refl, refl)))

  -- If `whole_general_graph` accepts, and `hungarian_match` accepts the graph left and matches all n columns, no complete choice of the matrix's entries has a
  -- product of 2 ^ (n / 32768) times that of the match
  pub general_largest_product : outcome_is a after ≡ whole_general_graph m s → fault_of a ≡ accepted
      → (before left : Match.Slices) (answer : Result Counts ℕ) (old : List ℕ) → outcome_is answer left ≡ Match.match_outcome (graph_left m.pattern.n after) before
      → fault_of answer ≡ accepted → get_or (Match.counts_left answer old) 0 0 ≡ m.pattern.n
      → NearLargest m.pattern.n (general_size m) left.perm
  general_largest_product o z before left answer old p q count =
      let (whole, logs) = general_left m bits same s after a o z in
      general_near m left.perm
      (logs (claim left.perm left.u left.v) (left_certified m.pattern.n after whole before left answer old p q count))

  -- the same of `whole_symmetric_graph`: a choice is of entries of both triangles, and a stored entry has its size at its own place and at its mirror's
  pub symmetric_largest_product : outcome_is a after ≡ whole_symmetric_graph m s → fault_of a ≡ accepted
      → (before left : Match.Slices) (answer : Result Counts ℕ) (old : List ℕ) → outcome_is answer left ≡ Match.match_outcome (graph_left m.pattern.n after) before
      → fault_of answer ≡ accepted → get_or (Match.counts_left answer old) 0 0 ≡ m.pattern.n
      → NearLargest m.pattern.n (symmetric_size m) left.perm
  symmetric_largest_product o z before left answer old p q count =
      let (whole, logs) = symmetric_left m bits same s after a o z in
      symmetric_near m left.perm
      (logs (claim left.perm left.u left.v) (left_certified m.pattern.n after whole before left answer old p q count))

  -- the same for a match that `check_match` accepts on such a graph, whoever made it
  pub checked_general_product : outcome_is a after ≡ whole_general_graph m s → fault_of a ≡ accepted
      → (c : Claim) → Doubles c.u → Doubles c.v → (verdict : ℕ) → verdict ≡ check_fault (graph_left m.pattern.n after) c
      → verdict ≡ accepted
      → NearLargest m.pattern.n (general_size m) c.perm
  checked_general_product o z c du dv verdict p q =
      let (whole, logs) = general_left m bits same s after a o z in
      general_near m c.perm (logs c (checked_certified m.pattern.n after whole c du dv verdict p q))

  pub checked_symmetric_product : outcome_is a after ≡ whole_symmetric_graph m s → fault_of a ≡ accepted
      → (c : Claim) → Doubles c.u → Doubles c.v → (verdict : ℕ) → verdict ≡ check_fault (graph_left m.pattern.n after) c
      → verdict ≡ accepted
      → NearLargest m.pattern.n (symmetric_size m) c.perm
  checked_symmetric_product o z c du dv verdict p q =
      let (whole, logs) = symmetric_left m bits same s after a o z in
      symmetric_near m c.perm (logs c (checked_certified m.pattern.n after whole c du dv verdict p q))
