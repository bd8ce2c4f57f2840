-- The costs of whole logs in range: the largest log of a column is one of them, and each cost is the largest minus a log, exactly.
use mathlib.Core.Path.{◌≡◌, subst}
use mathlib.Core.Bool.{Bool, true, false, cond}
use mathlib.Core.List.{List, [], ◌∷◌}
use Prim.Native.Nat.{ℕ, suc, ◌+◌, ◌-◌, ◌*◌, ◌^◌, ◌≤◌, ◌<◌}
use native.Mathlib.Nat.{mul-le-mul_right}
use native.Mathlib.Omega.{arith}
use borrow.Author.Tests.{ltb-true}
use lib.Dec.{ltb}
use lib.Ieee.{Float, nan, binary64, lt, sub}
use lib.Ieee.Scale.{finite}
use lib.ListN.{length, get_or, length-map}
use Rattle.float64.specs.Number.{Number, negative, units_per_one, origin, magnitude, IsWhole}
use Rattle.float64.specs.inner.Keys.{place, position}
use Rattle.float64.proofs.Scale.{mag_lt}
use Rattle.float64.specs.inner.Arithmetic.{Apart, whole_limit}
use Rattle.float64.proofs.WholeNumbers.{number_whole, whole_arithmetic}
use Rattle.slices.proofs.Bools.{both}
use Rattle.cost_limit.specs.Range.{times_below, in_log_range}
use Rattle.sparse.specs.Matrix.{Matrix}
use Rattle.hungarian.specs.Graph.{cost_of}
use Rattle.hungarian.specs.Optimal.{WholeCosts}
use Rattle.mc64_columns.specs.Columns.{largest, largest_from}
use Rattle.mc64_columns.specs.Graphs.{joined, logs_of, graph_largest}
use Rattle.mc64_columns.proofs.Graphs.{ones_length, joined_at}
use Rattle.mc64_columns.proofs.Kept.{map_at}
use Rattle.mc64_symmetric.specs.Graph.{places_of, mirrored_columns}
use Rattle.mc64_symmetric.specs.inner.Steps.{Triangle}
use Rattle.mc64_symmetric.proofs.Theorems.{taken}
use Rattle.factors_balance.specs.Balance.{KeptEntry, WholeLogs}
use Rattle.factors_balance.proofs.Entries.{symmetric_graph, top_of, MadeOf, made}
use Rattle.factors_mc64.proofs.Exact.{Within}

-- ---- the largest of a list is one of it
module _ (P : Float → Type 0) where
  larger_one : (top : Float) (l : List Float) → P top → ((k : ℕ) → k < length l → P (get_or l k nan)) → P (largest_from top l)
  unfolding largest_from
  larger_one top [] p q = p
  larger_one top (c ∷ l) p q = larger_one (cond (lt top c) c top) l (go (lt top c)) (λ k h. q (suc k) (omega arith))
    where
      go : (b : Bool) → P (cond b c top)
      go true = q 0 (omega arith)
      go false = p

  largest_one : (l : List Float) → 0 < length l → ((k : ℕ) → k < length l → P (get_or l k nan)) → P (largest l)
  unfolding largest
  largest_one [] h q = absurd (omega arith)
  largest_one (c ∷ l) h q = larger_one c l (q 0 (omega arith)) (λ k g. q (suc k) (omega arith))

-- ---- whole logs
-- a log in range
log_within : (n : ℕ) (x : Float) → 0 < n → Number x → in_log_range n x ≡ true → Within (2 ^ 47) x
unfolding in_log_range times_below position place
log_within n x some p h =
    let l : n * magnitude x < 2 ^ 47 * units_per_one =
    ltb-true (n * magnitude x) (2 ^ 47 * units_per_one) (both (finite x) (ltb (n * magnitude x) (2 ^ 47 * units_per_one)) h).1 in
    let s : 1 * magnitude x ≤ n * magnitude x = mul-le-mul_right (magnitude x) some in
    go (negative x) (magnitude x) (omega arith) (mag_lt x p)
  where
    go : (s : Bool) (a : ℕ) → a ≤ 2 ^ 47 * units_per_one → a < origin → Apart (2 ^ 47 * units_per_one) (place s a) origin
    go true a l k = record { above = omega arith; under = omega arith }
    go false a l k = record { above = omega arith; under = omega arith }

-- a whole number up to 2 ^ 47 in size
pub record Short (x : Float) : Type 0 where
  pub whole : IsWhole x
  pub within : Within (2 ^ 47) x

-- a difference of two is exact
module _ (x y : Float) (p : Short x) (q : Short y) where
  fits : Apart (whole_limit * units_per_one) (position x) (position y)
  fits = record { above = omega (arith, p.within.above, q.within.under); under = omega (arith, p.within.under, q.within.above) }

  difference_whole : IsWhole (sub binary64 x y)
  difference_whole = whole_arithmetic.minus x y p.whole q.whole fits

  difference_key : position (sub binary64 x y) + position y ≡ position x + origin
  difference_key = let a = whole_arithmetic.minus_near x y p.whole q.whole fits in omega (arith, a.above, a.under)

module _ (m : Matrix) (logs : List Float) (t : Triangle m) (whole : WholeLogs m logs)
    (ranges : (k : ℕ) → KeptEntry m k → in_log_range m.pattern.n (get_or logs k nan) ≡ true) where
  pub log_short : (k : ℕ) → 0 < m.pattern.n → KeptEntry m k → Short (get_or logs k nan)
  log_short k some K =
      let w = whole k K in
      record { whole = w; within = log_within m.pattern.n (get_or logs k nan) some (number_whole (get_or logs k nan) w.0 w.1) (ranges k K) }

  -- the largest log of a column that is not empty
  pub top_short : (c : ℕ) → c < m.pattern.n → 0 < length (places_of m c) → Short (top_of m logs c)
  top_short c h some = largest_one Short (logs_of (mirrored_columns m) logs c) (rw length-map some) each
    where
      each : (i : ℕ) → i < length (logs_of (mirrored_columns m) logs c) → Short (get_or (logs_of (mirrored_columns m) logs c) i nan)
      each i l =
          let u : i < length (places_of m c) = rw length-map at l in
          let p = taken m c (length m.pattern.row_idx) i u in
          rw (map_at (λ (k : ℕ). get_or logs k nan) (places_of m c) i nan u)
          (log_short (get_or (places_of m c) i 0) (omega arith) (record { stored = p.0; is_kept = p.2 }))

  -- it stands in its place
  pub largest_at : (c : ℕ) → c < m.pattern.n → get_or (graph_largest (mirrored_columns m) logs m.pattern.n) c nan ≡ top_of m logs c
  largest_at c h =
      let e : c + suc (m.pattern.n - suc c) ≡ m.pattern.n = omega arith in
      let q : length (joined (λ i. top_of m logs i ∷ []) c) + 0 ≡ c = omega (arith, ones_length (top_of m logs) c) in
      subst (λ (x : ℕ). get_or (graph_largest (mirrored_columns m) logs m.pattern.n) x nan ≡ top_of m logs c) q
      (subst (λ (x : ℕ). get_or (graph_largest (mirrored_columns m) logs x) (length (joined (λ i. top_of m logs i ∷ []) c) + 0) nan ≡ top_of m logs c) e
      (joined_at (λ i. top_of m logs i ∷ []) nan c (m.pattern.n - suc c) 0 (omega arith)))

  -- ---- entries
  module _ {e c p : ℕ} (M : MadeOf m logs t e c p) where
    entry_log_lem : Short (get_or logs p nan)
    entry_log_lem = log_short p (omega (arith, M.inside)) M.place

    entry_top : Short (top_of m logs c)
    entry_top = top_short c M.inside M.some

    pub cost_whole : IsWhole (cost_of (symmetric_graph m logs) e)
    cost_whole = rw M.cost (difference_whole (top_of m logs c) (get_or logs p nan) entry_top entry_log_lem)

    pub cost_key : position (cost_of (symmetric_graph m logs) e) + position (get_or logs p nan) ≡ position (top_of m logs c) + origin
    cost_key = rw M.cost (difference_key (top_of m logs c) (get_or logs p nan) entry_top entry_log_lem)

  pub costs_whole : WholeCosts (symmetric_graph m logs)
  costs_whole e h = cost_whole (made m logs t e h).1
