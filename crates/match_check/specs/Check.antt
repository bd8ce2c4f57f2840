-- SPECIFICATION 5.15: The faults of a pairing and its duals, whoever made them, as a match of a graph. The graph's own
-- tests come first, with 8 also for a cost that is not whole; then, each over the whole pairing, 30 (the pairs), 31
-- (the duals and their sums), 32 (the pairs' sums).
use Rattle.std.specs.Prelude.{Bool, true, false, not, ◌&&◌, ◌||◌, List, ℕ, zero, suc, ◌-◌, ◌*◌, ◌%◌, ◌^◌, leb, ltb, eqb, length, get_or, Float}
use Rattle.std.specs.Float.{nan, binary64}
use Rattle.std.specs.Float.Ieee.{add, le}
use Rattle.std.specs.Float.Ieee.Scale.{finite}
use Rattle.refusal.specs.Refusal.{cost_range, incomplete_matching, infeasible_duals, loose_pair}
use Rattle.float64.specs.Number.{units_per_one, magnitude}
use Rattle.sparse.specs.Fault.{unless, or_else}
use Rattle.sparse.specs.Pattern.{Pattern, row_of, start, end}
use Rattle.hungarian.specs.Graph.{CostGraph, cost_of}
use Rattle.hungarian.specs.Test.{graph_fault, graph_lengths}

-- ---- tests over several places
-- the test holds at each of `count` places from k on
unfoldable pub every_of : ℕ → (ℕ → Bool) → ℕ → Bool
every_of zero f k = true
every_of (suc count) f k = f k && every_of count f (suc k)

-- it holds at one of them
unfoldable pub some_of : ℕ → (ℕ → Bool) → ℕ → Bool
some_of zero f k = false
some_of (suc count) f k = f k || some_of count f (suc k)

-- ---- what is checked
-- the row of each column, and the duals of rows and columns
pub record Claim : Type 0 where
  pub perm : List ℕ
  pub u : List Float
  pub v : List Float

abbrev pub claim : List ℕ → List Float → List Float → Claim
claim perm u v = record { perm = perm; u = u; v = v }

abbrev pub row_for : Claim → ℕ → ℕ
row_for s j = get_or s.perm j 0

abbrev pub row_dual : Claim → ℕ → Float
row_dual s i = get_or s.u i nan

abbrev pub column_dual : Claim → ℕ → Float
column_dual s j = get_or s.v j nan

-- 3: whether every slice has its length
unfoldable pub check_lengths : CostGraph → Claim → Bool
check_lengths g s =
    graph_lengths g
    && (eqb (length s.perm) g.pattern.n
    && (eqb (length s.u) g.pattern.n && eqb (length s.v) g.pattern.n))

-- ---- 8
-- x stands for a whole number: its size in units of 2 ^ -1074 is a multiple of the number 1
unfoldable pub is_whole : Float → Bool
is_whole x = finite x && eqb (magnitude x % units_per_one) 0

unfoldable pub whole_costs : List Float → Bool
unfolding is_whole
whole_costs cost = every_of (length cost) (λ k. is_whole (get_or cost k nan)) 0

-- ---- 30
-- each row is below n
unfoldable pub rows_below : ℕ → List ℕ → Bool
rows_below n perm = every_of n (λ j. ltb (get_or perm j 0) n) 0

-- a column before j has row i
abbrev pub taken_before : List ℕ → ℕ → ℕ → Bool
taken_before perm j i = some_of j (λ c. eqb (get_or perm c 0) i) 0

-- no row occurs twice
abbrev pub row_fresh : List ℕ → ℕ → Bool
row_fresh perm j = not (taken_before perm j (get_or perm j 0))

unfoldable pub rows_once : ℕ → List ℕ → Bool
rows_once n perm = every_of n (row_fresh perm) 0

-- one of the entries from `from` up to `to` is in row i
abbrev pub has_row : List ℕ → ℕ → ℕ → ℕ → Bool
has_row row_idx i from to = some_of (to - from) (λ k. eqb (get_or row_idx k 0) i) from

-- each column has an entry in its row
abbrev pub pair_stands : Pattern → List ℕ → ℕ → Bool
pair_stands g perm j = has_row g.row_idx (get_or perm j 0) (start g j) (end g j)

unfoldable pub pairs_stand : Pattern → List ℕ → Bool
pairs_stand g perm = every_of g.n (pair_stands g perm) 0

unfoldable pub pairing_fits : Pattern → List ℕ → Bool
unfolding rows_below rows_once pairs_stand
pairing_fits g perm = rows_below g.n perm && (rows_once g.n perm && pairs_stand g perm)

-- ---- 31
-- whole, and at most 2 ^ 50 in size
unfoldable pub small_whole : Float → Bool
unfolding is_whole
small_whole x = is_whole x && leb (magnitude x) (2 ^ 50 * units_per_one)

unfoldable pub small_wholes : List Float → Bool
unfolding small_whole
small_wholes l = every_of (length l) (λ i. small_whole (get_or l i nan)) 0

-- entry k of column j: the sum of the two duals is at most the cost. For duals that fit, the sum of doubles is exact
abbrev pub sum_below : CostGraph → Claim → ℕ → ℕ → Bool
sum_below g s j k = le (add binary64 (row_dual s (row_of g.pattern k)) (column_dual s j)) (cost_of g k)

abbrev pub column_below : CostGraph → Claim → ℕ → Bool
column_below g s j = every_of (end g.pattern j - start g.pattern j) (sum_below g s j) (start g.pattern j)

unfoldable pub sums_below : CostGraph → Claim → Bool
sums_below g s = every_of g.pattern.n (column_below g s) 0

-- ---- 32
-- entry k of column j: it is not the column's pair, or the sum is at least the cost
abbrev pub sum_reached : CostGraph → Claim → ℕ → ℕ → Bool
sum_reached g s j k =
    not (eqb (row_of g.pattern k) (row_for s j))
    || le (cost_of g k) (add binary64 (row_dual s (row_of g.pattern k)) (column_dual s j))

abbrev pub column_reached : CostGraph → Claim → ℕ → Bool
column_reached g s j = every_of (end g.pattern j - start g.pattern j) (sum_reached g s j) (start g.pattern j)

unfoldable pub sums_reached : CostGraph → Claim → Bool
sums_reached g s = every_of g.pattern.n (column_reached g s) 0

-- ---- the whole check
-- 31 covers the duals and the sums of all entries
unfoldable pub duals_hold : CostGraph → Claim → Bool
unfolding small_wholes sums_below
duals_hold g s = small_wholes s.u && (small_wholes s.v && sums_below g s)

-- 30, 31, 32, of an accepted graph of whole costs
unfoldable pub claim_fault : CostGraph → Claim → ℕ
unfolding pairing_fits duals_hold sums_reached
claim_fault g s =
    or_else (unless (pairing_fits g.pattern s.perm) incomplete_matching)
    (or_else (unless (duals_hold g s) infeasible_duals) (unless (sums_reached g s) loose_pair))

-- the first thing wrong, or 0
unfoldable pub check_fault : CostGraph → Claim → ℕ
unfolding check_lengths whole_costs claim_fault
check_fault g s =
    or_else (graph_fault g (check_lengths g s)) (or_else (unless (whole_costs g.cost) cost_range) (claim_fault g s))
