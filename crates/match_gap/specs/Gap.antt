-- The gap of a pairing with duals, whoever made them, and its faults: SPECIFICATION 5.17. The difference of natural
-- numbers is 0 if it would be negative.
use Rattle.std.specs.Prelude.{Bool, cond, ◌&&◌, List, ℕ, zero, suc, ◌+◌, ◌-◌, leb, eqb, length, get_or, Float}
use Rattle.std.specs.Float.{nan}
use Rattle.refusal.specs.Refusal.{index_range, cost_range, incomplete_matching, infeasible_duals}
use Rattle.sparse.specs.Fault.{unless, or_else}
use Rattle.matching.specs.Sum.{sum_to}
use Rattle.sparse.specs.Pattern.{Pattern, row_of, start, end}
use Rattle.hungarian.specs.Graph.{CostGraph, cost_of}
use Rattle.hungarian.specs.Counts.{larger}
use Rattle.hungarian.specs.Test.{graph_fault}
use Rattle.match_check.specs.Check.{Claim, row_for, row_dual, column_dual, every_of, check_lengths, pairing_fits}
use Rattle.match_gap.specs.Rounding.{zero_step, step, in_steps, lower, upper}

-- ---- the gap
-- how far u + v of entry k, of column j, can be above its cost, in steps of s units
abbrev pub excess_at : ℕ → CostGraph → Claim → ℕ → ℕ → ℕ
excess_at s g c j k =
    upper s (row_dual c (row_of g.pattern k)) + upper s (column_dual c j) - (lower s (cost_of g k) + zero_step)

-- how far it can be below its cost, if it is the column's pair
abbrev pub lack_at : ℕ → CostGraph → Claim → ℕ → ℕ → ℕ
lack_at s g c j k =
    cond (eqb (row_of g.pattern k) (row_for c j))
    (upper s (cost_of g k) + zero_step - (lower s (row_dual c (row_of g.pattern k)) + lower s (column_dual c j)))
    0

-- the largest of `most` and of f at `count` places from k on
unfoldable pub most_of : ℕ → (ℕ → ℕ) → ℕ → ℕ → ℕ
unfolding larger
most_of zero f k most = most
most_of (suc count) f k most = most_of count f (suc k) (larger most (f k))

-- the largest over the entries of a column, 0 if there are none
abbrev pub column_excess : ℕ → CostGraph → Claim → ℕ → ℕ
column_excess s g c j = most_of (end g.pattern j - start g.pattern j) (excess_at s g c j) (start g.pattern j) 0

abbrev pub column_lack : ℕ → CostGraph → Claim → ℕ → ℕ
column_lack s g c j = most_of (end g.pattern j - start g.pattern j) (lack_at s g c j) (start g.pattern j) 0

-- the gap: both, summed over the columns
unfoldable pub gap_of : ℕ → CostGraph → Claim → ℕ
unfolding most_of
gap_of s g c = sum_to g.pattern.n (λ j. column_excess s g c j + column_lack s g c j)

-- ---- what is wrong
-- the most digits of a step
abbrev pub max_digits : ℕ
max_digits = 50

-- no number of the list has too many steps
unfoldable pub all_in_steps : ℕ → List Float → Bool
unfolding in_steps
all_in_steps s l = every_of (length l) (λ i. in_steps s (get_or l i nan)) 0

-- 3: every slice has its length; `gap` has one place
unfoldable pub gap_lengths : CostGraph → Claim → List ℕ → Bool
unfolding check_lengths
gap_lengths g c gap = check_lengths g c && eqb (length gap) 1

-- 30, then 31, of an accepted graph
unfoldable pub pairs_fault : ℕ → Pattern → Claim → ℕ
unfolding pairing_fits all_in_steps
pairs_fault s g c =
    or_else (unless (pairing_fits g c.perm) incomplete_matching)
    (unless (all_in_steps s c.u && all_in_steps s c.v) infeasible_duals)

-- the first thing wrong, or 0
unfoldable pub gap_fault : ℕ → CostGraph → Claim → List ℕ → ℕ
unfolding gap_lengths all_in_steps pairs_fault step
gap_fault digits g c gap =
    or_else (unless (leb digits max_digits) index_range)
    (or_else (graph_fault g (gap_lengths g c gap))
    (or_else (unless (all_in_steps (step digits) g.cost) cost_range) (pairs_fault (step digits) g.pattern c)))
