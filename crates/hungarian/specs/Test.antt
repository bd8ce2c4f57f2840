-- The graph test of SPECIFICATION 5.1: 1, 2, 3, 4, then columns upward 5 and 7, then costs in stored order 8. The first
-- thing wrong is named, or 0.
use Rattle.std.specs.Prelude.{Bool, List, ℕ, Float, length, get_or}
use Rattle.std.specs.Float.{nan}
use Rattle.limits.specs.Limits.{max_general}
use Rattle.refusal.specs.Refusal.{cost_range}
use Rattle.sparse.specs.Fault.{unless, or_else, first_of}
use Rattle.sparse.specs.Validate.{size_fault, pointer_fault, general_columns, matrix_lengths}
use Rattle.cost_limit.specs.Range.{in_range}
use Rattle.hungarian.specs.Graph.{CostGraph}

-- 8: the first cost out of range
unfoldable pub cost_fault : ℕ → List Float → ℕ
unfolding in_range
cost_fault n cost = first_of (length cost) (λ k. unless (in_range n (get_or cost k nan)) cost_range) 0

-- `lengths` says whether every slice of the call has its length
unfoldable pub graph_fault : CostGraph → Bool → ℕ
unfolding cost_fault
graph_fault g lengths =
    or_else (size_fault g.pattern.n max_general (length g.pattern.row_idx) lengths)
    (or_else (pointer_fault g.pattern.n g.pattern.col_ptr (length g.pattern.row_idx))
    (or_else (general_columns g.pattern.n g.pattern.col_ptr g.pattern.row_idx)
    (cost_fault g.pattern.n g.cost)))

-- the lengths of the graph's own slices
abbrev pub graph_lengths : CostGraph → Bool
graph_lengths g = matrix_lengths g.pattern.n g.pattern.col_ptr g.pattern.row_idx g.cost
