-- The loop over the costs, by the law of tests whose faults have one number; and the numbers that the graph test answers, from those of its parts.
use mathlib.Core.Path.{◌≡◌, refl}
use mathlib.Core.Bool.{Bool, cond, ◌&&◌}
use mathlib.Core.List.{List}
use mathlib.Core.Logic.{◌≢◌}
use Prim.Native.Nat.{ℕ, ◌+◌, ◌<◌, ◌≤◌}
use native.Mathlib.Omega.{arith}
use lib.ListN.{length, get_or}
use lib.Ieee.{Float, nan}
use Rattle.limits.specs.Limits.{max_general}
use Rattle.refusal.specs.Refusal.{cost_range}
use Rattle.refusal.specs.Listed.{listed, graph_numbers}
use Rattle.sparse.proofs.Alike as Alike
use Rattle.sparse.proofs.Listed.{Listed, test, or_listed, first_listed, within, part}
use Rattle.sparse.proofs.Theorems.{size_numbers, pointer_numbers, column_numbers, sizes_listed, pointers_listed, general_columns_listed}
use Rattle.cost_limit.specs.Range.{in_range}
use Rattle.sparse.specs.Pattern.{entries}
use Rattle.hungarian.specs.Graph.{CostGraph}
use Rattle.hungarian.specs.Test.{cost_fault, graph_fault}

pub some : cost_range ≢ 0
some e = let z : ⊥ = omega arith in absurd z

module _ (n : ℕ) (cost : List Float) where
  abbrev fits : ℕ → Bool
  fits k = in_range n (get_or cost k nan)

  abbrev pub Tested : Bool → ℕ → Type 0
  Tested fine k = Alike.Tested fits cost_range (length cost) some fine k

  pub test_goes_on : (fine : Bool) (k : ℕ) → k < length cost → Tested fine k → Tested (fine && in_range n (get_or cost k nan)) (k + 1)
  test_goes_on = Alike.test_goes_on fits cost_range (length cost) some

  pub test_ends : (fine : Bool) (k : ℕ) → length cost ≤ k → Tested fine k → cost_fault n cost ≡ cond fine 0 cost_range
  unfolding cost_fault
  test_ends = Alike.test_ends fits cost_range (length cost) some

-- the graph test answers 0 1 2 3 4 5 7 8 and no other number
pub match_listed : (g : CostGraph) (lengths : Bool) → Listed graph_numbers (graph_fault g lengths)
unfolding listed within graph_fault cost_fault
match_listed g lengths =
    or_listed (part size_numbers (sizes_listed g.pattern.n max_general (entries g.pattern) lengths) refl)
    (or_listed (part pointer_numbers (pointers_listed g.pattern.n g.pattern.col_ptr (entries g.pattern)) refl)
    (or_listed (part column_numbers (general_columns_listed g.pattern.n g.pattern.col_ptr g.pattern.row_idx) refl)
    (first_listed (length g.cost) 0 refl (λ k. test (in_range g.pattern.n (get_or g.cost k nan)) cost_range refl refl))))
