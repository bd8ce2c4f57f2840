-- SPECIFICATION 10.1: What `compute_symmetric` answers and leaves: the symmetric cost graph, its match and the log
-- factors, one after the other. It refuses as the building does, with the lengths of every slice at 3, and then changes
-- nothing.
use Rattle.std.specs.Prelude.{◌≡◌, Bool, ◌&&◌, List, ℕ, ◌+◌, ◌-◌, ◌*◌, eqb, Float, length, replicate, Result, Ok, Err}
use Rattle.refusal.specs.Number.{fault_of}
use Rattle.refusal.specs.Listed.{OneOf, symmetric_graph_numbers}
use Rattle.slices.specs.Outcome.{Outcome, outcome_is, refusing}
use Rattle.float64.specs.Constants.{zero as fzero}
use Rattle.sparse.specs.Matrix.{Matrix}
use Rattle.matching.specs.Match.{Match, match_of}
use Rattle.hungarian.specs.Graph.{CostGraph, graph_of}
use Rattle.hungarian.specs.Match.{hungarian_match}
use Rattle.hungarian_match.specs.Call as Match
use Rattle.mc64_columns.specs.Graphs as Graphs
use Rattle.mc64_columns.specs.Graphs.{graph_pointers, graph_rows, graph_costs, graph_largest, built}
use Rattle.mc64_symmetric.specs.Graph.{mirrored_columns}
use Rattle.mc64_symmetric.specs.Call.{lengths_fit, input_fault}
use Rattle.factors_mc64.specs.declared.Scaled.{Scaled}
use Rattle.factors_mc64.specs.declared.Scaled.TheVariants.{Applied}
use Rattle.factors_mc64.specs.Factors.{symmetric_factors}
use Rattle.factors_mc64.specs.Calls as Factors
use Rattle.factors_balance.specs.Balance.{WholeLogs, NoneHeld, Balanced}

-- what is lent: the slices of the three calls
pub record ScalingSlices : Type 0 where
  pub graph : Graphs.Slices
  pub pairs : Match.Slices
  pub scaled : Factors.Slices

abbrev pub scaling_slices : Graphs.Slices → Match.Slices → Factors.Slices → ScalingSlices
scaling_slices graph pairs scaled = record { graph = graph; pairs = pairs; scaled = scaled }

-- 3: whether the slices of the match and of the factors have their lengths for n columns
unfoldable pub rest_lengths : ℕ → Match.Slices → Factors.Slices → Bool
rest_lengths n p f =
    eqb (length p.perm) n
    && (eqb (length p.u) n
    && (eqb (length p.v) n
    && (eqb (length p.work) (12 * n + 1)
    && (eqb (length p.fwork) (2 * n) && (eqb (length f.factors) n && eqb (length f.work) n)))))

unfoldable pub rest_fits : ℕ → ScalingSlices → Bool
unfolding rest_lengths
rest_fits n l = rest_lengths n l.pairs l.scaled

-- the first thing wrong, or 0
abbrev pub scaling_fault : Matrix → List Float → ScalingSlices → ℕ
scaling_fault m logs l = input_fault m logs (lengths_fit m logs l.graph && rest_fits m.pattern.n l)

-- the graph that is built
abbrev pub symmetric_graph : Matrix → List Float → CostGraph
symmetric_graph m logs =
    let n = m.pattern.n in
    let g = mirrored_columns m in
    graph_of n (graph_pointers g n) (graph_rows g n) (graph_costs g logs n)

-- how many of its columns the match leaves unmatched
abbrev pub unmatched_columns : Matrix → List Float → ℕ
unmatched_columns m logs = m.pattern.n - (hungarian_match (symmetric_graph m logs)).matched

-- what the match of a graph leaves, and what the factors of that match leave
abbrev pub pairs_left : CostGraph → Match.Slices → Match.Slices
pairs_left g s =
    Match.slices (hungarian_match g).perm (hungarian_match g).u (hungarian_match g).v
    (replicate (length s.work) 0) (replicate (length s.fwork) fzero)

abbrev pub factors_left : CostGraph → List Float → Factors.Slices
factors_left g cmax =
    Factors.slices
    (symmetric_factors g.pattern.n
    (match_of (hungarian_match g).perm (hungarian_match g).u (hungarian_match g).v cmax))
    (replicate g.pattern.n 0)

-- what the three calls leave, one after the other
abbrev pub slices_after : Matrix → List Float → ScalingSlices → ScalingSlices
slices_after m logs l =
    let g = symmetric_graph m logs in
    scaling_slices (built m.pattern.n (mirrored_columns m) logs l.graph) (pairs_left g l.pairs)
    (factors_left g (graph_largest (mirrored_columns m) logs m.pattern.n))

-- an accepted call: every column is matched, or how many are not
unfoldable pub scaled : Matrix → List Float → ScalingSlices → Outcome (Result Scaled ℕ) ScalingSlices
scaled m logs l =
    outcome_is (Ok (Factors.applied_or_partial m.pattern.n (hungarian_match (symmetric_graph m logs)).matched))
    (slices_after m logs l)

-- what `compute_symmetric` does
unfoldable pub symmetric_scaling : Matrix → List Float → ScalingSlices → Outcome (Result Scaled ℕ) ScalingSlices
unfolding scaled rest_fits
symmetric_scaling m logs l = refusing Err (scaling_fault m logs l) (scaled m logs l) l

-- what the factors achieve if every column is matched, the logs read are whole and no factor is held: the two factors
-- of an entry and its log never exceed 0, and are exactly 0 on every matched pair
abbrev pub Balances : Matrix → List Float → Result Scaled ℕ → Match Float → List Float → Type 0
Balances m logs answer c factors =
    answer ≡ Ok Applied → WholeLogs m logs → NoneHeld m.pattern.n c factors → Balanced m logs c.perm factors

-- the match that is left, with the largest logs
abbrev pub cache_left : ScalingSlices → Match Float
cache_left after = match_of after.pairs.perm after.pairs.u after.pairs.v after.graph.cmax

-- ---- all that `compute_symmetric` promises, of the matrix, its logs, what was lent, its answer r and what is left
pub record Promises (m : Matrix) (logs : List Float) (before : ScalingSlices) (r : Result Scaled ℕ)
    (after : ScalingSlices) : Type 0 where
  -- the answer and every slice left are the definition's
  pub outcome : outcome_is r after ≡ symmetric_scaling m logs before
  -- the number is that of the first fault, and an accepted call answers how many columns are unmatched
  pub answered : Factors.AnswersBy (scaling_fault m logs before) (unmatched_columns m logs) r
  -- the number is one of the call's list
  pub number : OneOf symmetric_graph_numbers (fault_of r)
  -- if every column is matched, the factors of whole logs balance the entries
  pub balanced : Balances m logs r (cache_left after) after.scaled.factors
