-- SPECIFICATION 6.4: Cost graphs from whole-number logarithms of the values in place of lent logs: what the building of
-- each kind answers and leaves, and what is promised of the graph. It refuses what the matrix's own tests refuse, then
-- a value that is not finite (9), in stored order. Zeros are dropped.
use Rattle.std.specs.Prelude.{◌≡◌, Bool, List, ℕ, ◌*◌, Float, length, get_or, take, Result}
use Rattle.std.specs.Float.{nan}
use Rattle.std.specs.Float.Ieee.Scale.{finite}
use Rattle.limits.specs.Limits.{max_symmetric, max_general}
use Rattle.refusal.specs.Refusal.{accepted, value_not_finite}
use Rattle.refusal.specs.Number.{fault_of}
use Rattle.refusal.specs.Listed.{OneOf, whole_symmetric_numbers, whole_general_numbers}
use Rattle.slices.specs.Outcome.{Outcome, outcome_is}
use Rattle.sparse.specs.Fault.{unless, or_else, first_of}
use Rattle.sparse.specs.Validate.{size_fault, symmetric_fault, general_fault}
use Rattle.sparse.specs.Matrix.{Matrix}
use Rattle.hungarian.specs.Graph.{CostGraph, graph_of}
use Rattle.hungarian.specs.Accepted.{Accepted}
use Rattle.hungarian.specs.Match.{hungarian_match}
use Rattle.hungarian.specs.Optimal.{WholeCosts, Optimal}
use Rattle.mc64_columns.specs.Columns.{value_logs}
use Rattle.mc64_columns.specs.Graphs.{Slices, slices_fit, outcome, kept_before, AnswersBy}
use Rattle.mc64_symmetric.specs.Graph.{mirrored_columns}
use Rattle.mc64_general.specs.Graph.{kept_columns}

-- ---- refusals
-- 9 of the first value that is not finite
unfoldable pub finite_fault : List Float → ℕ
finite_fault values = first_of (length values) (λ k. unless (finite (get_or values k nan)) value_not_finite) 0

-- 3: whether every slice has its length. No logs are lent: the values take their place
abbrev pub symmetric_lengths : Matrix → Slices → Bool
symmetric_lengths m s = slices_fit (2 * length m.pattern.row_idx) m m.values s

abbrev pub general_lengths : Matrix → Slices → Bool
general_lengths m s = slices_fit (length m.pattern.row_idx) m m.values s

-- the first thing wrong, or 0; `lengths` says whether every slice has its length
unfoldable pub symmetric_input_fault : Matrix → Bool → ℕ
symmetric_input_fault m lengths =
    or_else (size_fault m.pattern.n max_symmetric (length m.pattern.row_idx) lengths)
    (or_else (symmetric_fault m) (finite_fault m.values))

unfoldable pub general_input_fault : Matrix → Bool → ℕ
general_input_fault m lengths =
    or_else (size_fault m.pattern.n max_general (length m.pattern.row_idx) lengths)
    (or_else (general_fault m) (finite_fault m.values))

-- the same of what is lent
abbrev pub whole_symmetric_fault : Matrix → Slices → ℕ
whole_symmetric_fault m s = symmetric_input_fault m (symmetric_lengths m s)

abbrev pub whole_general_fault : Matrix → Slices → ℕ
whole_general_fault m s = general_input_fault m (general_lengths m s)

-- ---- graphs
-- what the building of each kind does
unfoldable pub whole_symmetric_graph : Matrix → Slices → Outcome (Result ℕ ℕ) Slices
whole_symmetric_graph m s =
    outcome (whole_symmetric_fault m s) m.pattern.n (mirrored_columns m) (value_logs m.values) s

unfoldable pub whole_general_graph : Matrix → Slices → Outcome (Result ℕ ℕ) Slices
whole_general_graph m s =
    outcome (whole_general_fault m s) m.pattern.n (kept_columns m) (value_logs m.values) s

-- ---- what is promised of the graph
-- the graph that is left: its pointers, and rows and costs up to the last pointer
abbrev pub graph_left : ℕ → Slices → CostGraph
graph_left n after =
    let kept = get_or after.graph_ptr n 0 in
    graph_of n after.graph_ptr (take kept after.graph_idx) (take kept after.cost)

-- the match accepts the graph, all its costs are whole, and its match is optimal
pub record WholeGraph (g : CostGraph) : Type 0 where
  pub matched : Accepted g
  pub whole : WholeCosts g
  pub optimal : Optimal g (hungarian_match g)

-- this holds for the graph that an accepted call leaves
abbrev pub LeavesWhole : ℕ → ℕ → Slices → Type 0
LeavesWhole number n after = number ≡ accepted → WholeGraph (graph_left n after)

-- ---- all that each call promises, of the matrix, what was lent, its answer r and what is left
-- `whole_symmetric_graph`
pub record SymmetricPromises (m : Matrix) (before : Slices) (r : Result ℕ ℕ) (after : Slices) : Type 0 where
  -- the answer and every slice left are the definition's
  pub outcome : outcome_is r after ≡ whole_symmetric_graph m before
  -- the number is that of the first fault, and an accepted call answers how many entries the graph has
  pub answered : AnswersBy (whole_symmetric_fault m before) (kept_before (mirrored_columns m) m.pattern.n) r
  -- the match accepts the graph of an accepted call, and is optimal
  pub optimal : LeavesWhole (fault_of r) m.pattern.n after
  -- the number is one of the call's list
  pub number : OneOf whole_symmetric_numbers (fault_of r)

-- `whole_general_graph`
pub record GeneralPromises (m : Matrix) (before : Slices) (r : Result ℕ ℕ) (after : Slices) : Type 0 where
  -- the answer and every slice left are the definition's
  pub outcome : outcome_is r after ≡ whole_general_graph m before
  -- the number is that of the first fault, and an accepted call answers how many entries the graph has
  pub answered : AnswersBy (whole_general_fault m before) (kept_before (kept_columns m) m.pattern.n) r
  -- the match accepts the graph of an accepted call, and is optimal
  pub optimal : LeavesWhole (fault_of r) m.pattern.n after
  -- the number is one of the call's list
  pub number : OneOf whole_general_numbers (fault_of r)
