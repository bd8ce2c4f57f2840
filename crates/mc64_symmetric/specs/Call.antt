-- SPECIFICATION 6.1: What `build_cost_graph` answers and leaves: 1, 2, 3, then what `csc::validate` answers, then
-- values and logs in stored order, 9 before 8; a refusal changes nothing.
use Rattle.std.specs.Prelude.{◌≡◌, Bool, ◌||◌, List, ℕ, ◌*◌, Float, length, get_or, Result}
use Rattle.std.specs.Float.{nan}
use Rattle.std.specs.Float.Ieee.{eq}
use Rattle.std.specs.Float.Ieee.Scale.{finite}
use Rattle.limits.specs.Limits.{max_symmetric}
use Rattle.refusal.specs.Refusal.{cost_range, value_not_finite}
use Rattle.refusal.specs.Number.{fault_of}
use Rattle.refusal.specs.Listed.{OneOf, symmetric_graph_numbers}
use Rattle.slices.specs.Outcome.{Outcome, outcome_is}
use Rattle.float64.specs.Constants as Constants
use Rattle.sparse.specs.Fault.{unless, or_else, first_of}
use Rattle.sparse.specs.Validate.{size_fault, symmetric_fault}
use Rattle.cost_limit.specs.Range.{in_log_range}
use Rattle.sparse.specs.Matrix.{Matrix}
use Rattle.mc64_columns.specs.Graphs.{Slices, slices_fit, outcome}
use Rattle.mc64_columns.specs.Graphs.{kept_before, AnswersBy}
use Rattle.mc64_symmetric.specs.Graph.{mirrored_columns}

-- ---- refusals
-- 3: whether every slice has its length for n columns; entries may be mirrored
abbrev pub lengths_fit : Matrix → List Float → Slices → Bool
lengths_fit m logs s = slices_fit (2 * length m.pattern.row_idx) m logs s

-- 9 and 8 of an entry; the log of a zero is not tested
abbrev pub value_fault : Float → ℕ
value_fault value = unless (finite value) value_not_finite

abbrev pub log_fault : ℕ → Float → Float → ℕ
log_fault n value log = unless (eq value Constants.zero || in_log_range n log) cost_range

abbrev pub entry_fault : ℕ → Float → Float → ℕ
entry_fault n value log = or_else (value_fault value) (log_fault n value log)

-- the same of place k
abbrev pub place_fault : ℕ → List Float → List Float → ℕ → ℕ
place_fault n values logs k = entry_fault n (get_or values k nan) (get_or logs k nan)

-- the first of all places, in stored order
unfoldable pub values_fault : ℕ → List Float → List Float → ℕ
values_fault n values logs = first_of (length values) (place_fault n values logs) 0

-- the first thing wrong, or 0; `lengths` says whether every slice has its length
unfoldable pub input_fault : Matrix → List Float → Bool → ℕ
input_fault m logs lengths =
    or_else (size_fault m.pattern.n max_symmetric (length m.pattern.row_idx) lengths)
    (or_else (symmetric_fault m) (values_fault m.pattern.n m.values logs))

-- the same of what is lent
abbrev pub cost_graph_fault : Matrix → List Float → Slices → ℕ
cost_graph_fault m logs s = input_fault m logs (lengths_fit m logs s)

-- what `build_cost_graph` does
unfoldable pub cost_graph : Matrix → List Float → Slices → Outcome (Result ℕ ℕ) Slices
cost_graph m logs s = outcome (cost_graph_fault m logs s) m.pattern.n (mirrored_columns m) logs s

-- ---- all that `build_cost_graph` promises, of the matrix, its logs, what was lent, its answer r and what is left
pub record Promises (m : Matrix) (logs : List Float) (before : Slices) (r : Result ℕ ℕ) (after : Slices)
    : Type 0 where
  -- the answer and every slice left are the definition's
  pub outcome : outcome_is r after ≡ cost_graph m logs before
  -- the number is that of the first fault, and an accepted call answers how many entries the graph has
  pub answered : AnswersBy (cost_graph_fault m logs before) (kept_before (mirrored_columns m) m.pattern.n) r
  -- the number is one of the call's list
  pub number : OneOf symmetric_graph_numbers (fault_of r)
