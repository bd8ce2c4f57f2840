-- SPECIFICATION 6.2: What `build_general_graph` answers and leaves: 1, 2, 3, then what `general::validate` answers,
-- then 8 in stored order; a refusal changes nothing.
use Rattle.std.specs.Prelude.{◌≡◌, Bool, not, ◌||◌, List, ℕ, Float, length, get_or, Result}
use Rattle.std.specs.Float.{nan}
use Rattle.limits.specs.Limits.{max_general}
use Rattle.refusal.specs.Refusal.{cost_range}
use Rattle.refusal.specs.Number.{fault_of}
use Rattle.refusal.specs.Listed.{OneOf, graph_numbers}
use Rattle.slices.specs.Outcome.{Outcome, outcome_is}
use Rattle.sparse.specs.Fault.{unless, or_else, first_of}
use Rattle.sparse.specs.Validate.{size_fault, general_fault}
use Rattle.cost_limit.specs.Range.{in_log_range}
use Rattle.sparse.specs.Matrix.{Matrix}
use Rattle.mc64_columns.specs.Graphs.{Slices, slices_fit, outcome}
use Rattle.mc64_columns.specs.Graphs.{kept_before, AnswersBy}
use Rattle.mc64_general.specs.Graph.{is_kept, kept_columns}

-- ---- refusals
-- 3: whether every slice has its length for n columns
abbrev pub lengths_fit : Matrix → List Float → Slices → Bool
lengths_fit m logs s = slices_fit (length m.pattern.row_idx) m logs s

-- a value is dropped, whatever its log, or its log is in range for n columns
abbrev pub log_fits : ℕ → Float → Float → Bool
log_fits n value log = not (is_kept value) || in_log_range n log

-- 8 of place k
abbrev pub log_fault : ℕ → List Float → List Float → ℕ → ℕ
log_fault n values logs k = unless (log_fits n (get_or values k nan) (get_or logs k nan)) cost_range

-- the first of all places, in stored order
unfoldable pub logs_fault : ℕ → List Float → List Float → ℕ
logs_fault n values logs = first_of (length values) (log_fault n values logs) 0

-- the first thing wrong, or 0; `lengths` says whether every slice has its length
unfoldable pub input_fault : Matrix → List Float → Bool → ℕ
input_fault m logs lengths =
    or_else (size_fault m.pattern.n max_general (length m.pattern.row_idx) lengths)
    (or_else (general_fault m) (logs_fault m.pattern.n m.values logs))

-- the same of what is lent
abbrev pub general_graph_fault : Matrix → List Float → Slices → ℕ
general_graph_fault m logs s = input_fault m logs (lengths_fit m logs s)

-- what `build_general_graph` does
unfoldable pub general_graph : Matrix → List Float → Slices → Outcome (Result ℕ ℕ) Slices
general_graph m logs s = outcome (general_graph_fault m logs s) m.pattern.n (kept_columns m) logs s

-- ---- all that `build_general_graph` promises, of the matrix, its logs, what was lent, its answer r and what is left
pub record Promises (m : Matrix) (logs : List Float) (before : Slices) (r : Result ℕ ℕ) (after : Slices)
    : Type 0 where
  -- the answer and every slice left are the definition's
  pub outcome : outcome_is r after ≡ general_graph m logs before
  -- the number is that of the first fault, and an accepted call answers how many entries the graph has
  pub answered : AnswersBy (general_graph_fault m logs before) (kept_before (kept_columns m) m.pattern.n) r
  -- the number is one of the call's list
  pub number : OneOf graph_numbers (fault_of r)
