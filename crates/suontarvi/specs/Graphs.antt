-- SPECIFICATION 6: What the calls of cost graphs from whole-number logarithms promise over the C interface.
use Rattle.std.specs.Prelude.{List, ℕ, Result}
use Rattle.slices.specs.Outcome.{Outcome}
use Rattle.mc64_columns.specs.Graphs.{Slices}
use Rattle.whole_graphs.specs.Graphs.{LeavesWhole}
use Rattle.suontarvi.specs.Numbered.{Promises}

-- `suontarvi_whole_symmetric_graph` and `suontarvi_whole_general_graph`, of n columns, by the call's list of numbers
-- and by what the building does
pub record WholeGraphPromises (numbers : List ℕ) (n : ℕ) (does : Outcome (Result ℕ ℕ) Slices) (r : ℕ) (after : Slices)
    : Type 0 where
  -- the number and every slice left are the building's, and the number is one of the list
  pub graph : Promises numbers does r after
  -- the match accepts the graph of an accepted call, and is optimal
  pub optimal : LeavesWhole r n after
