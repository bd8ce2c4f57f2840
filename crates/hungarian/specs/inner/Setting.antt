-- What a search assumes of a graph: what the graph test shows of an accepted one, over any arithmetic of doubles with a
-- small error, and any cost limit C with n · C at most 2 ^ 48 + n.
use Rattle.std.specs.Prelude.{◌≡◌, ℕ, suc, ◌+◌, ◌*◌, ◌^◌, ◌≤◌, ◌<◌, length, Float}
use Rattle.limits.specs.Limits.{max_columns, max_general}
use Rattle.float64.specs.Number.{units_per_one, origin}
use Rattle.float64.specs.inner.Keys.{position}
use Rattle.float64.specs.inner.Arithmetic.{Arithmetic, whole_limit}
use Rattle.float64.specs.Constants.{zero as fzero}
use Rattle.sparse.specs.Columns.{Columns}
use Rattle.sparse.specs.Pattern.{entries}
use Rattle.hungarian.specs.Graph.{CostGraph, cost_of}

pub record Setting (Good : Float → Type 0) (err C : ℕ) (g : CostGraph) : Type 0 where
  pub laws : Arithmetic Good (whole_limit * units_per_one) err
  pub fine : err ≤ units_per_one
  pub zero_good : Good fzero
  pub columns : Columns g.pattern.n g.pattern.col_ptr g.pattern.row_idx
  pub pointer_count : length g.pattern.col_ptr ≡ suc g.pattern.n
  pub cost_count : length g.cost ≡ entries g.pattern
  pub few_columns : g.pattern.n ≤ max_columns
  pub few_entries : entries g.pattern ≤ max_general
  pub product : g.pattern.n * C ≤ 2 ^ 48 + g.pattern.n
  pub good : (k : ℕ) → k < entries g.pattern → Good (cost_of g k)
  pub low : (k : ℕ) → k < entries g.pattern → origin ≤ position (cost_of g k)
  pub high : (k : ℕ) → k < entries g.pattern → position (cost_of g k) < origin + C * units_per_one
