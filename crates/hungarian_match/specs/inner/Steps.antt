-- What the parts of the call require and leave.
use Rattle.std.specs.Prelude.{◌≡◌, List, ℕ, ◌+◌, ◌*◌, Float, length, replicate}
use Rattle.hungarian.specs.Graph.{CostGraph}
use Rattle.hungarian.specs.inner.Layout.{region, iperm_at, jperm_at}
use Rattle.hungarian.specs.declared.Counts.{Counts}
use Rattle.float64.specs.Constants.{zero as fzero}
use Rattle.hungarian.specs.Accepted.{Accepted}
use Rattle.hungarian.specs.Match.{hungarian_match}
use Rattle.hungarian_match.specs.inner.Last.{last_pairs, last_duals, last_counts}
use Rattle.hungarian_match.specs.Call.{Slices}

-- the pairs, the row duals and the counts are the last ones
pub record PairedUp (g : CostGraph) (u : List Float) (w : List ℕ) (m : Counts) : Type 0 where
  pub iperm : region iperm_at g.pattern.n w ≡ (last_pairs g).iperm
  pub jperm : region jperm_at g.pattern.n w ≡ (last_pairs g).jperm
  pub duals : u ≡ last_duals g
  pub matched : m.matched ≡ (last_pairs g).num
  pub stats : m.stats ≡ last_counts g

-- an accepted graph, and slices of their lengths
pub record Solvable (g : CostGraph) (s : Slices) : Type 0 where
  pub accepted : Accepted g
  pub perms : length s.perm ≡ g.pattern.n
  pub row_duals : length s.u ≡ g.pattern.n
  pub column_duals : length s.v ≡ g.pattern.n
  pub words : length s.work ≡ 12 * g.pattern.n + 1
  pub values : length s.fwork ≡ 2 * g.pattern.n

-- the match of the graph is left, and its counts are answered; the work is zero
pub record Solved (g : CostGraph) (before after : Slices) (m : Counts) : Type 0 where
  pub perm : after.perm ≡ (hungarian_match g).perm
  pub u : after.u ≡ (hungarian_match g).u
  pub v : after.v ≡ (hungarian_match g).v
  pub matched : m.matched ≡ (hungarian_match g).matched
  pub stats : m.stats ≡ (hungarian_match g).stats
  pub work : after.work ≡ replicate (length before.work) 0
  pub fwork : after.fwork ≡ replicate (length before.fwork) fzero
