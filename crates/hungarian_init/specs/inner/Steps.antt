-- The state of phase 3 as the slices hold it, and what each function leaves: the definition's step of the states that
-- its slices hold.
use Rattle.std.specs.Prelude.{◌≡◌, List, ℕ, ◌+◌, ◌*◌, ◌≤◌, length, take, replicate, Float}
use Rattle.float64.specs.Constants.{zero as fzero}
use Rattle.hungarian.specs.declared.HungarianStats.{HungarianStats}
use Rattle.hungarian.specs.declared.Counts.{Counts}
use Rattle.hungarian.specs.Graph.{CostGraph, graph_of}
use Rattle.hungarian.specs.Accepted.{Accepted}
use Rattle.hungarian.specs.Counts.{no_counts}
use Rattle.hungarian.specs.Init.{Improving, phase1, phase2, phase3}
use Rattle.hungarian.specs.Match.{empty_rows_zeroed, initial}
use Rattle.hungarian.specs.inner.Layout.{region, iperm_at, jperm_at, from_at, value_at}
use Rattle.hungarian_claim.specs.inner.Memory.{pairs_counted, Sound, Columned}

-- the state of phase 3
abbrev pub improving_of : ℕ → List ℕ → List Float → ℕ → HungarianStats → Improving
improving_of n w fw num stats = record {
  pairs = pairs_counted n w num;
  least = region value_at n fw;
  from = region from_at n w;
  stats = stats;
}

-- phase 3 may begin
pub record Prepared (n : ℕ) (col_ptr w w' : List ℕ) (fw' : List Float) : Type 0 where
  pub pairs : (num : ℕ) → pairs_counted n w' num ≡ pairs_counted n w num
  pub from : region from_at n w' ≡ take n col_ptr
  pub least : region value_at n fw' ≡ replicate n fzero

-- where phase 3 starts, and where it ends
abbrev pub claims : CostGraph → Improving
claims g = record {
  pairs = phase2 g (phase1 g);
  least = replicate g.pattern.n fzero;
  from = take g.pattern.n g.pattern.col_ptr;
  stats = no_counts;
}

abbrev pub improved : CostGraph → Improving
improved g = phase3 g (phase1 g).u (phase2 g (phase1 g)) no_counts

pub record Improvable (g : CostGraph) (u : List Float) (w : List ℕ) (fw : List Float) (num : ℕ)
    (stats : HungarianStats) : Type 0 where
  pub sound : Sound g
  pub words : length w ≡ 12 * g.pattern.n + 1
  pub values : length fw ≡ 2 * g.pattern.n
  pub dual_count : length u ≡ g.pattern.n
  pub duals : u ≡ (phase1 g).u
  pub columned : Columned g.pattern.n (region iperm_at g.pattern.n w)
  pub few : num ≤ g.pattern.n
  pub state : improving_of g.pattern.n w fw num stats ≡ claims g

-- ---- the whole start
pub record Startable (n : ℕ) (col_ptr rows : List ℕ) (cost u : List Float) (w : List ℕ) (fw : List Float) : Type 0 where
  pub accepted : Accepted (graph_of n col_ptr rows cost)
  pub duals : length u ≡ n
  pub words : length w ≡ 12 * n + 1
  pub values : length fw ≡ 2 * n

pub record Begun (g : CostGraph) (u : List Float) (w : List ℕ) (r : Counts) : Type 0 where
  pub iperm : region iperm_at g.pattern.n w ≡ (initial g).pairs.iperm
  pub jperm : region jperm_at g.pattern.n w ≡ (initial g).pairs.jperm
  pub duals : u ≡ empty_rows_zeroed (phase1 g).u
  pub num : r.matched ≡ (initial g).pairs.num
  pub stats : r.stats ≡ (initial g).stats
