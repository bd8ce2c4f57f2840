-- What the functions of a column's turn require and promise: what an answer does, the state from column to column, all
-- searches.
use Rattle.std.specs.Prelude.{◌≡◌, List, [], ℕ, ◌+◌, ◌*◌, ◌≤◌, ◌<◌, ◌^◌, length, get_or, take, drop, Float}
use Rattle.float64.specs.Number.{Number, units_per_one}
use Rattle.hungarian.specs.declared.HungarianStats.{HungarianStats}
use Rattle.hungarian.specs.declared.Counts.{Counts}
use Rattle.hungarian.specs.Graph.{CostGraph}
use Rattle.hungarian.specs.Accepted.{Accepted}
use Rattle.hungarian.specs.Init.{phase1}
use Rattle.hungarian.specs.inner.Layout.{region, iperm_at, jperm_at, pr_at, out_at, popped_at}
use Rattle.hungarian.specs.Search.{Tree, Found, path}
use Rattle.hungarian.specs.Match.{tree_from, pairs_after, duals_after, settle, empty_rows_zeroed, initial, searched, state_at}
use Rattle.cost_limit.specs.Range.{cost_limit}
use Rattle.hungarian.specs.inner.Setting.{Setting}
use Rattle.hungarian_path.specs.inner.Views.{pairs_of, Flagged}
use Rattle.hungarian_path.specs.inner.StepsSearch.{running_of}
use Rattle.hungarian_path.specs.inner.StepsFlip.{pairs_at, WalkReady}

-- ---- a search's answer
pub record ApplyReady (n : ℕ) (rows : List ℕ) (u : List Float) (w : List ℕ) (d : List Float) (end : Found)
    (popped num : ℕ) : Type 0 where
  pub size : length w ≡ 12 * n + 1
  pub room : popped ≤ n
  pub few : num < 2 ^ 32
  pub rows_in : (p : ℕ) → p < popped
      → (get_or w (popped_at * n + p) 0 < length u) × (get_or w (popped_at * n + p) 0 < length d)
  pub way : (c : Float) (k j : ℕ) → end ≡ path c k j → WalkReady n rows w j × (k < length rows)

pub record Applies (n : ℕ) (rows : List ℕ) (u u' : List Float) (w w' : List ℕ) (d : List Float) (end : Found)
    (popped num r : ℕ) : Type 0 where
  pub pairs : (g : CostGraph) (t : Tree) → g.pattern.row_idx ≡ rows → t.pr ≡ region pr_at n w
      → t.out ≡ region out_at n w
      → pairs_at n w' r ≡ pairs_after g t end (pairs_at n w num)
  pub duals : (t : Tree) → t.d ≡ d → t.popped ≡ take popped (region popped_at n w) → u' ≡ duals_after t end u
  pub rest : drop (2 * n) w' ≡ drop (2 * n) w

-- ---- a column's turn
pub record Augments (g : CostGraph) (u u' : List Float) (w w' pos pos' : List ℕ) (d d' : List Float) (j : ℕ)
    (stats : HungarianStats) (r : Counts) : Type 0 where
  pub state : running_of g.pattern.n u' w' pos' d' r.stats
      ≡ settle g (tree_from g j (running_of g.pattern.n u w pos d stats)) (running_of g.pattern.n u w pos d stats)
  pub number : r.matched ≡ (pairs_of g.pattern.n w').num
  pub flagged : Flagged g.pattern.n pos' []

-- the state in which column j has its turn is in memory
pub record Standing (g : CostGraph) (u : List Float) (w pos : List ℕ) (keys d : List Float) (r : Counts)
    (j : ℕ) : Type 0 where
  pub setting : Setting Number units_per_one (cost_limit g.pattern.n) g
  pub size : length w ≡ 12 * g.pattern.n + 1
  pub places : length pos ≡ g.pattern.n
  pub key_count : length keys ≡ g.pattern.n
  pub state : running_of g.pattern.n u w pos d r.stats ≡ state_at g j
  pub number : r.matched ≡ (pairs_of g.pattern.n w).num
  pub flagged : Flagged g.pattern.n pos []

-- ---- all searches
-- phases 1 to 3 are in memory
pub record Started (g : CostGraph) (u : List Float) (w : List ℕ) (num : ℕ) (stats : HungarianStats) : Type 0 where
  pub accepted : Accepted g
  pub size : length w ≡ 12 * g.pattern.n + 1
  pub iperm : region iperm_at g.pattern.n w ≡ (initial g).pairs.iperm
  pub jperm : region jperm_at g.pattern.n w ≡ (initial g).pairs.jperm
  pub duals : u ≡ empty_rows_zeroed (phase1 g).u
  pub number : num ≡ (initial g).pairs.num
  pub counts : stats ≡ (initial g).stats

pub record Searched (g : CostGraph) (u : List Float) (w : List ℕ) (r : Counts) : Type 0 where
  pub iperm : region iperm_at g.pattern.n w ≡ (searched g (empty_rows_zeroed (phase1 g).u) (initial g)).pairs.iperm
  pub jperm : region jperm_at g.pattern.n w ≡ (searched g (empty_rows_zeroed (phase1 g).u) (initial g)).pairs.jperm
  pub duals : u ≡ (searched g (empty_rows_zeroed (phase1 g).u) (initial g)).u
  pub number : r.matched ≡ (searched g (empty_rows_zeroed (phase1 g).u) (initial g)).pairs.num
  pub counts : r.stats ≡ (searched g (empty_rows_zeroed (phase1 g).u) (initial g)).stats
