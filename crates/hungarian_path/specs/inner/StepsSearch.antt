-- What the search from a free column requires and promises: the state between searches, and the tree found from it.
use Rattle.std.specs.Prelude.{◌≡◌, Option, Some, None, List, [], ℕ, ◌+◌, ◌*◌, ◌≤◌, ◌<◌, length, Float}
use Rattle.limits.specs.Limits.{none}
use Rattle.float64.specs.Number.{Number, units_per_one}
use Rattle.hungarian.specs.declared.HungarianStats.{HungarianStats}
use Rattle.hungarian.specs.Graph.{CostGraph}
use Rattle.hungarian.specs.inner.Layout.{region, iperm_at, jperm_at, pr_at, out_at}
use Rattle.hungarian.specs.Search.{Tree, Found, path, no_path, found}
use Rattle.hungarian.specs.Match.{Running, tree_from}
use Rattle.cost_limit.specs.Range.{cost_limit}
use Rattle.hungarian.specs.inner.Setting.{Setting}
use Rattle.hungarian.specs.inner.Between.{at}
use Rattle.hungarian.specs.inner.Runs.{Runs}
use Rattle.hungarian_path.specs.declared.Path.{Path}
use Rattle.hungarian_path.specs.declared.Ending.{Ending}
use Rattle.hungarian_path.specs.inner.Views.{heap_in, tree_of, pairs_of, Flagged}

-- what memory holds between searches
abbrev pub running_of : ℕ → List Float → (w pos : List ℕ) → List Float → HungarianStats → Running
running_of n u w pos d stats = record {
  pairs = pairs_of n w;
  u = u;
  d = d;
  heap = heap_in n w pos 0;
  pr = region pr_at n w;
  out = region out_at n w;
  stats = stats;
}

-- column j's turn, and it is free
pub record SearchReady (g : CostGraph) (u : List Float) (w pos : List ℕ) (keys d : List Float)
    (stats : HungarianStats) (j : ℕ) : Type 0 where
  pub setting : Setting Number units_per_one (cost_limit g.pattern.n) g
  pub size : length w ≡ 12 * g.pattern.n + 1
  pub places : length pos ≡ g.pattern.n
  pub key_count : length keys ≡ g.pattern.n
  pub flagged : Flagged g.pattern.n pos []
  pub inner : ℕ
  pub runs : Runs Number units_per_one (cost_limit g.pattern.n) g inner j (running_of g.pattern.n u w pos d stats)
  pub below : j < g.pattern.n
  pub free : at (region jperm_at g.pattern.n w) j ≡ none

-- ---- the search's answer
-- what each case of the code's answer stands for
abbrev pub found_of : Option Path → Found
found_of (Some p) = path p.cost p.entry p.column
found_of None = no_path

-- the tree that memory holds at the end, where t's are the best path and the heap's length, which memory does not hold
abbrev pub left_of : ℕ → (w pos : List ℕ) → List Float → Ending → Tree → Tree
left_of n w pos d r t =
    tree_of n w pos d
    (record {
      csp = t.csp;
      isp = t.isp;
      jsp = t.jsp;
      len = t.heap.len;
      touched = r.touched;
      popped = r.popped;
      peak = r.peak;
    })
    r.stats

pub record Finds (g : CostGraph) (u : List Float) (w w' pos pos' : List ℕ) (d d' : List Float) (j : ℕ)
    (stats : HungarianStats) (r : Ending) : Type 0 where
  pub answer : found_of r.end ≡ found (tree_from g j (running_of g.pattern.n u w pos d stats))
  pub tree : left_of g.pattern.n w' pos' d' r (tree_from g j (running_of g.pattern.n u w pos d stats))
      ≡ tree_from g j (running_of g.pattern.n u w pos d stats)
  pub iperm : region iperm_at g.pattern.n w' ≡ region iperm_at g.pattern.n w
  pub jperm : region jperm_at g.pattern.n w' ≡ region jperm_at g.pattern.n w
  pub flagged : Flagged g.pattern.n pos' (tree_from g j (running_of g.pattern.n u w pos d stats)).popped
  pub size : length w' ≡ 12 * g.pattern.n + 1
  pub touched : r.touched ≤ g.pattern.n
  pub popped : r.popped ≤ g.pattern.n
