-- What the functions that grow a search's tree require and promise. What they require comes from the theory of the
-- match: its setting, and what holds of a tree.
use Rattle.std.specs.Prelude.{◌≡◌, Bool, false, not, ◌||◌, List, [], ◌∷◌, ◌++◌, ℕ, suc, ◌+◌, ◌-◌, ◌*◌, ◌≤◌, ◌<◌, ◌^◌, eqb, length, get_or, drop, Float}
use Rattle.std.specs.Float.{nan}
use Rattle.std.specs.Float.Ieee.{le}
use Rattle.limits.specs.Limits.{none, max_general}
use Rattle.float64.specs.Number.{Number, units_per_one}
use Rattle.index_heap.specs.IndexHeap.{row_at, pop}
use Rattle.index_heap.specs.inner.Invariant.{Inverse}
use Rattle.index_heap.specs.inner.Slices.{Keyed}
use Rattle.hungarian.specs.declared.HungarianStats.{HungarianStats}
use Rattle.sparse.specs.Pattern.{row_of, end, InColumn}
use Rattle.hungarian.specs.Graph.{CostGraph}
use Rattle.hungarian.specs.inner.Layout.{Workspace, region, iperm_at, jperm_at, heap_at}
use Rattle.hungarian.specs.Search.{Tree, extend, grow}
use Rattle.cost_limit.specs.Range.{cost_limit}
use Rattle.hungarian.specs.inner.Setting.{Setting}
use Rattle.hungarian.specs.inner.Bounds.{level}
use Rattle.hungarian.specs.inner.Between.{at, Matched, Bounded}
use Rattle.hungarian.specs.inner.SearchTree.{Scanning, GoodDistance, Grown, Scanned}
use Rattle.hungarian_path.specs.declared.Frontier.{Frontier}
use Rattle.hungarian_path.specs.inner.Views.{heap_in, tree_of, pairs_of, Flagged, Same, Kept, distance_by, scan_by}

-- ---- memory
-- the slices of a search that has popped and touched rows
pub record Sized (n : ℕ) (w pos : List ℕ) (keys : List Float) (frontier : Frontier) : Type 0 where
  pub size : length w ≡ 12 * n + 1
  pub places : length pos ≡ n
  pub key_count : length keys ≡ n
  pub touched : frontier.touched ≤ n
  pub popped : frontier.popped ≤ n

-- ---- a column is scanned
-- column j is the root's or that of a popped row, and its entries lead to finite distances. r and rank are the
-- theory's root and order of the scanned columns
pub record ScanReady (g : CostGraph) (u : List Float) (w pos : List ℕ) (keys d : List Float) (frontier : Frontier)
    (root : Bool) (v : Float) (j : ℕ) : Type 0 where
  pub setting : Setting Number units_per_one (cost_limit g.pattern.n) g
  pub duals : length u ≡ g.pattern.n
  pub sized : Sized g.pattern.n w pos keys frontier
  pub keyed : Keyed d frontier.len 0 (drop (heap_at * g.pattern.n) w) keys
  pub stats : HungarianStats
  pub flagged : Flagged g.pattern.n pos (tree_of g.pattern.n w pos d frontier stats).popped
  pub matched : Matched g (pairs_of g.pattern.n w)
  pub r : ℕ
  pub free : at (region jperm_at g.pattern.n w) r ≡ none
  pub rank : ℕ → ℕ
  pub grown : Grown Number units_per_one (cost_limit g.pattern.n) g (pairs_of g.pattern.n w) u r rank
      (tree_of g.pattern.n w pos d frontier stats)
  pub column : j < g.pattern.n
  pub scanned : Scanned (pairs_of g.pattern.n w) r (tree_of g.pattern.n w pos d frontier stats).popped j
  pub distance : (k : ℕ) → InColumn g.pattern j k
      → GoodDistance Number units_per_one (level (cost_limit g.pattern.n) (suc
      (length (tree_of g.pattern.n w pos d frontier stats).popped))) u
      (row_of g.pattern k)
      (distance_by root v g u k)

pub record Scans (g : CostGraph) (u : List Float) (w w' pos pos' : List ℕ) (keys' d d' : List Float)
    (frontier r : Frontier) (root : Bool) (v : Float) (j : ℕ) : Type 0 where
  pub tree : (stats : HungarianStats) → tree_of g.pattern.n w' pos' d' r stats
      ≡ scan_by root v g (region iperm_at g.pattern.n w) u j (tree_of g.pattern.n w pos d frontier stats)
  pub same : Same g.pattern.n w w' pos pos'
  pub counts : Kept g.pattern.n frontier r
  pub keyed : Keyed d' r.len 0 (drop (heap_at * g.pattern.n) w') keys'

-- ---- the nearest row is popped
-- the tree once its nearest row has left the heap
abbrev pub taken : Tree → Tree
taken t = record {
  d = t.d;
  heap = pop t.d t.heap;
  pr = t.pr;
  out = t.out;
  touched = t.touched;
  popped = t.popped ++ (row_at t.heap 1 ∷ []);
  csp = t.csp;
  isp = t.isp;
  jsp = t.jsp;
  peak = t.peak;
  stats = t.stats;
}

pub record PopReady (n : ℕ) (w pos : List ℕ) (keys : List Float) (frontier : Frontier) : Type 0 where
  pub workspace : Workspace n w
  pub places : length pos ≡ n
  pub key_count : length keys ≡ n
  pub heap : Inverse n (heap_in n w pos frontier.len)
  pub some : 1 ≤ frontier.len
  pub room : frontier.popped < n

pub record Pops (n : ℕ) (w w' pos pos' : List ℕ) (keys' d : List Float) (frontier r : Frontier) : Type 0 where
  pub tree : (stats : HungarianStats) → tree_of n w' pos' d r stats ≡ taken (tree_of n w pos d frontier stats)
  pub iperm : region iperm_at n w' ≡ region iperm_at n w
  pub jperm : region jperm_at n w' ≡ region jperm_at n w
  pub flagged : (popped : List ℕ) → Flagged n pos popped
      → Flagged n pos' (popped ++ (row_at (heap_in n w pos frontier.len) 1 ∷ []))
  pub popped : r.popped ≡ frontier.popped + 1
  pub touched : r.touched ≡ frontier.touched
  pub keyed : Keyed d r.len 0 (drop (heap_at * n) w') keys'

-- for all distances whose keys are beside the heap's places
abbrev pub PopsAll : (n : ℕ) (w w' pos pos' : List ℕ) (keys keys' : List Float) (frontier r : Frontier) → Type 0
PopsAll n w w' pos pos' keys keys' frontier r =
    (d : List Float) → Keyed d frontier.len 0 (drop (heap_at * n) w) keys → Pops n w w' pos pos' keys' d frontier r

-- ---- the tree grows
-- whether the search goes on: the heap has a row, and it is nearer than the best path
unfoldable pub has_nearer_row : ℕ → Float → Float → Bool
has_nearer_row len csp top = not (eqb len 0 || le csp top)

-- all columns that were reached are scanned. r, rank, offset, top and now are the theory's
pub record Growing (g : CostGraph) (u : List Float) (w pos : List ℕ) (keys d : List Float) (frontier : Frontier)
    (stats : HungarianStats) : Type 0 where
  pub setting : Setting Number units_per_one (cost_limit g.pattern.n) g
  pub sized : Sized g.pattern.n w pos keys frontier
  pub keyed : Keyed d frontier.len 0 (drop (heap_at * g.pattern.n) w) keys
  pub flagged : Flagged g.pattern.n pos (tree_of g.pattern.n w pos d frontier stats).popped
  pub matched : Matched g (pairs_of g.pattern.n w)
  pub bounded : Bounded Number (cost_limit g.pattern.n) g (pairs_of g.pattern.n w) u
  pub r : ℕ
  pub free : at (region jperm_at g.pattern.n w) r ≡ none
  pub rank : ℕ → ℕ
  pub offset : ℕ → ℕ
  pub top : ℕ
  pub last : ℕ
  pub scanning : Scanning Number units_per_one (cost_limit g.pattern.n) g
      (pairs_of g.pattern.n w) u r rank offset top last
      (end g.pattern last)
      (tree_of g.pattern.n w pos d frontier stats)
  -- enough counting room for the columns that are left
  pub counts : stats.main_loop_edge_scans + max_general * (g.pattern.n - frontier.popped) < 2 ^ 62

-- and the search goes on
pub record Extensible (g : CostGraph) (u : List Float) (w pos : List ℕ) (keys d : List Float) (frontier : Frontier)
    (stats : HungarianStats) : Type 0 where
  pub growing : Growing g u w pos keys d frontier stats
  pub some : 0 < frontier.len
  pub nearer : le frontier.csp (get_or keys 0 nan) ≡ false

pub record Extends (g : CostGraph) (u : List Float) (w w' pos pos' : List ℕ) (keys' d d' : List Float)
    (frontier r : Frontier)
    (stats s : HungarianStats) : Type 0 where
  pub tree : tree_of g.pattern.n w' pos' d' r s ≡ extend g (pairs_of g.pattern.n w) u
      (tree_of g.pattern.n w pos d frontier stats)
  pub iperm : region iperm_at g.pattern.n w' ≡ region iperm_at g.pattern.n w
  pub jperm : region jperm_at g.pattern.n w' ≡ region jperm_at g.pattern.n w
  pub flagged : Flagged g.pattern.n pos' (tree_of g.pattern.n w' pos' d' r s).popped
  pub popped : r.popped ≡ frontier.popped + 1
  pub touched : r.touched ≤ g.pattern.n
  pub counts : s.main_loop_edge_scans ≤ stats.main_loop_edge_scans + max_general
  pub keyed : Keyed d' r.len 0 (drop (heap_at * g.pattern.n) w') keys'

pub record Grows (g : CostGraph) (u : List Float) (w w' pos pos' : List ℕ) (d d' : List Float) (frontier r : Frontier)
    (stats s : HungarianStats) : Type 0 where
  pub tree : tree_of g.pattern.n w' pos' d' r s ≡ grow g (pairs_of g.pattern.n w) u g.pattern.n
      (tree_of g.pattern.n w pos d frontier stats)
  pub iperm : region iperm_at g.pattern.n w' ≡ region iperm_at g.pattern.n w
  pub jperm : region jperm_at g.pattern.n w' ≡ region jperm_at g.pattern.n w
  pub flagged : Flagged g.pattern.n pos' (tree_of g.pattern.n w' pos' d' r s).popped
  pub size : length w' ≡ 12 * g.pattern.n + 1
  pub touched : r.touched ≤ g.pattern.n
  pub popped : r.popped ≤ g.pattern.n
