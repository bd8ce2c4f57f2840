-- What memory holds of a search, as the definition's states: the tree and the pairs are views of the work slice, the
-- places of rows, the distances and the frontier.
use Rattle.std.specs.Prelude.{◌≡◌, Bool, cond, List, map, ℕ, ◌*◌, ◌≤◌, ◌<◌, eqb, get_or, take, drop, Float}
use Rattle.std.specs.Float.{nan, binary64}
use Rattle.std.specs.Float.Ieee.{add, sub}
use Rattle.limits.specs.Limits.{none}
use Rattle.matching.specs.Pairing.{matched_count}
use Rattle.index_heap.specs.IndexHeap.{Heap}
use Rattle.index_heap.specs.inner.Slices.{heap_of}
use Rattle.hungarian.specs.declared.HungarianStats.{HungarianStats}
use Rattle.hungarian.specs.inner.Layout.{region, iperm_at, jperm_at, pr_at, out_at, touched_at, popped_at, heap_at}
use Rattle.hungarian.specs.Loop.{each}
use Rattle.sparse.specs.Pattern.{row_of, start, end}
use Rattle.hungarian.specs.Graph.{CostGraph, cost_of}
use Rattle.hungarian.specs.Init.{Pairs}
use Rattle.hungarian.specs.Search.{Tree, among, edge}
use Rattle.hungarian_path.specs.declared.Frontier.{Frontier}

-- a place as the heap has it: a popped row's is `none` in memory, and it has no place
unfoldable pub unmarked : ℕ → ℕ
unmarked p = cond (eqb p none) 0 p

-- the heap: its rows end the work slice, and pos has their places
unfoldable pub heap_in : (n : ℕ) (w pos : List ℕ) (len : ℕ) → Heap
heap_in n w pos len = heap_of (drop (heap_at * n) w) (map unmarked pos) len

unfoldable pub tree_of : ℕ → (w pos : List ℕ) → List Float → Frontier → HungarianStats → Tree
unfolding heap_in region
tree_of n w pos d frontier stats = record {
  d = d;
  heap = heap_in n w pos frontier.len;
  pr = region pr_at n w;
  out = region out_at n w;
  touched = take frontier.touched (region touched_at n w);
  popped = take frontier.popped (region popped_at n w);
  csp = frontier.csp;
  isp = frontier.isp;
  jsp = frontier.jsp;
  peak = frontier.peak;
  stats = stats;
}

-- exactly the popped rows are marked
abbrev pub Flagged : ℕ → (pos popped : List ℕ) → Type 0
Flagged n pos popped = (i : ℕ) → i < n → eqb (get_or pos i 0) none ≡ among i popped

-- the pairs and the marks stay
pub record Same (n : ℕ) (w w' pos pos' : List ℕ) : Type 0 where
  pub iperm : region iperm_at n w' ≡ region iperm_at n w
  pub jperm : region jperm_at n w' ≡ region jperm_at n w
  pub marks : (i : ℕ) → i < n → eqb (get_or pos' i 0) none ≡ eqb (get_or pos i 0) none

-- no row is popped, and there is room for the touched ones
pub record Kept (n : ℕ) (frontier r : Frontier) : Type 0 where
  pub popped : r.popped ≡ frontier.popped
  pub touched : frontier.touched ≤ n → r.touched ≤ n

-- the pairs; a matching's count is known from its columns
abbrev pub pairs_of : ℕ → List ℕ → Pairs
pairs_of n w = record {
  iperm = region iperm_at n w;
  jperm = region jperm_at n w;
  num = matched_count none n (λ j. get_or (region jperm_at n w) j 0);
}

-- the distance of the row of entry k: cost minus u, plus the offset v of the column unless it is the root
unfoldable pub entry_distance : Bool → Float → Float → Float → Float
entry_distance root v c u = cond root (sub binary64 c u) (sub binary64 (add binary64 v c) u)

abbrev pub distance_by : Bool → Float → CostGraph → List Float → ℕ → Float
distance_by root v g u k = entry_distance root v (cost_of g k) (get_or u (row_of g.pattern k) nan)

-- the entries of column j are examined
abbrev pub scan_by : Bool → Float → CostGraph → List ℕ → List Float → ℕ → Tree → Tree
scan_by root v g iperm u j t = each (start g.pattern j) (end g.pattern j)
    (λ k. edge g iperm (distance_by root v g u k) j k) t
