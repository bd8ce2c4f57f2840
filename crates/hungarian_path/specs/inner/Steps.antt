-- What the functions of a search require and promise.
use Rattle.std.specs.Prelude.{◌≡◌, ◌≢◌, cond, false, List, ℕ, ◌+◌, ◌*◌, ◌≤◌, ◌<◌, ◌^◌, eqb, length, get_or, set, take, drop, Float}
use Rattle.std.specs.Float.{nan}
use Rattle.std.specs.Float.Ieee.{eq}
use Rattle.limits.specs.Limits.{none}
use Rattle.float64.specs.inner.Keys.{Ordered, position}
use Rattle.float64.specs.Constants.{rinf}
use Rattle.index_heap.specs.inner.Invariant.{Inverse}
use Rattle.index_heap.specs.inner.Slices.{Keyed}
use Rattle.hungarian.specs.declared.HungarianStats.{HungarianStats}
use Rattle.hungarian.specs.Counts.{larger}
use Rattle.sparse.specs.Pattern.{row_of}
use Rattle.hungarian.specs.Graph.{CostGraph}
use Rattle.hungarian.specs.inner.Layout.{Workspace, region, iperm_at, touched_at, popped_at, heap_at}
use Rattle.hungarian.specs.Search.{among, relax, edge}
use Rattle.hungarian_path.specs.declared.Frontier.{Frontier}
use Rattle.hungarian_path.specs.inner.Views.{heap_in, tree_of, Same, Kept}

-- ---- a row is reached
-- row i may be reached: if it is new there is room for it
pub record TouchReady (n : ℕ) (w pos : List ℕ) (frontier : Frontier) (i : ℕ) : Type 0 where
  pub workspace : Workspace n w
  pub places : length pos ≡ n
  pub row : i < n
  pub heap : Inverse n (heap_in n w pos frontier.len)
  pub room : get_or pos i 0 ≡ 0 → frontier.touched < n

abbrev pub touch_words : ℕ → (w pos : List ℕ) → Frontier → ℕ → List ℕ
touch_words n w pos frontier i = cond (eqb (get_or pos i 0) 0) (set w (touched_at * n + frontier.touched) i) w

abbrev pub touch_places : (pos : List ℕ) → Frontier → ℕ → List ℕ
touch_places pos frontier i = cond (eqb (get_or pos i 0) 0) (set pos i (frontier.len + 1)) pos

abbrev pub touch_frontier : (pos : List ℕ) → Frontier → ℕ → Frontier
touch_frontier pos frontier i =
    cond (eqb (get_or pos i 0) 0)
    (record {
      csp = frontier.csp;
      isp = frontier.isp;
      jsp = frontier.jsp;
      len = frontier.len + 1;
      touched = frontier.touched + 1;
      popped = frontier.popped;
      peak = larger frontier.peak (frontier.len + 1);
    }) frontier

pub record Touches (n : ℕ) (w w' pos pos' : List ℕ) (frontier r : Frontier) (i : ℕ) : Type 0 where
  pub words : w' ≡ touch_words n w pos frontier i
  pub places : pos' ≡ touch_places pos frontier i
  pub answer : r ≡ touch_frontier pos frontier i

-- entry k of column j may reach row i, which is matched and not popped
pub record RelaxReady (n : ℕ) (w pos : List ℕ) (keys d : List Float) (frontier : Frontier) (i j k : ℕ) : Type 0 where
  pub touching : TouchReady n w pos frontier i
  pub d_count : length d ≡ n
  pub key_count : length keys ≡ n
  pub keyed : Keyed d frontier.len 0 (drop (heap_at * n) w) keys
  pub column : get_or w i 0 < n
  pub from : j < n
  pub entry : k < 2 ^ 32
  pub open' : get_or pos i 0 ≢ none
  pub first : eq (get_or d i nan) rinf ≡ eqb (get_or pos i 0) 0

pub record Relaxes (n : ℕ) (w w' pos pos' : List ℕ) (keys' d d' : List Float) (frontier r : Frontier) (i : ℕ)
    (x : Float) (j k : ℕ) : Type 0 where
  pub tree : (g : CostGraph) (stats : HungarianStats) → row_of g.pattern k ≡ i → tree_of n w' pos' d' r stats
      ≡ relax g (region iperm_at n w) x j k (tree_of n w pos d frontier stats)
  pub same : Same n w w' pos pos'
  pub counts : Kept n frontier r
  pub keyed : Keyed d' r.len 0 (drop (heap_at * n) w') keys'

-- ---- an entry is examined
-- entry k of column j leads to row i, at the distance x
pub record EdgeReady (n : ℕ) (w pos : List ℕ) (keys d : List Float) (frontier : Frontier) (i : ℕ) (x : Float)
    (j k : ℕ) : Type 0 where
  pub workspace : Workspace n w
  pub places : length pos ≡ n
  pub row : i < n
  pub d_count : length d ≡ n
  pub keyed : Keyed d frontier.len 0 (drop (heap_at * n) w) keys
  pub from : j < n
  pub entry : k < 2 ^ 32
  pub flagged : eqb (get_or pos i 0) none ≡ among i (take frontier.popped (region popped_at n w))
  -- numbers that compare, and csp is at most the distance of an untouched row
  pub distance : Ordered x
  pub held : Ordered (get_or d i nan)
  pub best : Ordered frontier.csp
  pub best_most : position frontier.csp ≤ position rinf
  -- a free row is untouched
  pub free : get_or w i 0 ≡ none → get_or d i nan ≡ rinf
  pub matched : get_or w i 0 ≢ none → among i (take frontier.popped (region popped_at n w)) ≡ false
      → RelaxReady n w pos keys d frontier i j k

pub record Passes (n : ℕ) (w w' pos pos' : List ℕ) (keys' d d' : List Float) (frontier r : Frontier) (i : ℕ) (x : Float)
    (j k : ℕ) : Type 0 where
  pub tree : (g : CostGraph) (stats : HungarianStats) → row_of g.pattern k ≡ i → tree_of n w' pos' d' r stats
      ≡ edge g (region iperm_at n w) x j k (tree_of n w pos d frontier stats)
  pub same : Same n w w' pos pos'
  pub counts : Kept n frontier r
  pub keyed : Keyed d' r.len 0 (drop (heap_at * n) w') keys'
