-- SPECIFICATION 5.8 and 5.9: One shortest-path search from a free column, and what is done with its answer.
use Rattle.std.specs.Prelude.{◌≡◌, List, [], ◌∷◌, ◌++◌, Bool, false, cond, ◌||◌, ℕ, zero, suc, ◌+◌, ◌-◌, ◌≤◌, ◌<◌, eqb, get_or, set, Float}
use Rattle.std.specs.Float.{nan, binary64}
use Rattle.std.specs.Float.Ieee.{add, sub, lt, le, eq}
use Rattle.limits.specs.Limits.{none}
use Rattle.float64.specs.Constants.{rinf}
use Rattle.index_heap.specs.IndexHeap.{Heap, row_at, place_of, update, insert, pop}
use Rattle.hungarian.specs.declared.HungarianStats.{HungarianStats}
use Rattle.hungarian.specs.Loop.{each, steps}
use Rattle.sparse.specs.Pattern.{row_of, start, end}
use Rattle.hungarian.specs.Graph.{CostGraph, cost_of}
use Rattle.hungarian.specs.Counts.{column_scanned, larger}
use Rattle.hungarian.specs.Init.{Pairs, free, reduced}

-- What a search works on. d has the distance of each row, rinf while untouched; `touched` the rows reached, `popped`
-- those whose distance is final, in order.
-- pr and out have, for the column of a reached row, the column and the entry that reached it. csp, isp and jsp are the
-- cost, the last entry and that entry's column of the best path so far; peak is the largest size of the heap so far.
pub record Tree : Type 0 where
  pub d : List Float
  pub heap : Heap
  pub pr : List ℕ
  pub out : List ℕ
  pub touched : List ℕ
  pub popped : List ℕ
  pub csp : Float
  pub isp : ℕ
  pub jsp : ℕ
  pub peak : ℕ
  pub stats : HungarianStats

-- row i is among the rows
unfoldable pub among : ℕ → List ℕ → Bool
among i [] = false
among i (q ∷ qs) = eqb q i || among i qs

-- entry k of column j ends a path to a free row
unfoldable pub reach : Float → ℕ → ℕ → Tree → Tree
reach x j k t = record {
  d = t.d;
  heap = t.heap;
  pr = t.pr;
  out = t.out;
  touched = t.touched;
  popped = t.popped;
  csp = x;
  isp = k;
  jsp = j;
  peak = t.peak;
  stats = t.stats;
}

-- the matched row of entry k is reached at the lower distance x, from column j
unfoldable pub relax : CostGraph → List ℕ → Float → ℕ → ℕ → Tree → Tree
unfolding update insert larger
relax g iperm x j k t =
    let i = row_of g.pattern k in
    let jj = get_or iperm i 0 in
    let d = set t.d i x in
    let moved = cond (eqb (place_of t.heap i) 0) (insert d i t.heap) (update d i t.heap) in
    let touched = cond (eq (get_or t.d i nan) rinf) (t.touched ++ (i ∷ [])) t.touched in
    record {
      d = d;
      heap = moved;
      pr = set t.pr jj j;
      out = set t.out jj k;
      touched = touched;
      popped = t.popped;
      csp = t.csp;
      isp = t.isp;
      jsp = t.jsp;
      peak = cond (eqb (place_of t.heap i) 0) (larger t.peak (t.heap.len + 1)) t.peak;
      stats = t.stats;
    }

-- entry k of column j, whose row is at distance x
unfoldable pub edge : CostGraph → List ℕ → Float → ℕ → ℕ → Tree → Tree
unfolding among reach relax
edge g iperm x j k t =
    let i = row_of g.pattern k in
    let reached = reach x j k t in
    let relaxed = relax g iperm x j k t in
    cond (among i t.popped || le t.csp x) t
    (cond (free iperm i) reached (cond (lt x (get_or t.d i nan)) relaxed t))

-- the entries of the root are at distance cost minus u
unfoldable pub scan_root : CostGraph → Pairs → List Float → ℕ → Tree → Tree
unfolding edge steps
scan_root g s u j t = each (start g.pattern j) (end g.pattern j) (λ k. edge g s.iperm (reduced g u k) j k) t

-- a column reached at the offset v: its entries are at distance v plus cost minus u
unfoldable pub scan : CostGraph → Pairs → List Float → Float → ℕ → Tree → Tree
unfolding edge steps
scan g s u v j t =
    each (start g.pattern j) (end g.pattern j)
    (λ k. edge g s.iperm (sub binary64 (add binary64 v (cost_of g k)) (get_or u (row_of g.pattern k) nan)) j k) t

-- the nearest row q leaves the heap, and its column is scanned
unfoldable pub extend : CostGraph → Pairs → List Float → Tree → Tree
unfolding pop scan column_scanned
extend g s u t =
    let q = row_at t.heap 1 in
    let j = get_or s.iperm q 0 in
    let v = add binary64 (sub binary64 (get_or t.d q nan) (cost_of g (get_or s.jperm j 0))) (get_or u q nan) in
    scan g s u v j
    (record {
      d = t.d;
      heap = pop t.d t.heap;
      pr = t.pr;
      out = t.out;
      touched = t.touched;
      popped = t.popped ++ (q ∷ []);
      csp = t.csp;
      isp = t.isp;
      jsp = t.jsp;
      peak = t.peak;
      stats =
          column_scanned (end g.pattern j - start g.pattern j) t.stats;
    })

-- until the heap is empty or no row is nearer than the best path; each iteration pops another row, so n are enough
unfoldable pub grow : CostGraph → Pairs → List Float → ℕ → Tree → Tree
unfolding extend
grow g s u zero t = t
grow g s u (suc m) t =
    let rest = grow g s u m (extend g s u t) in
    cond (eqb t.heap.len 0 || le t.csp (get_or t.d (row_at t.heap 1) nan)) t rest

-- what a search ends with: a path, its cost, its last entry and that entry's column, or no path
pub data Found : Type 0 where
  path : Float → ℕ → ℕ → Found
  no_path : Found

abbrev pub found : Tree → Found
found t = cond (lt t.csp rinf) (path t.csp t.isp t.jsp) no_path

-- ---- flipping the pairs along the path
-- from column j back to the root: the entry `out` goes to the column before it
unfoldable pub walk : CostGraph → Tree → ℕ → ℕ → Pairs → Pairs
walk g t zero j s = s
walk g t (suc m) j s =
    let before = get_or t.pr j 0 in
    let k = get_or t.out j 0 in
    let rest =
    walk g t m before
    (record { iperm = set s.iperm (row_of g.pattern k) before; jperm = set s.jperm before k; num = s.num }) in
    cond (eqb before none) s rest

unfoldable pub flip : CostGraph → Tree → ℕ → ℕ → Pairs → Pairs
unfolding walk
flip g t k j s =
    walk g t (s.num + 1) j
    (record { iperm = set s.iperm (row_of g.pattern k) j; jperm = set s.jperm j k; num = s.num + 1 })

-- u of each popped row gains d minus the path's cost
unfoldable pub raise : List Float → Float → List ℕ → List Float → List Float
raise d c [] u = u
raise d c (i ∷ is) u = raise d c is (set u i (add binary64 (get_or u i nan) (sub binary64 (get_or d i nan) c)))

-- distances and heap places of the touched rows are reset
unfoldable pub restore : {A : Type 0} → A → List ℕ → List A → List A
restore x [] l = l
restore x (i ∷ is) l = restore x is (set l i x)

-- an alternating path leads from column j to a free row: by an entry of j to a free row, or to a matched one and on
-- from its column
pub data Leads (g : CostGraph) (iperm : List ℕ) : ℕ → Type 0 where
  arrives : {j : ℕ} (k : ℕ) → start g.pattern j ≤ k → k < end g.pattern j
      → get_or iperm (row_of g.pattern k) 0 ≡ none → Leads g iperm j
  goes : {j : ℕ} (k : ℕ) → start g.pattern j ≤ k → k < end g.pattern j
      → Leads g iperm (get_or iperm (row_of g.pattern k) 0) → Leads g iperm j
