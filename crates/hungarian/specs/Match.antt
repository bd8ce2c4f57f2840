-- SPECIFICATION 5.7 to 5.10: The whole match: the start of phases 1 to 3, a search from each free column, the finished
-- duals.
use Rattle.std.specs.Prelude.{List, [], ◌∷◌, cond, ℕ, ◌+◌, ◌-◌, eqb, length, get_or, set, replicate, Float}
use Rattle.std.specs.Float.Ieee.{le}
use Rattle.limits.specs.Limits.{none}
use Rattle.float64.specs.Constants.{zero as fzero, rinf}
use Rattle.index_heap.specs.IndexHeap.{Heap}
use Rattle.hungarian.specs.declared.HungarianStats.{HungarianStats}
use Rattle.hungarian.specs.Loop.{each, steps}
use Rattle.sparse.specs.Pattern.{row_of, start, end}
use Rattle.hungarian.specs.Graph.{CostGraph}
use Rattle.hungarian.specs.Counts.{no_counts, heap_made, column_scanned, search_begun, search_ended}
use Rattle.hungarian.specs.Counts.{rows_popped, heap_seen}
use Rattle.hungarian.specs.Init.{Pairs, Improving, reduced, phase1, phase2, phase3}
use Rattle.hungarian.specs.Search.{Tree, Found, path, no_path, found, scan_root, grow, flip, raise, restore}

-- what is passed from search to search: the pairs and row duals, the arrays as the last search left them, the counts
pub record Running : Type 0 where
  pub pairs : Pairs
  pub u : List Float
  pub d : List Float
  pub heap : Heap
  pub pr : List ℕ
  pub out : List ℕ
  pub stats : HungarianStats

-- the tree of a search from column j
unfoldable pub tree_from : CostGraph → ℕ → Running → Tree
unfolding grow scan_root search_begun column_scanned
tree_from g j s =
    grow g s.pairs s.u g.pattern.n (scan_root g s.pairs s.u j (record {
      d = s.d;
      heap = s.heap;
      pr = set s.pr j none;
      out = s.out;
      touched = [];
      popped = [];
      csp = rinf;
      isp = none;
      jsp = none;
      peak = 0;
      stats = column_scanned (end g.pattern j - start g.pattern j) (search_begun s.stats);
    }))

-- with a path the pairs are flipped along it and the duals of popped rows are raised; without one both stay
unfoldable pub pairs_after : CostGraph → Tree → Found → Pairs → Pairs
unfolding flip
pairs_after g t (path c k j) s = flip g t k j s
pairs_after g t no_path s = s

unfoldable pub duals_after : Tree → Found → List Float → List Float
unfolding raise
duals_after t (path c k j) u = raise t.d c t.popped u
duals_after t no_path u = u

-- the arrays are made ready for the next search
unfoldable pub settle : CostGraph → Tree → Running → Running
unfolding pairs_after duals_after restore search_ended rows_popped heap_seen
settle g t s = record {
  pairs = pairs_after g t (found t) s.pairs;
  u = duals_after t (found t) s.u;
  d = restore rinf t.touched t.d;
  heap = record { heap = t.heap.heap; pos = restore 0 t.touched t.heap.pos; len = 0 };
  pr = t.pr;
  out = t.out;
  stats = heap_seen t.peak (rows_popped (length t.popped) (search_ended (length t.touched) t.stats));
}

-- a free column is the root of one search
unfoldable pub augment : CostGraph → ℕ → Running → Running
unfolding settle tree_from
augment g j s =
    let done = settle g (tree_from g j s) s in
    cond (eqb (get_or s.pairs.jperm j 0) none) done s

-- ---- before the searches: rows without entries get u = 0
unfoldable pub empty_rows_zeroed : List Float → List Float
empty_rows_zeroed [] = []
empty_rows_zeroed (x ∷ xs) = cond (le rinf x) fzero x ∷ empty_rows_zeroed xs

-- phases 1 to 3; phase 3 only while a column is free
unfoldable pub initial : CostGraph → Improving
unfolding phase1 phase2 phase3
initial g =
    let minima = phase1 g in
    let claimed = phase2 g minima in
    let improved = phase3 g minima.u claimed no_counts in
    cond (eqb claimed.num g.pattern.n)
    (record { pairs = claimed; least = []; from = []; stats = no_counts }) improved

-- the columns below r have had their turn
unfoldable pub run_to : CostGraph → List Float → Improving → ℕ → Running
unfolding augment heap_made steps
run_to g u s r = each 0 r (augment g) (record {
  pairs = s.pairs;
  u = u;
  d = replicate g.pattern.n rinf;
  heap = record { heap = replicate (g.pattern.n + 1) 0; pos = replicate g.pattern.n 0; len = 0 };
  pr = replicate g.pattern.n none;
  out = replicate g.pattern.n none;
  stats = heap_made g.pattern.n s.stats;
})

unfoldable pub searched : CostGraph → List Float → Improving → Running
unfolding run_to
searched g u s = run_to g u s g.pattern.n

-- ---- the finished match
pub record Matching : Type 0 where
  pub perm : List ℕ
  pub u : List Float
  pub v : List Float
  pub matched : ℕ
  pub stats : HungarianStats

-- the row of column j's entry, and v of column j: the matched cost minus u, or 0
unfoldable pub perm_of : CostGraph → List ℕ → List ℕ
perm_of g [] = []
perm_of g (k ∷ ks) = cond (eqb k none) none (row_of g.pattern k) ∷ perm_of g ks

unfoldable pub column_duals : CostGraph → List Float → List ℕ → List Float
column_duals g u [] = []
column_duals g u (k ∷ ks) = cond (eqb k none) fzero (reduced g u k) ∷ column_duals g u ks

-- a free row's u becomes 0
unfoldable pub row_duals : List ℕ → List Float → List Float
row_duals [] u = u
row_duals (j ∷ js) [] = []
row_duals (j ∷ js) (x ∷ u) = cond (eqb j none) fzero x ∷ row_duals js u

unfoldable pub finish : CostGraph → Pairs → List Float → HungarianStats → Matching
unfolding perm_of column_duals row_duals
finish g s u c = record {
  perm = perm_of g s.jperm;
  u = row_duals s.iperm u;
  v = column_duals g u s.jperm;
  matched = s.num;
  stats = c;
}

unfoldable pub hungarian_match : CostGraph → Matching
unfolding initial searched finish empty_rows_zeroed phase1
hungarian_match g =
    let s = initial g in
    let u = empty_rows_zeroed (phase1 g).u in
    let r = searched g u s in
    let early = finish g s.pairs u s.stats in
    let late = finish g r.pairs r.u r.stats in
    cond (eqb s.pairs.num g.pattern.n) early late

-- the state in which column r has its turn
abbrev pub state_at : CostGraph → ℕ → Running
state_at g r = run_to g (empty_rows_zeroed (phase1 g).u) (initial g) r
