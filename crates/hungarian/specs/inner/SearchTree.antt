-- What holds of the tree of a search: its arrays, the rows that it touched and popped, the column and entry by which
-- each was reached, finite distances; and, where sums are exact, that these are shortest.
use Rattle.std.specs.Prelude.{◌≡◌, ◌⊎◌, ◌≢◌, true, List, [], ◌∷◌, ℕ, suc, ◌+◌, ◌≤◌, ◌<◌, T, length, Float}
use Rattle.std.specs.Float.Ieee.{lt}
use Rattle.limits.specs.Limits.{none}
use Rattle.float64.specs.Number.{origin}
use Rattle.float64.specs.inner.Keys.{position}
use Rattle.float64.specs.Constants.{rinf}
use Rattle.index_heap.specs.inner.Invariant.{Inverse, Within, HeapOrder}
use Rattle.sparse.specs.Pattern.{row_of, InColumn}
use Rattle.hungarian.specs.Graph.{CostGraph, cost_of}
use Rattle.hungarian.specs.Init.{Pairs}
use Rattle.hungarian.specs.Search.{Tree, among}
use Rattle.hungarian.specs.inner.Bounds.{level, Small, Distance}
use Rattle.hungarian.specs.inner.Between.{at, dual, Tight}

-- ---- lists of rows
abbrev pub Among : ℕ → List ℕ → Type 0
Among i l = T (among i l)

-- no row twice
abbrev pub Distinct : List ℕ → Type 0
Distinct [] = Unit {0}
Distinct (q ∷ l) = (Among q l → ⊥) × Distinct l

-- ---- any accepted costs
-- column j is the root, or the column of a popped row
abbrev pub Scanned : Pairs → ℕ → List ℕ → ℕ → Type 0
Scanned s r popped j = (j ≡ r) ⊎ ((q : ℕ) × Among q popped × (at s.iperm q ≡ j))

-- x is a distance of row i: some t of at most b units minus its dual
pub record GoodDistance (Good : Float → Type 0) (err b : ℕ) (u : List Float) (i : ℕ) (x : Float) : Type 0 where
  pub start : Float
  pub small : Small Good b start
  pub distance : Distance Good err start (dual u i) x

-- how the matched row i was reached: by the entry `out` of the scanned column `pr`, both of its own column
pub record Reached (Good : Float → Type 0) (err C : ℕ) (g : CostGraph) (s : Pairs) (u : List Float) (r : ℕ)
    (popped pr out : List ℕ) (d : List Float) (i : ℕ) : Type 0 where
  pub row : i < g.pattern.n
  pub matched : at s.iperm i ≢ none
  pub from : Scanned s r popped (at pr (at s.iperm i))
  pub entry : InColumn g.pattern (at pr (at s.iperm i)) (at out (at s.iperm i))
  pub to : row_of g.pattern (at out (at s.iperm i)) ≡ i
  pub distance : GoodDistance Good err (level C (suc (length popped))) u i (dual d i)

-- the best path so far: the entry isp of the scanned column jsp leads to a free row
pub record PathEnd (Good : Float → Type 0) (err C : ℕ) (g : CostGraph) (s : Pairs) (u : List Float) (r : ℕ)
    (popped : List ℕ) (csp : Float) (isp jsp : ℕ) : Type 0 where
  pub from : Scanned s r popped jsp
  pub entry : InColumn g.pattern jsp isp
  pub ends : at s.iperm (row_of g.pattern isp) ≡ none
  pub distance : GoodDistance Good err (level C (suc (length popped))) u (row_of g.pattern isp) csp

-- The tree from root r. rank orders the scanned columns: each but the root was reached from one of a lower rank.
pub record Grown (Good : Float → Type 0) (err C : ℕ) (g : CostGraph) (s : Pairs) (u : List Float) (r : ℕ)
    (rank : ℕ → ℕ) (t : Tree) : Type 0 where
  pub d_count : length t.d ≡ g.pattern.n
  pub pr_count : length t.pr ≡ g.pattern.n
  pub out_count : length t.out ≡ g.pattern.n
  pub heap : Inverse g.pattern.n t.heap
  pub reached : (i : ℕ) → Among i t.touched → Reached Good err C g s u r t.popped t.pr t.out t.d i
  pub touched_once : Distinct t.touched
  pub popped_once : Distinct t.popped
  pub popped_touched : (i : ℕ) → Among i t.popped → Among i t.touched
  pub heap_touched : (i : ℕ) → Within t.heap i → Among i t.touched
  pub heap_open : (i : ℕ) → Within t.heap i → Among i t.popped → ⊥
  pub touched_in : (i : ℕ) → Among i t.touched → Among i t.popped ⊎ Within t.heap i
  pub far : (i : ℕ) → i < g.pattern.n → (Among i t.touched → ⊥) → dual t.d i ≡ rinf
  pub peak_most : t.peak ≤ g.pattern.n
  pub root_alone : at t.pr r ≡ none
  pub rank_root : rank r ≡ 0
  pub rank_lower : (q : ℕ) → Among q t.popped → rank (at t.pr (at s.iperm q)) < rank (at s.iperm q)
  pub rank_most : (q : ℕ) → Among q t.popped → rank (at s.iperm q) ≤ length t.popped
  pub best : (t.csp ≡ rinf) ⊎ PathEnd Good err C g s u r t.popped t.csp t.isp t.jsp

-- a path was found, or the row of entry k was touched
abbrev pub Covered : CostGraph → Tree → ℕ → Type 0
Covered g t k = (lt t.csp rinf ≡ true) ⊎ Among (row_of g.pattern k) t.touched

-- ---- where sums are exact
-- the position of row i's distance and dual, and of entry k's cost
abbrev pub far_of : Tree → ℕ → ℕ
far_of t i = position (dual t.d i)

abbrev pub dual_of_lem : List Float → ℕ → ℕ
dual_of_lem u i = position (dual u i)

abbrev pub cost_of_lem : CostGraph → ℕ → ℕ
cost_of_lem g k = position (cost_of g k)

-- no way through entry k of a column at the offset v is shorter than what is known
pub record Near (g : CostGraph) (s : Pairs) (u : List Float) (t : Tree) (v k : ℕ) : Type 0 where
  pub free : at s.iperm (row_of g.pattern k) ≡ none → position t.csp + dual_of_lem u (row_of g.pattern k) ≤ v
      + cost_of_lem g k
  pub matched : at s.iperm (row_of g.pattern k) ≢ none
      → (far_of t (row_of g.pattern k) + dual_of_lem u (row_of g.pattern k) ≤ v + cost_of_lem g k)
      ⊎ (position t.csp + dual_of_lem u (row_of g.pattern k) ≤ v + cost_of_lem g k)

-- offsets v of the scanned columns; all popped distances are at most `top`, all others and the best path's cost at
-- least
pub record Order (g : CostGraph) (s : Pairs) (u : List Float) (r : ℕ) (t : Tree) (v : ℕ → ℕ) (top : ℕ) : Type 0 where
  pub root_offset : v r ≡ origin
  pub offset : (q : ℕ) → Among q t.popped
      → v (at s.iperm q) + cost_of_lem g (at s.jperm (at s.iperm q)) ≡ far_of t q + dual_of_lem u q
  pub exact : (i : ℕ) → Among i t.touched
      → far_of t i + dual_of_lem u i ≡ v (at t.pr (at s.iperm i)) + cost_of_lem g (at t.out (at s.iperm i))
  pub popped_near : (q : ℕ) → Among q t.popped → far_of t q ≤ top
  pub heap_far : (i : ℕ) → Within t.heap i → top ≤ far_of t i
  pub path_far : top ≤ position t.csp
  pub path_exact : (t.csp ≡ rinf) ⊎ (position t.csp + dual_of_lem u (row_of g.pattern t.isp) ≡ v t.jsp
      + cost_of_lem g t.isp)
  pub heap_order : HeapOrder t.d t.heap

-- sums are exact, and the duals tight: what the order of a search needs
abbrev pub Exact : ℕ → CostGraph → Pairs → List Float → Type 0
Exact err g s u = (err ≡ 0) × Tight g s u

-- ---- while a column is scanned
-- entry k of a scanned column was examined: all of them, but of column `now` only those before `upto`
abbrev pub Examined : CostGraph → Pairs → ℕ → Tree → ℕ → ℕ → ℕ → ℕ → Type 0
Examined g s r t now upto j k = Scanned s r t.popped j × InColumn g.pattern j k × (j ≡ now → k < upto)

-- The tree while column `now` is scanned, up to the entry `upto`. The offsets v and `top` are of use where sums are
-- exact.
pub record Scanning (Good : Float → Type 0) (err C : ℕ) (g : CostGraph) (s : Pairs) (u : List Float) (r : ℕ)
    (rank v : ℕ → ℕ) (top now upto : ℕ) (t : Tree) : Type 0 where
  pub grown : Grown Good err C g s u r rank t
  pub covered : (j k : ℕ) → Examined g s r t now upto j k → Covered g t k
  pub order : Exact err g s u → Order g s u r t v top
  pub near : Exact err g s u → (j k : ℕ) → Examined g s r t now upto j k → Near g s u t (v j) k
