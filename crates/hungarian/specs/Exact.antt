-- SPECIFICATION 5.12: "With whole costs every sum in the search is exact": each sum and difference of doubles that a
-- search makes is whole, and is that of the whole numbers. The doubles are those of Search.antt, in its order of
-- operations, on the tree that the search ends with; `edge` passes over a popped row, so the row keeps the distance at
-- which it was popped.
use Rattle.std.specs.Prelude.{◌≡◌, true, cond, List, ℕ, ◌≤◌, ◌<◌, T, eqb, get_or, ℤ, pos, ◌+ℤ◌, ◌-ℤ◌, Float}
use Rattle.std.specs.Float.{nan, binary64}
use Rattle.std.specs.Float.Ieee.{add, sub, lt}
use Rattle.float64.specs.Number.{whole_of, IsWhole}
use Rattle.float64.specs.Constants.{rinf}
use Rattle.sparse.specs.Pattern.{row_of, start, end}
use Rattle.hungarian.specs.Graph.{CostGraph, cost_of}
use Rattle.hungarian.specs.Init.{Pairs}
use Rattle.hungarian.specs.Search.{Tree, among, raise}

-- x + y and x - y, rounded, are whole and equal the exact results
pub record ExactSum (x y : Float) : Type 0 where
  pub whole : IsWhole (add binary64 x y)
  pub value : whole_of (add binary64 x y) ≡ whole_of x +ℤ whole_of y

pub record ExactDifference (x y : Float) : Type 0 where
  pub whole : IsWhole (sub binary64 x y)
  pub value : whole_of (sub binary64 x y) ≡ whole_of x -ℤ whole_of y

-- u of row i
abbrev pub dual_of : List Float → ℕ → Float
dual_of u i = get_or u i nan

-- the distance of row i
abbrev pub distance_of : Tree → ℕ → Float
distance_of t i = get_or t.d i nan

-- the column of row q, and the cost of the entry that it holds
abbrev pub column_for : Pairs → ℕ → ℕ
column_for s q = get_or s.iperm q 0

abbrev pub held_cost : CostGraph → Pairs → ℕ → Float
held_cost g s q = cost_of g (get_or s.jperm (column_for s q) 0)

-- the offset at which the column of the popped row q is scanned
abbrev pub offset_by : CostGraph → Pairs → List Float → Tree → ℕ → Float
offset_by g s u t q = add binary64 (sub binary64 (distance_of t q) (held_cost g s q)) (dual_of u q)

-- the offset of a scanned column as a number: 0 for the root, else that of the row that the column holds
abbrev pub offset_of : CostGraph → Pairs → List Float → ℕ → Tree → ℕ → ℤ
offset_of g s u r t j = cond (eqb j r) (pos 0) (whole_of (offset_by g s u t (row_of g.pattern (get_or s.jperm j 0))))

-- entry k is in the column of row q
abbrev pub Holds : CostGraph → Pairs → ℕ → ℕ → Type 0
Holds g s q k = (start g.pattern (column_for s q) ≤ k) × (k < end g.pattern (column_for s q))

-- the column of the popped row q: its offset (d - c) + u, and (offset + c) - u by each of its entries
pub record ExactColumn (g : CostGraph) (s : Pairs) (u : List Float) (t : Tree) (q : ℕ) : Type 0 where
  pub less_cost : ExactDifference (distance_of t q) (held_cost g s q)
  pub offset : ExactSum (sub binary64 (distance_of t q) (held_cost g s q)) (dual_of u q)
  pub plus_cost : (k : ℕ) → Holds g s q k → ExactSum (offset_by g s u t q) (cost_of g k)
  pub distance : (k : ℕ) → Holds g s q k
      → ExactDifference (add binary64 (offset_by g s u t q) (cost_of g k)) (dual_of u (row_of g.pattern k))

-- x is the distance by entry k of the scanned column j: the offset plus c minus u
pub record ExactDistance (g : CostGraph) (s : Pairs) (u : List Float) (r : ℕ) (t : Tree) (j k : ℕ) (x : Float)
    : Type 0 where
  pub whole : IsWhole x
  pub value : whole_of x ≡ (offset_of g s u r t j +ℤ whole_of (cost_of g k)) -ℤ whole_of (dual_of u (row_of g.pattern k))

-- the dual of the popped row q after a path: u + (d - csp)
pub record ExactDual (u : List Float) (t : Tree) (q : ℕ) : Type 0 where
  pub less_path : ExactDifference (distance_of t q) t.csp
  pub raised : ExactSum (dual_of u q) (sub binary64 (distance_of t q) t.csp)
  pub after : dual_of (raise t.d t.csp t.popped u) q
      ≡ add binary64 (dual_of u q) (sub binary64 (distance_of t q) t.csp)

-- the column and the entry by which row i was reached
abbrev pub parent_of : Pairs → Tree → ℕ → ℕ
parent_of s t i = get_or t.pr (column_for s i) 0

abbrev pub entry_of : Pairs → Tree → ℕ → ℕ
entry_of s t i = get_or t.out (column_for s i) 0

-- the search from column r, with the pairs s and the row duals u, that ends with the tree t
pub record ExactSearch (g : CostGraph) (s : Pairs) (u : List Float) (r : ℕ) (t : Tree) : Type 0 where
  -- c - u by each entry of the root
  pub root : (k : ℕ) → start g.pattern r ≤ k → k < end g.pattern r
      → ExactDifference (cost_of g k) (dual_of u (row_of g.pattern k))
  pub columns : (q : ℕ) → T (among q t.popped) → ExactColumn g s u t q
  -- a touched row by the column and entry that reached it, and the path by its last entry
  pub touched : (i : ℕ) → T (among i t.touched)
      → ExactDistance g s u r t (parent_of s t i) (entry_of s t i) (distance_of t i)
  pub path : lt t.csp rinf ≡ true → ExactDistance g s u r t t.jsp t.isp t.csp
  pub duals : lt t.csp rinf ≡ true → (q : ℕ) → T (among q t.popped) → ExactDual u t q
