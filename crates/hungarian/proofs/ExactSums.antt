-- With whole costs every sum in a search is exact: each stays within 2 ^ 53 (Distances), so keys add up without error, and what is linear in keys is
-- linear in the numbers.
use mathlib.Core.Path.{◌≡◌, refl, sym, ap, ◌∙◌, subst}
use mathlib.Core.Logic.{inl, inr, ◌≢◌}
use mathlib.Core.Bool.{true}
use mathlib.Core.List.{List}
use Prim.Native.Nat.{ℕ, suc, ◌+◌, ◌*◌, ◌≤◌, ◌<◌}
use native.Mathlib.Nat.{add-mul, eq_of_mul-eq-mul_right}
use native.Mathlib.Omega.{arith}
use borrow.Author.Tests.{eq-eqb, ne_eqb}
use lib.ListN.{length}
use lib.IntN.{ℤ, pos, neg_ℤ, ◌+ℤ◌, ◌-ℤ◌}
use lib.Ieee.{Float, binary64, add, sub, lt}
use Rattle.limits.specs.Limits.{none}
use Rattle.float64.specs.Number.{whole_of, units_per_one, origin, IsWhole}
use Rattle.float64.specs.inner.Keys.{position}
use Rattle.float64.specs.inner.Arithmetic.{Apart, whole_limit}
use Rattle.float64.specs.Constants.{rinf}
use Rattle.float64.proofs.Scale.{units_pos}
use Rattle.float64.proofs.Integers.{plus, minus, same_integer, sum_parts, neg_parts}
use Rattle.float64.proofs.WholeNumbers.{whole_arithmetic}
use Rattle.hungarian.specs.declared.HungarianStats.{HungarianStats}
use Rattle.sparse.specs.Pattern.{row_of, InColumn}
use Rattle.hungarian.specs.Graph.{CostGraph, cost_of}
use Rattle.hungarian.specs.Init.{Pairs}
use Rattle.hungarian.specs.Search.{Tree}
use Rattle.hungarian.specs.Exact.{ExactSum, ExactDifference, ExactColumn, ExactDistance, ExactDual, ExactSearch, column_for, held_cost, offset_by}
use Rattle.hungarian.specs.inner.Setting.{Setting}
use Rattle.hungarian.specs.inner.Bounds.{level, Small, Cost, dual_bound}
use Rattle.hungarian.specs.inner.Between.{at, dual, Matched, Bounded, Tight}
use Rattle.hungarian.specs.inner.SearchTree.{Among, Order, dual_of_lem, cost_of_lem, Grown, PathEnd, Reached, Scanned}
use Rattle.hungarian.proofs.Bounds.{level_step, level_mono}
use Rattle.hungarian.proofs.Distances as Distances
use Rattle.hungarian.proofs.Distances.{Offset}
use Rattle.sparse.proofs.Columns.{in_entries, in_column_lem, row_below}
use Rattle.hungarian.proofs.Rows.{at_most_all}
use Rattle.hungarian.proofs.Tree as Tree
use Rattle.hungarian.proofs.TreeGrow.{Searched}
use Rattle.hungarian.proofs.TreeDuals.{finite_case, raise_at}
use Rattle.hungarian.proofs.Optimum.{number_key, numbers_equal}

-- ---- one sum
less_by : (a b c : ℤ) → a +ℤ b ≡ c → a ≡ c -ℤ b
less_by a b c e =
    let h = rw e at (sum_parts a b) in
    let n = neg_parts b in
    same_integer a (c -ℤ b) (omega (arith, h, sum_parts c (neg_ℤ b), n.0, n.1))

zero_plus : (z : ℤ) → pos 0 +ℤ z ≡ z
zero_plus z = same_integer (pos 0 +ℤ z) z (omega (arith, sum_parts (pos 0) z))

-- equal keys are equal numbers
same_number : (x y : Float) → IsWhole x → IsWhole y → position x ≡ position y → whole_of x ≡ whole_of y
same_number x y p q e =
    same_integer (whole_of x) (whole_of y)
    (eq_of_mul-eq-mul_right units_per_one units_pos (plus (whole_of x) + minus (whole_of y)) (plus (whole_of y) + minus (whole_of x))
    (rw (add-mul (plus (whole_of x)) (minus (whole_of y)) units_per_one, add-mul (plus (whole_of y)) (minus (whole_of x)) units_per_one)
    (omega (arith, number_key x p, number_key y q))))

module _ (x y : Float) (p : IsWhole x) (q : IsWhole y) where
  sum_exact : Apart (whole_limit * units_per_one) (position x + position y) (origin + origin) → ExactSum x y
  sum_exact a =
      let w = whole_arithmetic.plus x y p q a in
      let n = whole_arithmetic.plus_near x y p q a in
      record { whole = w; value = sym (numbers_equal x y (add binary64 x y) p q w (omega (arith, n.above, n.under))) }

  module _ (a : Apart (whole_limit * units_per_one) (position x) (position y)) where
    difference_key : position (sub binary64 x y) + position y ≡ position x + origin
    difference_key = let n = whole_arithmetic.minus_near x y p q a in omega (arith, n.above, n.under)

    difference_exact : ExactDifference x y
    difference_exact =
        let w = whole_arithmetic.minus x y p q a in
        record { whole = w; value = less_by (whole_of (sub binary64 x y)) (whole_of y) (whole_of x) (numbers_equal (sub binary64 x y) y x w q p difference_key) }

-- ---- a search
module _ {C : ℕ} {g : CostGraph} {s : Pairs} {u : List Float} {r : ℕ} {c : HungarianStats} (S : Setting IsWhole 0 C g) (M : Matched g s)
    (B : Bounded IsWhole C g s u) (D : Tight g s u) (root : at s.jperm r ≡ none) (below : r < g.pattern.n)
    (t : Tree) (W : Searched IsWhole 0 C g s u r c t) where
  G : Grown IsWhole 0 C g s u r W.rank t
  G = W.scanning.grown

  O : Order g s u r t W.offset W.top
  O = W.scanning.order (refl, D)

  some : 0 < g.pattern.n
  some = omega (arith, below)

  few : length t.popped ≤ g.pattern.n
  few = at_most_all g.pattern.n t.popped G.popped_once (λ i m. (G.reached i (G.popped_touched i m)).row)

  wide : {x : Float} → Small IsWhole (level C (suc (length t.popped))) x → Small IsWhole (level C (g.pattern.n + 1)) x
  wide w = let h = level_mono C (suc (length t.popped)) (g.pattern.n + 1) (omega (arith, few)) in
      record { good = w.good; size = record { above = omega (arith, w.size.above); under = omega (arith, w.size.under) } }

  cost : (j k : ℕ) → InColumn g.pattern j k → Cost IsWhole C (cost_of g k)
  cost j k i = let h = in_entries g.pattern S.columns j k i in record { good = S.good k h; low = S.low k h; high = omega (arith, S.high k h) }

  dual_small : (j k : ℕ) → InColumn g.pattern j k → Small IsWhole (dual_bound g.pattern.n C) (dual u (row_of g.pattern k))
  dual_small j k i = B.small (row_of g.pattern k) (row_below g.pattern S.columns j k i)

  root_room : (k : ℕ) → InColumn g.pattern r k → Apart (whole_limit * units_per_one) (position (cost_of g k)) (position (dual u (row_of g.pattern k)))
  root_room k i =
      let w = cost r k i in
      let l = level_step C 0 in
      let x : Small IsWhole (level C 1) (cost_of g k) =
      record { good = w.good; size = record { above = omega (arith, w.high); under = omega (arith, w.low) } } in
      Distances.distance_room S some 1 (cost_of g k) (dual u (row_of g.pattern k)) (omega arith) x (dual_small r k i)

  root_exact : (k : ℕ) → InColumn g.pattern r k → ExactDifference (cost_of g k) (dual u (row_of g.pattern k))
  root_exact k i = difference_exact (cost_of g k) (dual u (row_of g.pattern k)) (cost r k i).good (dual_small r k i).good (root_room k i)

  -- ---- the column of a popped row
  module _ (q : ℕ) (m : Among q t.popped) where
    abbrev j : ℕ
    j = column_for s q

    here : Reached IsWhole 0 C g s u r t.popped t.pr t.out t.d q
    here = G.reached q (G.popped_touched q m)

    column : j < g.pattern.n
    column = (M.paired.rows q here.row here.matched).range

    own : InColumn g.pattern j (at s.jperm j)
    own =
        let w = M.paired.columns j column (M.paired.rows q here.row here.matched).taken in
        subst (λ (i : ℕ). InColumn g.pattern i (at s.jperm j)) w.column (in_column_lem g.pattern S.columns (at s.jperm j) w.entry)

    abbrev v : Float
    v = offset_by g s u t q

    depth : suc (length t.popped) ≤ g.pattern.n + 1
    depth = omega (arith, few)

    lessened : ExactDifference (dual t.d q) (held_cost g s q)
    lessened = difference_exact (dual t.d q) (held_cost g s q) here.distance.distance.good (cost j (at s.jperm j) own).good
        (Distances.cost_room_lem S some (suc (length t.popped)) here.distance.start (dual u q) (dual t.d q) (held_cost g s q) depth
        here.distance.small (B.small q here.row) (cost j (at s.jperm j) own) here.distance.distance)

    offset_exact : ExactSum (sub binary64 (dual t.d q) (held_cost g s q)) (dual u q)
    offset_exact = sum_exact (sub binary64 (dual t.d q) (held_cost g s q)) (dual u q) lessened.whole (B.small q here.row).good
        (Distances.offset_room S some (suc (length t.popped)) here.distance.start (dual u q) (dual t.d q) (held_cost g s q) depth
        here.distance.small (B.small q here.row) (cost j (at s.jperm j) own) here.distance.distance)

    its_offset : Offset IsWhole 0 here.distance.start (held_cost g s q) v
    its_offset = Distances.offset S some (suc (length t.popped)) here.distance.start (dual u q) (dual t.d q) (held_cost g s q) depth
        here.distance.small (B.small q here.row) (cost j (at s.jperm j) own) here.distance.distance

    -- its place is what the search's order has for the column
    offset_key : position v ≡ W.offset j
    offset_key = let n = its_offset.near in let d = here.distance.distance.near in omega (arith, n.above, n.under, d.above, d.under, O.offset q m)

    module _ (k : ℕ) (i : InColumn g.pattern j k) where
      plus_exact : ExactSum v (cost_of g k)
      plus_exact = sum_exact v (cost_of g k) offset_exact.whole (cost j k i).good
          (Distances.next_room S some (suc (length t.popped)) here.distance.start (held_cost g s q) v (cost_of g k) depth here.distance.small
          (cost j (at s.jperm j) own) (cost j k i) its_offset)

      next : Small IsWhole (level C (suc (suc (length t.popped)))) (add binary64 v (cost_of g k))
          × Apart 0 (2 * (position (add binary64 v (cost_of g k)) + origin)) (2 * (position v + position (cost_of g k)))
      next = Distances.next S some (suc (length t.popped)) here.distance.start (held_cost g s q) v (cost_of g k) depth here.distance.small
          (cost j (at s.jperm j) own) (cost j k i) its_offset

      distance_room : Apart (whole_limit * units_per_one) (position (add binary64 v (cost_of g k))) (position (dual u (row_of g.pattern k)))
      distance_room = Distances.distance_room S some (suc (suc (length t.popped))) (add binary64 v (cost_of g k)) (dual u (row_of g.pattern k))
          (omega (arith, few)) next.0 (dual_small j k i)

      distance_exact : ExactDifference (add binary64 v (cost_of g k)) (dual u (row_of g.pattern k))
      distance_exact = difference_exact (add binary64 v (cost_of g k)) (dual u (row_of g.pattern k)) next.0.good (dual_small j k i).good distance_room

      distance_key : position (sub binary64 (add binary64 v (cost_of g k)) (dual u (row_of g.pattern k))) + dual_of_lem u (row_of g.pattern k) ≡ W.offset j
          + cost_of_lem g k
      distance_key =
          let n = next.1 in
          let d = difference_key (add binary64 v (cost_of g k)) (dual u (row_of g.pattern k)) next.0.good (dual_small j k i).good distance_room in
          omega (arith, n.above, n.under, offset_key)

    column_exact : ExactColumn g s u t q
    column_exact = record {
      less_cost = lessened;
      offset = offset_exact;
      plus_cost = λ k h. plus_exact k (record { column = column; above = h.0; below = h.1 });
      distance = λ k h. distance_exact k (record { column = column; above = h.0; below = h.1 });
    }

  -- ---- a distance, by its entry
  -- the same position as the sum over the entry of the root, or of a popped row's column
  by_entry : (j k : ℕ) (x : Float) → Scanned s r t.popped j → InColumn g.pattern j k → IsWhole x
      → position x + dual_of_lem u (row_of g.pattern k) ≡ W.offset j + cost_of_lem g k
      → ExactDistance g s u r t j k x
  by_entry j k x (inl e) i w h =
      record {
        whole = w;
        value =
            rw (eq-eqb j r e) (same ∙ a.value ∙ ap (λ (z : ℤ). z -ℤ whole_of (dual u (row_of g.pattern k))) (sym (zero_plus (whole_of (cost_of g k)))));
      }
    where
      i' : InColumn g.pattern r k
      i' = subst (λ (y : ℕ). InColumn g.pattern y k) e i

      a : ExactDifference (cost_of g k) (dual u (row_of g.pattern k))
      a = root_exact k i'

      same : whole_of x ≡ whole_of (sub binary64 (cost_of g k) (dual u (row_of g.pattern k)))
      same = same_number x (sub binary64 (cost_of g k) (dual u (row_of g.pattern k))) w a.whole
          (let d = difference_key (cost_of g k) (dual u (row_of g.pattern k)) (cost r k i').good (dual_small r k i').good (root_room k i') in
          omega (arith, O.root_offset, ap W.offset e))
  by_entry j k x (inr (q, m, e)) i w h =
      record {
        whole = w;
        value =
            rw (ne_eqb j r apart, row) (same ∙ a.value ∙ ap (λ (z : ℤ). z -ℤ whole_of (dual u (row_of g.pattern k))) (plus_exact q m k i').value);
      }
    where
      i' : InColumn g.pattern (column_for s q) k
      i' = subst (λ (y : ℕ). InColumn g.pattern y k) (sym e) i

      apart : j ≢ r
      apart f = Tree.not_root g s M r q root (here q m).row (here q m).matched (e ∙ f)

      row : row_of g.pattern (at s.jperm j) ≡ q
      row = ap (λ (y : ℕ). row_of g.pattern (at s.jperm y)) (sym e) ∙ (M.paired.rows q (here q m).row (here q m).matched).back

      a : ExactDifference (add binary64 (offset_by g s u t q) (cost_of g k)) (dual u (row_of g.pattern k))
      a = distance_exact q m k i'

      same : whole_of x ≡ whole_of (sub binary64 (add binary64 (offset_by g s u t q) (cost_of g k)) (dual u (row_of g.pattern k)))
      same = same_number x (sub binary64 (add binary64 (offset_by g s u t q) (cost_of g k)) (dual u (row_of g.pattern k))) w a.whole
          (omega (arith, distance_key q m k i', ap W.offset e))

  touched_exact : (i : ℕ) → Among i t.touched → ExactDistance g s u r t (at t.pr (column_for s i)) (at t.out (column_for s i)) (dual t.d i)
  touched_exact i m =
      let w = G.reached i m in
      by_entry (at t.pr (column_for s i)) (at t.out (column_for s i)) (dual t.d i) w.from w.entry w.distance.distance.good
      (rw w.to (O.exact i m))

  -- ---- with a path
  module _ (finite : lt t.csp rinf ≡ true) where
    P : PathEnd IsWhole 0 C g s u r t.popped t.csp t.isp t.jsp
    P = finite_case t.csp finite G.best

    path_exact_lem : ExactDistance g s u r t t.jsp t.isp t.csp
    path_exact_lem = by_entry t.jsp t.isp t.csp P.from P.entry P.distance.distance.good (finite_case t.csp finite O.path_exact)

    module _ (q : ℕ) (m : Among q t.popped) where
      free_dual : Cost IsWhole C (dual u (row_of g.pattern t.isp))
      free_dual = B.free (row_of g.pattern t.isp) (row_below g.pattern S.columns t.jsp t.isp P.entry) P.ends

      dual_exact : ExactDual u t q
      dual_exact =
          let w = here q m in
          let y = B.small q w.row in
          let f = free_dual in
          let p = P.distance in
          let room = Distances.gain_room S some w.distance.start (dual u q) (dual t.d q) p.start (dual u (row_of g.pattern t.isp)) t.csp
          (wide w.distance.small) y w.distance.distance (wide p.small) f p.distance in
          let gain = difference_exact (dual t.d q) t.csp w.distance.distance.good p.distance.good room in
          record {
            less_path = gain;
            raised = sum_exact (dual u q) (sub binary64 (dual t.d q) t.csp) y.good gain.whole
                (Distances.raised_room S some w.distance.start (dual u q) (dual t.d q) p.start (dual u (row_of g.pattern t.isp)) t.csp
                (wide w.distance.small) y w.distance.distance (wide p.small) f p.distance);
            after = raise_at t.d t.csp t.popped u q G.popped_once m (omega (arith, B.dual_count, w.row));
          }

  pub search_exact : ExactSearch g s u r t
  search_exact = record {
    root = λ k lo hi. root_exact k (record { column = below; above = lo; below = hi });
    columns = column_exact;
    touched = touched_exact;
    path = path_exact_lem;
    duals = dual_exact;
  }
