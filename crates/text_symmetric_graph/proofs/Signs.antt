-- Signs make no difference: whole values, of either sign, have the graph of their sizes (`signs_free`). A stored value is 0.0 plus one value, which is
-- exact, so that
-- it has the size that the weight's has; a value's size decides whether it is a zero, and its logarithm. Zeros of either sign are dropped.
use mathlib.Core.Path.{◌≡◌, refl, sym, ap, ap₂, fun_ext, ◌∙◌}
use mathlib.Core.Bool.{Bool, true, false, not}
use mathlib.Core.List.{List, ◌++◌}
use Prim.Native.Nat.{ℕ, zero, suc, ◌+◌, ◌-◌, ◌*◌, ◌^◌, ◌≤◌, ◌<◌}
use native.Mathlib.Nat.{le_refl, zero-mul}
use native.Mathlib.Omega.{arith}
use lib.Dec.{eqb}
use lib.IntN.{ℤ, pos, negsuc, nat_abs}
use lib.Ieee.{Float, nan, inf, fin, binary64, of_int, add, neg, eq}
use lib.ListN.{length, get_or, length-map}
use lib.Seq.{ext_get_or}
use Rattle.float64.specs.Number.{Number, Whole, negative, magnitude, origin, units_per_one}
use Rattle.float64.specs.inner.Keys.{place, position}
use Rattle.float64.specs.Constants as Constants
use Rattle.float64.proofs.Constants.{zero_whole}
use Rattle.float64.proofs.Integers.{plus, minus}
use Rattle.float64.proofs.Scale.{mag_lt}
use Rattle.float64.proofs.Order.{eq_key}
use Rattle.float64.proofs.Sums.{number_neg}
use Rattle.float64.proofs.Bits.{same_double}
use Rattle.float64.proofs.WholeNumbers.{number_whole, whole_key, ordered}
use Rattle.cost_limit.proofs.Range.{natural_whole}
use Rattle.slices.specs.Lists.{keep}
use Rattle.slices.proofs.Bools.{same_eqb}
use Rattle.whole_log.specs.Log.{whole_log, double_of}
use Rattle.triplets.specs.Built.{triplets, rows_before}
use Rattle.sparse.specs.Matrix.{matrix}
use Rattle.hungarian.specs.Graph.{CostGraph, graph_of}
use Rattle.mc64_columns.specs.Columns.{value_logs, largest}
use Rattle.mc64_columns.specs.Graphs.{GraphColumns, graph_pointers, graph_rows, graph_costs}
use Rattle.mc64_columns.proofs.Whole.{value_log_at}
use Rattle.mc64_symmetric.specs.Graph.{touches, places_to, places_of, other_end}
use Rattle.text_graph.specs.Graph.{cost_values}
use Rattle.text_graph.proofs.GraphCosts.{map_at, values_length, values_hold}
use Rattle.text_matrix_market.specs.File.{repeats}
use Rattle.text_symmetric_graph.specs.Graph.{SymmetricEntries, Signed, triplet_matrix, mirrored_graph, triplet_graph, symmetric_graph}
use Rattle.text_symmetric_graph.proofs.Whole.{zero_plus}

-- ---- sizes
-- two places on the line for z and for its size
same_size : (s t : Bool) (a b : ℕ) (z : ℤ) → a < origin → b < origin → place s a + minus z * units_per_one ≡ origin + plus z * units_per_one
    → place t b + minus (pos (nat_abs z)) * units_per_one ≡ origin + plus (pos (nat_abs z)) * units_per_one → a ≡ b
unfolding place
same_size true true a b (pos n) h l p q = omega (arith, zero-mul units_per_one)
same_size true true a b (negsuc n) h l p q = omega (arith, zero-mul units_per_one)
same_size true false a b (pos n) h l p q = omega (arith, zero-mul units_per_one)
same_size true false a b (negsuc n) h l p q = omega (arith, zero-mul units_per_one)
same_size false true a b (pos n) h l p q = omega (arith, zero-mul units_per_one)
same_size false true a b (negsuc n) h l p q = omega (arith, zero-mul units_per_one)
same_size false false a b (pos n) h l p q = omega (arith, zero-mul units_per_one)
same_size false false a b (negsuc n) h l p q = omega (arith, zero-mul units_per_one)

whole_size : (x y : Float) (z : ℤ) → Whole x z → Whole y (pos (nat_abs z)) → magnitude x ≡ magnitude y
unfolding position
whole_size x y z p q =
    same_size (negative x) (negative y) (magnitude x) (magnitude y) z (mag_lt x (number_whole x z p)) (mag_lt y (number_whole y (pos (nat_abs z)) q))
    (whole_key x z p) (whole_key y (pos (nat_abs z)) q)

-- ---- zeros
mid_alike : (s t : Bool) (a : ℕ) → a < origin → eqb (place s a) origin ≡ eqb (place t a) origin
unfolding place
mid_alike true true a h = refl
mid_alike true false a h = same_eqb (origin - a) origin (origin + a) origin (λ e. omega arith) (λ e. omega arith)
mid_alike false true a h = same_eqb (origin + a) origin (origin - a) origin (λ e. omega arith) (λ e. omega arith)
mid_alike false false a h = refl

zero_key : position Constants.zero ≡ origin
zero_key = omega (arith, whole_key Constants.zero (pos 0) zero_whole, zero-mul units_per_one)

is_zero_lem : (x : Float) → Number x → eq x Constants.zero ≡ eqb (place (negative x) (magnitude x)) origin
unfolding position
is_zero_lem x n = eq_key x Constants.zero (ordered x n) (ordered Constants.zero (number_whole Constants.zero (pos 0) zero_whole))
    ∙ ap (eqb (place (negative x) (magnitude x))) zero_key

-- ---- logarithms
neg_log : (y : Float) → whole_log (neg y) ≡ whole_log y
unfolding whole_log neg magnitude
neg_log nan = refl
neg_log (inf s) = refl
neg_log (fin s zero e) = refl
neg_log (fin s (suc m) e) = refl

neg_size : (y : Float) → magnitude (neg y) ≡ magnitude y
unfolding neg magnitude
neg_size nan = refl
neg_size (inf s) = refl
neg_size (fin s m e) = refl

neg_sign : (y : Float) → Number y → negative (neg y) ≡ not (negative y)
unfolding neg
neg_sign nan n = absurd n.is_finite
neg_sign (inf s) n = refl
neg_sign (fin s m e) n = refl

same_log : (x y : Float) → Number x → Number y → magnitude x ≡ magnitude y → whole_log x ≡ whole_log y
same_log x y p q e = go (negative x) (negative y) refl refl
  where
    opposite : negative x ≡ not (negative y) → whole_log x ≡ whole_log y
    opposite d = ap whole_log (same_double x (neg y) p (number_neg y q) (d ∙ sym (neg_sign y q)) (e ∙ sym (neg_size y))) ∙ neg_log y

    go : (s t : Bool) → negative x ≡ s → negative y ≡ t → whole_log x ≡ whole_log y
    go true true f g = ap whole_log (same_double x y p q (f ∙ sym g) e)
    go false false f g = ap whole_log (same_double x y p q (f ∙ sym g) e)
    go true false f g = opposite (f ∙ ap not (sym g))
    go false true f g = opposite (f ∙ ap not (sym g))

-- ---- values that the graph does not tell apart
pub record Alike (x y : Float) : Type 0 where
  pub zeros : eq x Constants.zero ≡ eq y Constants.zero
  pub logs : whole_log x ≡ whole_log y

sized_alike : (x y : Float) (z : ℤ) → Whole x z → Whole y (pos (nat_abs z)) → Alike x y
sized_alike x y z p q =
    let n : Number x = number_whole x z p in
    let m : Number y = number_whole y (pos (nat_abs z)) q in
    let e : magnitude x ≡ magnitude y = whole_size x y z p q in
    record {
      zeros = is_zero_lem x n ∙ mid_alike (negative x) (negative y) (magnitude x) (mag_lt x n) ∙ ap (λ (a : ℕ). eqb (place (negative y) a) origin) e
          ∙ sym (is_zero_lem y m);
      logs = same_log x y n m e;
    }

-- ---- the graphs of such values
module _ (n : ℕ) (col_ptr rows : List ℕ) (values other : List Float) (alike : (k : ℕ) → k < length rows → Alike (get_or values k nan) (get_or other k nan)) where
  touched : (c k : ℕ) → k < length rows → touches (matrix n col_ptr rows values) c k ≡ touches (matrix n col_ptr rows other) c k
  touched c k h = rw (alike k h).zeros refl

  places_to_lem : (c k : ℕ) → k ≤ length rows → places_to (matrix n col_ptr rows values) c k ≡ places_to (matrix n col_ptr rows other) c k
  unfolding places_to
  places_to_lem c zero h = refl
  places_to_lem c (suc k) h = ap₂ (λ (l : List ℕ) (b : Bool). l ++ keep b k) (places_to_lem c k (omega arith)) (touched c k h)

  places_same : places_of (matrix n col_ptr rows values) ≡ places_of (matrix n col_ptr rows other)
  places_same = fun_ext (λ c. places_to_lem c (length rows) (le_refl (length rows)))

  logs_same : length values ≡ length rows → length other ≡ length rows → value_logs values ≡ value_logs other
  logs_same e f =
      let l : length (value_logs values) ≡ length rows = length-map values (λ x. double_of (whole_log x)) ∙ e in
      let r : length (value_logs other) ≡ length rows = length-map other (λ x. double_of (whole_log x)) ∙ f in
      ext_get_or nan (value_logs values) (value_logs other) (l ∙ sym r)
      (λ k h. value_log_at values k ∙ ap double_of (alike k (omega (arith, l))).logs ∙ sym (value_log_at other k))

  graph_with : (ℕ → List ℕ) → List Float → CostGraph
  graph_with places logs =
      let g : GraphColumns = record { places = places; row = other_end (matrix n col_ptr rows values); top = largest } in
      graph_of n (graph_pointers g n) (graph_rows g n) (graph_costs g logs n)

  graphs_same : length values ≡ length rows → length other ≡ length rows → mirrored_graph (matrix n col_ptr rows values) ≡ mirrored_graph
      (matrix n col_ptr rows other)
  unfolding graph_with
  graphs_same e f = ap₂ graph_with places_same (logs_same e f)

-- ---- the graph of a file's values, with their signs, is that of the sizes
pub signs_free : (n : ℕ) (rows cols weights : List ℕ) (values : List Float) → SymmetricEntries n rows cols weights → repeats rows cols ≡ false
    → Signed weights values
    → triplet_graph n (triplets rows cols values) ≡ symmetric_graph n rows cols weights
signs_free n rows cols weights values held once signed =
    graphs_same n _ (rows_before rows cols n n) _ _ stored (values_length (triplets rows cols values) n n)
    (values_length (triplets rows cols (cost_values weights)) n n)
  where
    own : (k : ℕ) → k < length rows → Alike (add binary64 Constants.zero (get_or values k nan)) (add binary64 Constants.zero (get_or (cost_values weights) k nan))
    own k h =
        let l : k < length weights = omega (arith, held.sizes) in
        let s = signed k l in
        let z = s.0 in
        let b : nat_abs z < 2 ^ 53 = omega (arith, s.1, held.weights_in k l) in
        let e : get_or (cost_values weights) k nan ≡ of_int binary64 (pos (nat_abs z)) =
        map_at (λ w. of_int binary64 (pos w)) weights k l ∙ ap (λ (w : ℕ). of_int binary64 (pos w)) (sym s.1) in
        rw e
        (sized_alike (add binary64 Constants.zero (get_or values k nan)) (add binary64 Constants.zero (of_int binary64 (pos (nat_abs z)))) z
        (zero_plus (get_or values k nan) z b s.2)
        (zero_plus (of_int binary64 (pos (nat_abs z))) (pos (nat_abs z)) b (natural_whole (nat_abs z) (omega arith))))

    stored : (k : ℕ) → k < length (rows_before rows cols n n) → Alike (get_or (triplet_matrix n (triplets rows cols values)).values k nan)
        (get_or (triplet_matrix n (triplets rows cols (cost_values weights))).values k nan)
    stored k h = values_hold Alike rows cols values (cost_values weights) held.inside.pairs once (record { zeros = refl; logs = refl }) own n k h
