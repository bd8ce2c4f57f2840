-- Where no pair repeats, the tests of a symmetric matrix and of its values find nothing wrong with that of the entries: it is a lower triangle whose values are
-- 0.0 plus one weight each, which is exact. So the whole-number call leaves its graph (`call_leaves`), the match accepts it, and all costs are whole
-- (`symmetric_whole`).
use mathlib.Core.Path.{◌≡◌, refl, ap, ◌∙◌, subst}
use mathlib.Core.Bool.{Bool, true, false, not}
use mathlib.Core.List.{List}
use Prim.Native.Nat.{ℕ, suc, ◌+◌, ◌*◌, ◌^◌, ◌<◌}
use native.Mathlib.Omega.{arith}
use borrow.Author.Tests.{eq-eqb, eqb-true}
use lib.IntN.{ℤ, pos, nat_abs, +ℤ_idl}
use lib.Ieee.{Float, nan, binary64, of_int, add}
use lib.Ieee.Bits.{is_true}
use lib.Ieee.Scale.{finite}
use lib.ListN.{length, get_or, replicate, length-replicate}
use Rattle.limits.specs.Limits.{max_symmetric}
use Rattle.refusal.specs.Refusal.{value_not_finite}
use Rattle.float64.specs.Number.{Whole, IsWhole}
use Rattle.float64.specs.Constants as Constants
use Rattle.float64.proofs.Constants.{zero_whole}
use Rattle.float64.proofs.WholeNumbers.{whole_add}
use Rattle.cost_limit.proofs.Range.{natural_whole}
use Rattle.slices.proofs.Lists.{length_table}
use Rattle.triplets.specs.Built.{triplets, kept_count, rows_before}
use Rattle.sparse.specs.Fault.{unless}
use Rattle.sparse.specs.Matrix.{Matrix}
use Rattle.sparse.specs.Columns.{Sizes}
use Rattle.sparse.proofs.First.{or-none, all_zero}
use Rattle.sparse.proofs.Accepted.{sizes_accepted, symmetric_accepted}
use Rattle.mc64_columns.specs.Columns.{value_logs}
use Rattle.mc64_columns.specs.Graphs.{Slices, slices, slices_fit, outcome}
use Rattle.mc64_columns.proofs.Calls.{Fitting}
use Rattle.mc64_symmetric.specs.Graph.{mirrored_columns}
use Rattle.whole_graphs.specs.Graphs.{finite_fault, symmetric_input_fault, whole_symmetric_fault, whole_symmetric_graph, graph_left, WholeGraph}
use Rattle.whole_graphs.proofs.Theorems.{Doubles, left_is, symmetric_optimal}
use Rattle.text_graph.specs.Graph.{cost_values}
use Rattle.text_graph.proofs.KeptCount.{kept_count_lem}
use Rattle.text_graph.proofs.GraphColumns.{graph_columns}
use Rattle.text_graph.proofs.GraphCosts.{map_at, values_length, values_hold}
use Rattle.text_matrix_market.specs.File.{repeats}
use Rattle.text_symmetric_graph.specs.Graph.{SymmetricEntries, SymmetricValues, triplet_matrix, mirrored_graph, symmetric_graph}
use Rattle.text_symmetric_graph.proofs.Triangle.{matrix_lower}

-- 0.0 plus a whole number is that number
pub zero_plus : (x : Float) (z : ℤ) → nat_abs z < 2 ^ 53 → Whole x z → Whole (add binary64 Constants.zero x) z
zero_plus x z h w = subst (Whole (add binary64 Constants.zero x)) (+ℤ_idl z) (whole_add Constants.zero x (pos 0) z zero_whole w (rw (+ℤ_idl z) (omega arith)))

-- ---- slices that have their lengths
fits_lent : {room : ℕ} {m : Matrix} {logs : List Float} {s : Slices} → Fitting room m logs s → slices_fit room m logs s ≡ true
unfolding slices_fit
fits_lent f =
    rw (
      eq-eqb _ _ f.colptrs,
      eq-eqb _ _ f.valued,
      eq-eqb _ _ f.logged,
      eq-eqb _ _ f.pointers,
      eq-eqb _ _ f.row_room,
      eq-eqb _ _ f.cost_room,
      eq-eqb _ _ f.cmax_room,
      eq-eqb _ _ f.work_room,
    ) refl

-- ---- the matrix
module _ {n : ℕ} {rows cols : List ℕ} {values : List Float} (S : SymmetricValues n rows cols values) (once : repeats rows cols ≡ false) where
  abbrev m : Matrix
  m = triplet_matrix n (triplets rows cols values)

  -- no entry is lost
  pub kept_all : kept_count n (triplets rows cols values) ≡ length rows
  kept_all = eqb-true _ _ (kept_count_lem n (triplets rows cols values) S.held.inside ∙ ap not once)

  stored_whole : (k : ℕ) → k < length m.pattern.row_idx → IsWhole (get_or m.values k nan)
  stored_whole k h = values_hold (λ x y. IsWhole x) rows cols values values S.held.inside.pairs once (pos 0, zero_whole) own n k h
    where
      own : (i : ℕ) → i < length rows → IsWhole (add binary64 Constants.zero (get_or values i nan))
      own i l =
          let c : i < length S.weights = omega (arith, S.held.sizes) in
          let w : ℕ = get_or S.weights i 0 in
          let e : get_or values i nan ≡ of_int binary64 (pos w) = ap (λ (x : List Float). get_or x i nan) S.valued ∙ map_at (λ w. of_int binary64 (pos w))
          S.weights i c in
          let b : w < 2 ^ 53 = S.held.weights_in i c in
          rw e (pos w, zero_plus (of_int binary64 (pos w)) (pos w) b (natural_whole w (omega arith)))

  as_many : length m.values ≡ length m.pattern.row_idx
  as_many = values_length (triplets rows cols values) n n

  pub stored_doubles : Doubles m.values
  stored_doubles k h = (stored_whole k (omega (arith, as_many))).1.double

  all_finite : finite_fault m.values ≡ 0
  unfolding finite_fault
  all_finite =
      (all_zero (λ k. unless (finite (get_or m.values k nan)) value_not_finite) (length m.values)).1
      (λ k h. ap (λ (b : Bool). unless b value_not_finite) (is_true (finite (get_or m.values k nan)) (stored_whole k (omega (arith, as_many))).1.is_finite))

  matrix_sizes : Sizes max_symmetric m
  matrix_sizes =
      record {
        columns = omega (arith, S.held.few);
        entries = omega (arith, kept_all, S.held.short);
        colptrs = omega (arith, length_table (suc n) (λ j. length (rows_before rows cols n j)));
        stored = as_many;
      }

  -- lengths of what is lent for the graph
  module _ (s : Slices) (pointers : length s.graph_ptr ≡ n + 1) (row_room : length s.graph_idx ≡ 2 * length rows)
      (cost_room : length s.cost ≡ 2 * length rows)
      (cmax_room : length s.cmax ≡ n) (work_room : length s.work ≡ 2 * n + 2 + length rows) where
    fitting : Fitting (2 * length m.pattern.row_idx) m m.values s
    fitting =
        record {
          colptrs = matrix_sizes.colptrs;
          valued = as_many;
          logged = as_many;
          pointers = pointers;
          row_room = omega (arith, kept_all);
          cost_room = omega (arith, kept_all);
          cmax_room = cmax_room;
          work_room = omega (arith, kept_all);
        }

    pub nothing_wrong : whole_symmetric_fault m s ≡ 0
    unfolding symmetric_input_fault
    nothing_wrong =
        or-none ((sizes_accepted n max_symmetric (length m.pattern.row_idx) _).1 (matrix_sizes.columns, matrix_sizes.entries, fits_lent fitting))
        ∙ or-none ((symmetric_accepted m).1
        (matrix_sizes, (graph_columns n rows cols S.weights, matrix_lower rows cols S.held.lower n)))
        ∙ all_finite

    -- the whole-number call accepts the matrix and leaves its graph
    pub call_leaves : graph_left n (whole_symmetric_graph m s).after ≡ mirrored_graph m
    unfolding whole_symmetric_graph
    call_leaves = left_is (mirrored_columns m) m s _ (ap (λ (f : ℕ). (outcome f n (mirrored_columns m) (value_logs m.values) s).after) nothing_wrong)

-- ---- the graph
pub symmetric_whole : (n : ℕ) (rows cols weights : List ℕ) → SymmetricEntries n rows cols weights → repeats rows cols ≡ false
    → WholeGraph (symmetric_graph n rows cols weights)
symmetric_whole n rows cols weights held once =
    subst WholeGraph (left_is (mirrored_columns M) M lent _ refl)
    (symmetric_optimal M lent
    (nothing_wrong S once lent (length-replicate (n + 1) 0) (length-replicate (2 * length rows) 0) (length-replicate (2 * length rows) nan)
    (length-replicate n nan) (length-replicate (2 * n + 2 + length rows) 0))
    (stored_doubles S once) _ refl)
  where
    S : SymmetricValues n rows cols (cost_values weights)
    S = record { weights = weights; held = held; valued = refl }

    M : Matrix
    M = triplet_matrix n (triplets rows cols (cost_values weights))

    lent : Slices
    lent = slices (replicate (n + 1) 0) (replicate (2 * length rows) 0) (replicate (2 * length rows) nan) (replicate n nan)
        (replicate (2 * n + 2 + length rows) 0)
