-- Whatever the building of either kind accepts, the match accepts the graph that is left, and all its costs are whole, so that its match is
-- `Optimal` with no further premise (`symmetric_optimal`, `general_optimal`). With these logs lent the builders find nothing wrong either: every log
-- is in range.
use mathlib.Core.Path.{◌≡◌, refl, sym, ap, ◌∙◌, subst}
use borrow.Author.Tests.{not-true}
use mathlib.Core.Bool.{Bool, true, false, not, ◌&&◌, ◌||◌}
use mathlib.Core.List.{List}
use Prim.Native.Nat.{ℕ, ◌+◌, ◌*◌, ◌≤◌, ◌<◌}
use native.Mathlib.Omega.{arith}
use lib.Dec.{T}
use lib.Ieee.{Float, nan, binary64, fits, eq, ne}
use lib.Ieee.Scale.{finite}
use lib.ListN.{length, get_or, drop, length-map}
use lib.Seq.{take_at}
use Rattle.limits.specs.Limits.{max_symmetric, max_general}
use Rattle.float64.specs.Constants as Constants
use Rattle.std.specs.Prelude.{Result}
use Rattle.refusal.specs.Number.{fault_of}
use Rattle.refusal.specs.Refusal.{cost_range, value_not_finite}
use Rattle.refusal.specs.Listed.{listed, general_numbers, symmetric_numbers, whole_general_numbers, whole_symmetric_numbers}
use Rattle.sparse.specs.Fault.{unless, or_else}
use Rattle.sparse.specs.Matrix.{Matrix}
use Rattle.sparse.specs.Validate.{size_fault, symmetric_fault, general_fault}
use Rattle.sparse.proofs.Accepted.{sizes_accepted, general_accepted}
use Rattle.sparse.proofs.First.{or-none, or-zero, all_zero, unless_holds}
use Rattle.sparse.proofs.Listed.{Listed, test, or_listed, first_listed, within, part}
use Rattle.sparse.proofs.Theorems.{size_numbers, sizes_listed, symmetric_listed, general_listed}
use Rattle.slices.specs.Outcome.{outcome_is, Outcome}
use Rattle.slices.proofs.Bools.{both}
use Rattle.cost_limit.specs.Range.{in_log_range}
use Rattle.matching.specs.Match.{match_of}
use Rattle.hungarian.specs.Graph.{CostGraph, graph_of}
use Rattle.hungarian.specs.Accepted.{Accepted}
use Rattle.hungarian.specs.Match.{hungarian_match}
use Rattle.hungarian.specs.Optimal.{WholeCosts}
use Rattle.hungarian.proofs.Theorems.{match_optimal}
use Rattle.whole_log.specs.Log.{whole_log, double_of}
use Rattle.mc64_columns.specs.Columns.{value_logs}
use Rattle.mc64_columns.specs.Graphs.{Slices, slices_fit, GraphColumns, kept_before, graph_pointers, graph_rows, graph_costs, graph_largest, built, outcome}
use Rattle.mc64_columns.proofs.Calls.{outcome_listed, lengths_fitting}
use Rattle.mc64_columns.proofs.Graphs.{costs_length, ones_at}
use Rattle.mc64_columns.proofs.Whole.{value_log_at, Short, columns_whole_lem}
use Rattle.mc64_symmetric.specs.Graph.{mirrored_columns}
use Rattle.mc64_symmetric.specs.Call as Symmetric
use Rattle.mc64_symmetric.specs.inner.Steps.{Triangle}
use Rattle.mc64_symmetric.specs.inner.Steps as SymmetricSteps
use Rattle.mc64_symmetric.proofs.Calling as SymmetricCalling
use Rattle.mc64_symmetric.proofs.Theorems as SymmetricLaws
use Rattle.factors_mc64.specs.Factors.{symmetric_factors}
use Rattle.factors_balance.specs.Balance.{NoneHeld, Balanced}
use Rattle.factors_balance.proofs.Theorems.{symmetric_balanced}
use Rattle.mc64_general.specs.Graph.{is_kept, kept_columns}
use Rattle.mc64_general.specs.Call as General
use Rattle.mc64_general.specs.inner.Steps as GeneralSteps
use Rattle.mc64_general.proofs.Calling as GeneralCalling
use Rattle.mc64_general.proofs.Theorems as GeneralLaws
use Rattle.whole_graphs.specs.Graphs.{finite_fault, symmetric_input_fault, general_input_fault, whole_symmetric_fault, whole_general_fault}
use Rattle.whole_graphs.specs.Graphs.{whole_symmetric_graph, whole_general_graph, graph_left, WholeGraph}
use Rattle.whole_graphs.proofs.Logs.{value_log, log_double}

-- every value is a double, as every f64 is
abbrev pub Doubles : List Float → Type 0
Doubles values = (k : ℕ) → k < length values → T (fits binary64 (get_or values k nan))

-- the graph of these columns
abbrev pub graph_by : GraphColumns → Matrix → CostGraph
graph_by g m = let n = m.pattern.n in graph_of n (graph_pointers g n) (graph_rows g n) (graph_costs g (value_logs m.values) n)

-- is the one that is left
pub left_is : (g : GraphColumns) (m : Matrix) (s after : Slices) → let n = m.pattern.n in
    after ≡ built n g (value_logs m.values) s → graph_left n after ≡ graph_by g m
unfolding built
left_is g m s after e =
    let n = m.pattern.n in
    let last : get_or (graph_pointers g n) n 0 ≡ kept_before g n = ones_at (kept_before g) _ n (omega arith) in
    let rows = take_at (graph_rows g n) (drop (kept_before g n) s.graph_idx) (kept_before g n) refl in
    let costs = take_at (graph_costs g (value_logs m.values) n) (drop (kept_before g n) s.cost) (kept_before g n)
    (costs_length g (value_logs m.values) n) in
    rw (e, last, rows, costs) refl

-- and it is left if nothing is wrong
pub left_built : (n : ℕ) (g : GraphColumns) (logs : List Float) (s after : Slices) (a : Result ℕ ℕ) (fault : ℕ)
    → outcome_is a after ≡ outcome fault n g logs s → fault ≡ 0 → after ≡ built n g logs s
left_built n g logs s after a fault o e = ap (λ (x : Outcome (Result ℕ ℕ) Slices). x.after) (o ∙ ap (λ (f : ℕ). outcome f n g logs s) e)

-- ---- values of an accepted matrix
pub all_finite : (values : List Float) → finite_fault values ≡ 0 → (k : ℕ) → k < length values → finite (get_or values k nan) ≡ true
unfolding finite_fault
all_finite values e k h =
    unless_holds (finite (get_or values k nan)) value_not_finite (λ z. let y : ⊥ = omega arith in absurd y)
    ((all_zero (λ k. unless (finite (get_or values k nan)) value_not_finite) (length values)).0 e k h)

is_true : {b : Bool} → b ≡ true → T b
is_true e = subst T (sym e) tt

module _ (n : ℕ) (few : n ≤ 4096) (values : List Float) (doubles : Doubles values) (e : finite_fault values ≡ 0) where
  -- the log of a value that does not equal zero
  log_at : (k : ℕ) → k < length values → eq (get_or values k nan) Constants.zero ≡ false → Short (get_or (value_logs values) k nan)
      × (in_log_range n (get_or (value_logs values) k nan) ≡ true)
  log_at k h z =
      subst (λ (x : Float). Short x × (in_log_range n x ≡ true)) (sym (value_log_at values k))
      (value_log n (get_or values k nan) few (doubles k h) (is_true (all_finite values e k h)) z)

  zero_or_fits : (k : ℕ) → k < length values → (eq (get_or values k nan) Constants.zero || in_log_range n (get_or (value_logs values) k nan)) ≡ true
  zero_or_fits k h = go (eq (get_or values k nan) Constants.zero) (log_at k h)
    where
      go : (b : Bool) → (b ≡ false → Short (get_or (value_logs values) k nan) × (in_log_range n (get_or (value_logs values) k nan) ≡ true))
          → (b || in_log_range n (get_or (value_logs values) k nan)) ≡ true
      go true g = refl
      go false g = (g refl).1

  logs_double : (k : ℕ) → k < length (value_logs values) → T (fits binary64 (get_or (value_logs values) k nan))
  logs_double k h = rw (value_log_at values k) (log_double (get_or values k nan) (doubles k (rw length-map at h)))

fits_alike : (room : ℕ) (m : Matrix) (s : Slices) → slices_fit room m (value_logs m.values) s ≡ slices_fit room m m.values s
unfolding slices_fit
fits_alike room m s = rw (length-map m.values (λ x. double_of (whole_log x))) refl

-- whole costs, if no value at a place of a column equals zero
costs_whole : (g : GraphColumns) (m : Matrix) → m.pattern.n ≤ 4096 → Doubles m.values → finite_fault m.values ≡ 0
    → ((c i : ℕ) → c < m.pattern.n → i < length (g.places c) → (get_or (g.places c) i 0 < length m.values)
    × (eq (get_or m.values (get_or (g.places c) i 0) nan) Constants.zero ≡ false))
    → WholeCosts (graph_by g m)
costs_whole g m few doubles e places k h =
    columns_whole_lem g m.pattern.n (value_logs m.values) (λ c i l u. let p = places c i l u in
    (log_at m.pattern.n few m.values doubles e (get_or (g.places c) i 0) p.0 p.1).0) k
    (rw (costs_length g (value_logs m.values) m.pattern.n) h)

whole_graph : (g : CostGraph) → Accepted g → WholeCosts g → WholeGraph g
whole_graph g a w = record { matched = a; whole = w; optimal = match_optimal g a w }

-- ---- symmetric
module _ (m : Matrix) (s : Slices) (fine : whole_symmetric_fault m s ≡ 0) (doubles : Doubles m.values) where
  pub parts : (size_fault m.pattern.n max_symmetric (length m.pattern.row_idx) (slices_fit (2 * length m.pattern.row_idx) m m.values s) ≡ 0)
      × ((symmetric_fault m ≡ 0) × (finite_fault m.values ≡ 0))
  unfolding symmetric_input_fault
  parts =
      let z = or-zero (size_fault m.pattern.n max_symmetric (length m.pattern.row_idx)
      (slices_fit (2 * length m.pattern.row_idx) m m.values s)) _ fine in
      (z.0, or-zero (symmetric_fault m) _ z.1)

  columns_few : m.pattern.n ≤ 4096
  columns_few = ((sizes_accepted m.pattern.n max_symmetric (length m.pattern.row_idx) _).0 parts.0).0

  -- with these logs lent, `build_cost_graph` finds nothing wrong either
  pub symmetric_fine : Symmetric.cost_graph_fault m (value_logs m.values) s ≡ 0
  unfolding Symmetric.input_fault Symmetric.values_fault
  symmetric_fine =
      ap (λ (b : Bool). or_else (size_fault m.pattern.n max_symmetric (length m.pattern.row_idx) b)
      (or_else (symmetric_fault m) (Symmetric.values_fault m.pattern.n m.values (value_logs m.values))))
      (fits_alike (2 * length m.pattern.row_idx) m s)
      ∙ or-none parts.0
      ∙ or-none parts.1.0
      ∙ (all_zero (Symmetric.place_fault m.pattern.n m.values (value_logs m.values)) (length m.values)).1
      (λ k h.
      or-none (ap (λ (b : Bool). unless b value_not_finite) (all_finite m.values parts.1.1 k h))
      ∙ ap (λ (b : Bool). unless b cost_range) (zero_or_fits m.pattern.n columns_few m.values doubles parts.1.1 k h))

  symmetric_matched : Accepted (graph_by (mirrored_columns m) m)
  symmetric_matched = SymmetricLaws.graph_matched m (value_logs m.values) s symmetric_fine
      (logs_double m.pattern.n columns_few m.values doubles parts.1.1)

  symmetric_stored : length m.values ≡ length m.pattern.row_idx
  symmetric_stored = (lengths_fitting (2 * length m.pattern.row_idx) m m.values s
      ((sizes_accepted m.pattern.n max_symmetric (length m.pattern.row_idx) _).0 parts.0).2).valued

  -- what the building requires, with the values in place of logs
  pub symmetric_ready : Triangle m
      × (((length m.pattern.col_ptr ≡ m.pattern.n + 1) × (length m.values ≡ length m.pattern.row_idx))
      × (((length s.graph_ptr ≡ m.pattern.n + 1) × (length s.cmax ≡ m.pattern.n)) × SymmetricSteps.Roomy m.pattern.col_ptr m.pattern.row_idx
      s.graph_idx s.cost s.work))
  symmetric_ready =
      let r = SymmetricCalling.ready m (value_logs m.values) s symmetric_fine in
      (r.0, ((r.1.0.0, symmetric_stored), r.1.1))

  symmetric_whole : WholeCosts (graph_by (mirrored_columns m) m)
  symmetric_whole =
      costs_whole (mirrored_columns m) m columns_few doubles parts.1.1
      (λ c i l u. let p = SymmetricLaws.place_in m c i u in (omega (arith, symmetric_stored, p.0), not-true _ p.1))

  pub symmetric_optimal : (after : Slices) → after ≡ built m.pattern.n (mirrored_columns m) (value_logs m.values) s
      → WholeGraph (graph_left m.pattern.n after)
  symmetric_optimal after e =
      subst WholeGraph (sym (left_is (mirrored_columns m) m s after e)) (whole_graph (graph_by (mirrored_columns m) m) symmetric_matched symmetric_whole)

  balanced_by : let M = hungarian_match (graph_by (mirrored_columns m) m) in
      let c = match_of M.perm M.u M.v (graph_largest (mirrored_columns m) (value_logs m.values) m.pattern.n) in
      let factors = symmetric_factors m.pattern.n c in
      M.matched ≡ m.pattern.n → NoneHeld m.pattern.n c factors → Balanced m (value_logs m.values) M.perm factors
  balanced_by =
      symmetric_balanced m (value_logs m.values) s symmetric_fine (logs_double m.pattern.n columns_few m.values doubles parts.1.1)
      (λ k K.
      let w = (log_at m.pattern.n columns_few m.values doubles parts.1.1 k (omega (arith, symmetric_stored, K.stored)) (not-true _ K.is_kept)).0 in
      (w.number, w.whole))

  -- and the log factors of the match of the graph that is left balance
  pub own_logs_balanced : (after : Slices) → after ≡ built m.pattern.n (mirrored_columns m) (value_logs m.values) s
      → let M = hungarian_match (graph_left m.pattern.n after) in
      let c = match_of M.perm M.u M.v after.cmax in
      let factors = symmetric_factors m.pattern.n c in
      M.matched ≡ m.pattern.n → NoneHeld m.pattern.n c factors → Balanced m (value_logs m.values) M.perm factors
  unfolding built
  own_logs_balanced after e =
      let largest : after.cmax ≡ graph_largest (mirrored_columns m) (value_logs m.values) m.pattern.n = ap (λ (x : Slices). x.cmax) e in
      rw (left_is (mirrored_columns m) m s after e, largest) balanced_by

pub symmetric_fault_listed : (m : Matrix) (s : Slices) → Listed whole_symmetric_numbers (whole_symmetric_fault m s)
unfolding listed within symmetric_input_fault finite_fault
symmetric_fault_listed m s =
    or_listed (part size_numbers (sizes_listed m.pattern.n max_symmetric (length m.pattern.row_idx)
    (slices_fit (2 * length m.pattern.row_idx) m m.values s)) refl)
    (or_listed (part symmetric_numbers (symmetric_listed m) refl)
    (first_listed (length m.values) 0 refl (λ k. test (finite (get_or m.values k nan)) value_not_finite refl refl)))

pub symmetric_numbers_lem : (m : Matrix) (s : Slices) → Listed whole_symmetric_numbers (fault_of (whole_symmetric_graph m s).answer)
unfolding whole_symmetric_graph
symmetric_numbers_lem m s =
    outcome_listed m.pattern.n (mirrored_columns m) (value_logs m.values) s (whole_symmetric_fault m s) (symmetric_fault_listed m s)

-- ---- general
kept_or_fits : (n : ℕ) (x log : Float) → (eq x Constants.zero || in_log_range n log) ≡ true → General.log_fits n x log ≡ true
unfolding is_kept ne
kept_or_fits n x log h = go (finite x) (eq x Constants.zero) h
  where
    go : (f z : Bool) → (z || in_log_range n log) ≡ true → (not (f && not z) || in_log_range n log) ≡ true
    go true true h = refl
    go true false h = h
    go false z h = refl

module _ (m : Matrix) (s : Slices) (fine : whole_general_fault m s ≡ 0) (doubles : Doubles m.values) where
  pub tests : (size_fault m.pattern.n max_general (length m.pattern.row_idx) (slices_fit (length m.pattern.row_idx) m m.values s) ≡ 0)
      × ((general_fault m ≡ 0) × (finite_fault m.values ≡ 0))
  unfolding general_input_fault
  tests =
      let z = or-zero (size_fault m.pattern.n max_general (length m.pattern.row_idx) (slices_fit (length m.pattern.row_idx) m m.values s)) _ fine in
      (z.0, or-zero (general_fault m) _ z.1)

  few : m.pattern.n ≤ 4096
  few = ((sizes_accepted m.pattern.n max_general (length m.pattern.row_idx) _).0 tests.0).0

  -- with these logs lent, `build_general_graph` finds nothing wrong either
  pub general_fine : General.general_graph_fault m (value_logs m.values) s ≡ 0
  unfolding General.input_fault General.logs_fault
  general_fine =
      ap (λ (b : Bool). or_else (size_fault m.pattern.n max_general (length m.pattern.row_idx) b)
      (or_else (general_fault m) (General.logs_fault m.pattern.n m.values (value_logs m.values))))
      (fits_alike (length m.pattern.row_idx) m s)
      ∙ or-none tests.0
      ∙ or-none tests.1.0
      ∙ (all_zero (General.log_fault m.pattern.n m.values (value_logs m.values)) (length m.values)).1
      (λ k h.
      ap (λ (b : Bool). unless b cost_range)
      (kept_or_fits m.pattern.n (get_or m.values k nan) (get_or (value_logs m.values) k nan)
      (zero_or_fits m.pattern.n few m.values doubles tests.1.1 k h)))

  general_matched : Accepted (graph_by (kept_columns m) m)
  general_matched = GeneralLaws.graph_matched m (value_logs m.values) s general_fine (logs_double m.pattern.n few m.values doubles tests.1.1)

  -- what the building requires, with the values in place of logs
  pub general_ready : GeneralSteps.Accepted m m.values × GeneralSteps.Roomy m.pattern.n m.pattern.row_idx s.graph_ptr s.graph_idx s.cost
      s.cmax × (length m.pattern.row_idx ≤ length s.work)
  general_ready =
      let r = GeneralCalling.ready m (value_logs m.values) s general_fine in
      (record { sizes = r.0.sizes; pointers = r.0.pointers; logged = r.0.sizes.stored }, r.1, r.2)

  general_whole : WholeCosts (graph_by (kept_columns m) m)
  unfolding is_kept ne
  general_whole =
      let a = (general_accepted m).0 tests.1.0 in
      costs_whole (kept_columns m) m few doubles tests.1.1
      (λ c i l u.
      let p = GeneralLaws.place_in m a.1 c i l u in
      let k = get_or ((kept_columns m).places c) i 0 in
      (omega (arith, a.0.stored, p.2), not-true (eq (get_or m.values k nan) Constants.zero) (both (finite (get_or m.values k nan)) _ p.3).1))

  pub general_optimal : (after : Slices) → after ≡ built m.pattern.n (kept_columns m) (value_logs m.values) s
      → WholeGraph (graph_left m.pattern.n after)
  general_optimal after e =
      subst WholeGraph (sym (left_is (kept_columns m) m s after e)) (whole_graph (graph_by (kept_columns m) m) general_matched general_whole)

pub general_fault_listed : (m : Matrix) (s : Slices) → Listed whole_general_numbers (whole_general_fault m s)
unfolding listed within general_input_fault finite_fault
general_fault_listed m s =
    or_listed (part size_numbers (sizes_listed m.pattern.n max_general (length m.pattern.row_idx)
    (slices_fit (length m.pattern.row_idx) m m.values s)) refl)
    (or_listed (part general_numbers (general_listed m) refl)
    (first_listed (length m.values) 0 refl (λ k. test (finite (get_or m.values k nan)) value_not_finite refl refl)))

pub general_numbers_lem : (m : Matrix) (s : Slices) → Listed whole_general_numbers (fault_of (whole_general_graph m s).answer)
unfolding whole_general_graph
general_numbers_lem m s = outcome_listed m.pattern.n (kept_columns m) (value_logs m.values) s (whole_general_fault m s) (general_fault_listed m s)
