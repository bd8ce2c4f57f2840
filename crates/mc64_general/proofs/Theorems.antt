-- The graph of an accepted matrix has strictly rising rows in every column, as the matrix has, and logs in range: the match accepts it.
-- And the building answers no number but those of its list.
use mathlib.Core.Path.{◌≡◌, refl, ap, subst, fun_ext, ◌∙◌}
use mathlib.Core.Bool.{true, Bool, false, not, ◌||◌}
use mathlib.Core.List.{List}
-- Logs of dropped places do not matter: neither a fault nor a column of the graph uses one.
use Prim.Native.Nat.{ℕ, zero, suc, ◌+◌, ◌-◌, ◌≤◌, ◌<◌}
use native.Mathlib.Nat.{not-suc-le-zero, le_refl}
use native.Mathlib.Omega.{arith}
use lib.Dec.{T}
use lib.Ieee.{Float, nan, binary64, fits}
use lib.ListN.{length, get_or, length-map}
use Rattle.limits.specs.Limits.{max_general}
use Rattle.sparse.specs.Columns.{Columns}
use Rattle.std.specs.Prelude.{Result}
use Rattle.refusal.specs.Number.{fault_of}
use Rattle.refusal.specs.Refusal.{cost_range}
use Rattle.refusal.specs.Listed.{listed, general_numbers, graph_numbers}
use Rattle.slices.specs.Outcome.{outcome_is}
use Rattle.sparse.specs.Fault.{unless, first_of}
use Rattle.sparse.specs.Validate.{general_fault, size_fault}
use Rattle.sparse.proofs.First.{or-zero, all_zero, unless_holds}
use Rattle.sparse.proofs.Accepted.{pointer_below, sizes_accepted, general_accepted}
use Rattle.sparse.proofs.Listed.{Listed, test, or_listed, first_listed, within, part}
use Rattle.sparse.proofs.Theorems.{size_numbers, sizes_listed, general_listed}
use Rattle.hungarian.specs.Accepted.{Accepted}
use Rattle.hungarian.specs.Graph.{graph_of}
use Rattle.cost_limit.specs.Range.{in_log_range}
use Rattle.sparse.specs.Matrix.{Matrix, matrix}
use Rattle.mc64_columns.specs.Graphs.{Slices, slices_fit, AnswersBy, outcome, rows_of, logs_at, kept_before, graph_pointers, graph_rows, graph_costs}
use Rattle.mc64_columns.proofs.Kept.{keep_all, keep_rises, keep_alike}
use Rattle.mc64_columns.proofs.Graphs.{row_at, columns_rise, columns_accepted, columns_match}
use Rattle.mc64_columns.proofs.Calls.{lengths_fitting, in_list, outcome_listed, outcome_alike}
use Rattle.mc64_general.specs.Graph.{is_kept, kept_places, places_of, kept_columns}
use Rattle.mc64_general.specs.Call.{lengths_fit, log_fits, log_fault, logs_fault, input_fault, general_graph_fault, general_graph, Promises}
use Rattle.mc64_columns.proofs.Agree.{Agree, agree_at}
use Rattle.mc64_general.proofs.Building.{kept_below}

-- ---- kept places
module _ (values : List Float) (from : ℕ) where
  abbrev Taken : ℕ → ℕ → Type 0
  Taken to k = (from ≤ k) × (k < to) × (is_kept (get_or values k nan) ≡ true)

  taken : (count i : ℕ) → i < length (kept_places values from count) → Taken (from + count) (get_or (kept_places values from count) i 0)
  unfolding kept_places
  taken zero i h = absurd (not-suc-le-zero h)
  taken (suc count) i h =
      keep_all (kept_places values from count) (from + count) (Taken (from + suc count)) i (is_kept (get_or values (from + count) nan))
      (λ l. let t = taken count i l in (t.0, omega (arith, t.1), t.2)) (λ e. (omega arith, omega arith, e)) h

  in_order : (count i : ℕ) → suc i < length (kept_places values from count) → get_or (kept_places values from count) i 0 < get_or
      (kept_places values from count) (suc i) 0
  unfolding kept_places
  in_order zero i h = absurd (not-suc-le-zero h)
  in_order (suc count) i h =
      keep_rises (kept_places values from count) (from + count) i (is_kept (get_or values (from + count) nan)) (λ j l. (taken count j l).1) (in_order count i) h

-- ---- rows of a column that rise from place to place rise from any place to a later one
module _ {n : ℕ} (col_ptr rows : List ℕ) (columns : Columns n col_ptr rows) where
  climb : (c p d : ℕ) → c < n → get_or col_ptr c 0 ≤ p → p + suc d < get_or col_ptr (suc c) 0 → get_or rows p 0 < get_or rows (p + suc d) 0
  climb c p zero h l u = let e : p + 1 ≡ suc p = omega arith in rw e (columns.rising c p h l (omega arith))
  climb c p (suc d) h l u =
      let e : p + suc (suc d) ≡ suc (p + suc d) = omega arith in
      rw e (omega (arith, climb c p d h l (omega arith), columns.rising c (p + suc d) h (omega arith) (omega arith)))

-- ---- the graph
module _ (m : Matrix) (columns : Columns m.pattern.n m.pattern.col_ptr m.pattern.row_idx) where
  -- a place of column c lies between its pointers
  pub place_in : (c i : ℕ) → c < m.pattern.n → i < length (places_of m c) → let k = get_or (places_of m c) i 0 in
      (get_or m.pattern.col_ptr c 0 ≤ k) × (k < get_or m.pattern.col_ptr (suc c) 0) × (k < length m.pattern.row_idx) ×
      (is_kept (get_or m.values k nan) ≡ true)
  place_in c i h l =
      let from = get_or m.pattern.col_ptr c 0 in
      let t = taken m.values from (get_or m.pattern.col_ptr (suc c) 0 - from) i l in
      let r = columns.pointers.rises c h in
      let b = pointer_below columns.pointers (suc c) h in
      (t.0, omega (arith, t.1), omega (arith, t.1), t.2)

  row_inside : (c i : ℕ) → c < m.pattern.n → i < length (rows_of (kept_columns m) c) → get_or (rows_of (kept_columns m) c) i 0 < m.pattern.n
  row_inside c i h l =
      let u : i < length (places_of m c) = rw length-map at l in
      rw (row_at (kept_columns m) c i u) (columns.inside _ (place_in c i h u).2)

  row_rises : (c i : ℕ) → c < m.pattern.n → suc i < length (rows_of (kept_columns m) c) → get_or (rows_of (kept_columns m) c) i 0 < get_or (rows_of (kept_columns m) c)
      (suc i) 0
  row_rises c i h l =
      let u : suc i < length (places_of m c) = rw length-map at l in
      let from = get_or m.pattern.col_ptr c 0 in
      let p = get_or (places_of m c) i 0 in
      let q = get_or (places_of m c) (suc i) 0 in
      let o : p < q = in_order m.values from (get_or m.pattern.col_ptr (suc c) 0 - from) i u in
      let e : p + suc (q - suc p) ≡ q = omega arith in
      let a = place_in c i h (omega arith) in
      let b = place_in c (suc i) h u in
      rw (row_at (kept_columns m) c i (omega arith), row_at (kept_columns m) c (suc i) u)
      (subst (λ (x : ℕ). get_or m.pattern.row_idx p 0 < get_or m.pattern.row_idx x 0) e
      (climb m.pattern.col_ptr m.pattern.row_idx columns c p (q - suc p) h a.0 (omega (arith, b.1))))

  pub graph_rises : Columns m.pattern.n (graph_pointers (kept_columns m) m.pattern.n) (graph_rows (kept_columns m) m.pattern.n)
  graph_rises = columns_rise (kept_columns m) m.pattern.n row_inside row_rises

  module _ (few : m.pattern.n ≤ 4096) (entries : length m.pattern.row_idx ≤ 262144) (logs : List Float) where
    kept_few : kept_before (kept_columns m) m.pattern.n ≤ 262144
    kept_few = omega (arith, kept_below m columns.pointers m.pattern.n (le_refl m.pattern.n), columns.pointers.last)

    -- the match's tests 1 to 7 find nothing wrong with the graph
    pub graph_accepted : general_fault (matrix m.pattern.n (graph_pointers (kept_columns m) m.pattern.n) (graph_rows (kept_columns m) m.pattern.n)
        (graph_costs (kept_columns m) logs m.pattern.n)) ≡ 0
    graph_accepted = columns_accepted (kept_columns m) m.pattern.n row_inside row_rises few kept_few logs

    -- and if the logs of kept places are doubles in range, the match's own test accepts the graph
    pub match_accepts : ((k : ℕ) → k < length m.pattern.row_idx → is_kept (get_or m.values k nan) ≡ true → T (fits binary64 (get_or logs k nan))
        × (in_log_range m.pattern.n (get_or logs k nan) ≡ true))
        → Accepted (graph_of m.pattern.n (graph_pointers (kept_columns m) m.pattern.n) (graph_rows (kept_columns m) m.pattern.n)
        (graph_costs (kept_columns m) logs m.pattern.n))
    match_accepts fine =
        columns_match (kept_columns m) m.pattern.n row_inside row_rises few kept_few logs
        (λ c i h l. let t = place_in c i h l in fine (get_or (places_of m c) i 0) t.2 t.3)

-- ---- the call
-- the match accepts the graph that an accepted call leaves
pub graph_matched : (m : Matrix) (logs : List Float) (s : Slices) → input_fault m logs (lengths_fit m logs s) ≡ 0
    → ((k : ℕ) → k < length logs → T (fits binary64 (get_or logs k nan)))
    → Accepted (graph_of m.pattern.n (graph_pointers (kept_columns m) m.pattern.n) (graph_rows (kept_columns m) m.pattern.n)
    (graph_costs (kept_columns m) logs m.pattern.n))
unfolding input_fault logs_fault
graph_matched m logs s fine doubles =
    let z = or-zero (size_fault m.pattern.n max_general (length m.pattern.row_idx) (lengths_fit m logs s)) _ fine in
    let f = lengths_fitting (length m.pattern.row_idx) m logs s ((sizes_accepted m.pattern.n max_general (length m.pattern.row_idx) _).0 z.0).2 in
    let o = or-zero (general_fault m) _ z.1 in
    let a = (general_accepted m).0 o.0 in
    let places = (all_zero (log_fault m.pattern.n m.values logs) (length m.values)).0 o.1 in
    match_accepts m a.1 a.0.columns a.0.entries logs
    (λ k h e. (doubles k (omega (arith, f.logged)), in_range_lem k (places k (omega (arith, f.valued))) e))
  where
    in_range_lem : (k : ℕ) → log_fault m.pattern.n m.values logs k ≡ 0 → is_kept (get_or m.values k nan) ≡ true
        → in_log_range m.pattern.n (get_or logs k nan) ≡ true
    in_range_lem k e h = unless_holds (in_log_range m.pattern.n (get_or logs k nan)) cost_range (λ z. let y : ⊥ = omega arith in absurd y) (rw h at e)

-- ---- refusals
pub fault_listed : (m : Matrix) (logs : List Float) (s : Slices) → Listed graph_numbers (general_graph_fault m logs s)
unfolding listed within input_fault logs_fault
fault_listed m logs s =
    or_listed (part size_numbers (sizes_listed m.pattern.n max_general (length m.pattern.row_idx) (lengths_fit m logs s)) refl)
    (or_listed (part general_numbers (general_listed m) refl)
    (first_listed (length m.values) 0 refl (λ k. test (log_fits m.pattern.n (get_or m.values k nan) (get_or logs k nan)) cost_range refl refl)))

-- all that the call promises, from an outcome by its fault
pub promised : (m : Matrix) (logs : List Float) (s : Slices) {r : Result ℕ ℕ} {after : Slices}
    → (outcome_is r after ≡ outcome (general_graph_fault m logs s) m.pattern.n (kept_columns m) logs s)
    × AnswersBy (general_graph_fault m logs s) (kept_before (kept_columns m) m.pattern.n) r
    → Promises m logs s r after
unfolding general_graph
promised m logs s p = record { outcome = p.0; answered = p.1; number = in_list (fault_listed m logs s) p.1 }

pub graph_listed : (m : Matrix) (logs : List Float) (s : Slices) → Listed graph_numbers (fault_of (general_graph m logs s).answer)
unfolding general_graph
graph_listed m logs s = outcome_listed m.pattern.n (kept_columns m) logs s (general_graph_fault m logs s) (fault_listed m logs s)

-- ---- logs of dropped places
-- whether the value at a place is kept
abbrev pub kept_at : Matrix → ℕ → Bool
kept_at m k = is_kept (get_or m.values k nan)

fits_alike : (n : ℕ) (b : Bool) (x y : Float) → (b ≡ true → x ≡ y) → (not b || in_log_range n x) ≡ (not b || in_log_range n y)
fits_alike n true x y h = ap (in_log_range n) (h refl)
fits_alike n false x y h = refl

module _ (m : Matrix) (logs other : List Float) (s : Slices) (agree : Agree (kept_at m) logs other) where
  fault_alike : logs_fault m.pattern.n m.values logs ≡ logs_fault m.pattern.n m.values other
  unfolding logs_fault
  fault_alike =
      ap (λ (fault : ℕ → ℕ). first_of (length m.values) fault 0)
      (fun_ext (λ k. ap (λ (fine : Bool). unless fine cost_range)
      (fits_alike m.pattern.n (kept_at m k) (get_or logs k nan) (get_or other k nan) (agree_at (kept_at m) logs other agree k))))

  places_alike : (from count : ℕ) → logs_at logs (kept_places m.values from count) ≡ logs_at other (kept_places m.values from count)
  unfolding kept_places
  places_alike from zero = refl
  places_alike from (suc count) =
      keep_alike (kept_places m.values from count) (from + count) (λ k. get_or logs k nan) (λ k. get_or other k nan) (kept_at m (from + count))
      (places_alike from count) (agree_at (kept_at m) logs other agree (from + count))

  number_alike : input_fault m logs (lengths_fit m logs s) ≡ input_fault m other (lengths_fit m other s)
  unfolding input_fault slices_fit
  number_alike = rw (fault_alike, agree.same)

  -- what the call answers and leaves is the same for logs that agree at the kept places
  pub dropped_logs : general_graph m logs s ≡ general_graph m other s
  unfolding general_graph
  dropped_logs =
      ap (λ (fault : ℕ). outcome fault m.pattern.n (kept_columns m) logs s) number_alike
      ∙ outcome_alike m.pattern.n (kept_columns m) logs s other
      (λ c. places_alike (get_or m.pattern.col_ptr c 0) (get_or m.pattern.col_ptr (suc c) 0 - get_or m.pattern.col_ptr c 0))
      (input_fault m other (lengths_fit m other s))
