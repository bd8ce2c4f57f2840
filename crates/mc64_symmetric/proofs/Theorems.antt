-- The graph of an accepted matrix has strictly rising rows in every column, although nothing is sorted: a column's places of other columns
-- come before its own and rise by column, its own rise by row. So the match's test of pointers and rows accepts it, and its test of costs too.
-- And the building answers no number but those of its list.
use mathlib.Core.Path.{◌≡◌, refl, sym, ap, ◌∙◌, subst, fun_ext}
-- Logs of zeros do not matter: neither a fault nor a column of the graph uses one.
use mathlib.Core.Bool.{Bool, true, false, not, cond, ◌||◌, false≢true}
use mathlib.Core.List.{List}
use mathlib.Core.Logic.{◌⊎◌, inl, inr, ⊎_elim}
use Prim.Native.Nat.{ℕ, zero, suc, ◌≤◌, ◌<◌}
use native.Mathlib.Nat.{not-suc-le-zero}
use native.Mathlib.Decide.{ℕ_discrete, dec_lt}
use native.Mathlib.Omega.{arith}
use borrow.Author.Tests.{eqb-true, eq-eqb, ne_eqb}
use lib.Dec.{T, eqb}
use lib.Ieee.{Float, nan, binary64, fits, eq}
use lib.Ieee.Scale.{finite}
use lib.ListN.{length, get_or, length-map}
use Rattle.limits.specs.Limits.{max_symmetric}
use Rattle.float64.specs.Constants as Constants
use Rattle.sparse.specs.Columns.{Columns}
use Rattle.sparse.specs.Validate.{general_fault, symmetric_fault, size_fault}
use Rattle.sparse.specs.Fault.{unless, or_else, first_of}
use Rattle.sparse.proofs.First.{or-zero, all_zero, unless_holds}
use Rattle.slices.proofs.Bools.{both}
use Rattle.sparse.proofs.Listed.{Listed, test, or_listed, first_listed, within, part}
use Rattle.sparse.proofs.Theorems.{size_numbers, sizes_listed, symmetric_listed}
use Rattle.refusal.specs.Refusal.{cost_range, value_not_finite}
use Rattle.std.specs.Prelude.{Result}
use Rattle.refusal.specs.Number.{fault_of}
use Rattle.refusal.specs.Listed.{listed, symmetric_numbers, symmetric_graph_numbers}
use Rattle.slices.specs.Outcome.{outcome_is}
use Rattle.hungarian.specs.Accepted.{Accepted}
use Rattle.hungarian.specs.Graph.{graph_of}
use Rattle.cost_limit.specs.Range.{in_log_range}
use Rattle.sparse.specs.Matrix.{Matrix, matrix}
use Rattle.sparse.specs.Pattern.{row_of, column_of, InColumn}
use Rattle.sparse.proofs.Columns.{pointers_rise, in_column_lem, rows_apart}
use Rattle.mc64_columns.specs.Graphs.{Slices, slices_fit, AnswersBy, outcome, rows_of, logs_at, kept_before, graph_pointers, graph_rows, graph_costs}
use Rattle.mc64_columns.proofs.Kept.{keep_all, keep_rises, keep_alike}
use Rattle.mc64_columns.proofs.Graphs.{row_at, columns_rise, columns_accepted, columns_match}
use Rattle.mc64_columns.proofs.Calls.{in_list, outcome_listed, outcome_alike}
use Rattle.mc64_symmetric.specs.Graph.{kept, touches, places_to, places_of, other_end, mirrored_columns}
use Rattle.mc64_symmetric.specs.Call.{lengths_fit, value_fault, place_fault, values_fault, input_fault, cost_graph_fault, cost_graph, Promises}
use Rattle.mc64_columns.proofs.Agree.{Agree, agree_at}
use Rattle.mc64_symmetric.specs.inner.Steps.{Triangle}
use Rattle.mc64_symmetric.proofs.Places.{row_lower, pointer_few}
use Rattle.mc64_symmetric.proofs.Building.{pointer_entries}
use Rattle.mc64_symmetric.proofs.Calling.{ready}

-- ---- stored places
module _ (m : Matrix) (t : Triangle m) where
  -- every place is in its column
  pub stands : (k : ℕ) → k < length m.pattern.row_idx → InColumn m.pattern (column_of m.pattern k) k
  stands k h = in_column_lem m.pattern t.columns k h

  -- later places are not in earlier columns
  columns_climb : {a b p q : ℕ} → InColumn m.pattern a p → InColumn m.pattern b q → p < q → a ≤ b
  columns_climb {a} {b} i j l = go (dec_lt b a)
    where
      go : Dec (b < a) → a ≤ b
      go (yes h) =
          let u = pointers_rise m.pattern t.columns (suc b) a h (omega (arith, i.column)) in
          let z : ⊥ = omega (arith, u, i.above, j.below) in
          absurd z
      go (no h) = omega arith

  -- and in one column they have higher rows
  higher_row : {j p q : ℕ} → InColumn m.pattern j p → InColumn m.pattern j q → p < q → row_of m.pattern p < row_of m.pattern q
  higher_row {j} {p} {q} i k l = rows_apart m.pattern t.columns j p q i k l

-- ---- the places of one column
-- it takes the place from its row or from its column
abbrev pub Takes : Matrix → ℕ → ℕ → Type 0
Takes m c k = (row_of m.pattern k ≡ c) ⊎ (column_of m.pattern k ≡ c)

takes : (m : Matrix) (c k : ℕ) → touches m c k ≡ true → Takes m c k
takes m c k e = go (eqb (row_of m.pattern k) c) refl (both (kept m k) _ e).1
  where
    go : (b : Bool) → eqb (row_of m.pattern k) c ≡ b → (b || eqb (column_of m.pattern k) c) ≡ true
        → (row_of m.pattern k ≡ c) ⊎ (column_of m.pattern k ≡ c)
    go true q h = inl (eqb-true (row_of m.pattern k) c q)
    go false q h = inr (eqb-true (column_of m.pattern k) c h)

module _ (m : Matrix) (c : ℕ) where
  pub taken : (k i : ℕ) → i < length (places_to m c k) → (get_or (places_to m c k) i 0 < k) × Takes m c (get_or (places_to m c k) i 0)
      × (kept m (get_or (places_to m c k) i 0) ≡ true)
  unfolding places_to
  taken zero i h = absurd (not-suc-le-zero h)
  taken (suc k) i h =
      keep_all (places_to m c k) k (λ x. (x < suc k) × Takes m c x × (kept m x ≡ true)) i (touches m c k)
      (λ l. let t = taken k i l in (omega (arith, t.0), t.1, t.2)) (λ e. (omega arith, takes m c k e, (both (kept m k) _ e).0)) h

  in_order : (k i : ℕ) → suc i < length (places_to m c k) → get_or (places_to m c k) i 0 < get_or (places_to m c k) (suc i) 0
  unfolding places_to
  in_order zero i h = absurd (not-suc-le-zero h)
  in_order (suc k) i h = keep_rises (places_to m c k) k i (touches m c k) (λ j l. (taken k j l).0) (in_order k i) h

-- ---- the rows of one column
strict : {x y : ℕ} → x ≤ y → (x ≡ y → ⊥) → x < y
strict {x} {y} h n = go (ℕ_discrete x y)
  where
    go : Dec (x ≡ y) → x < y
    go (yes e) = absurd (n e)
    go (no e) = omega arith

module _ (m : Matrix) (t : Triangle m) (c : ℕ) where
  mirrored : (p : ℕ) → row_of m.pattern p ≡ c → other_end m c p ≡ column_of m.pattern p
  mirrored p e = rw (eq-eqb (row_of m.pattern p) c e)

  stored : (p : ℕ) → (row_of m.pattern p ≡ c → ⊥) → other_end m c p ≡ row_of m.pattern p
  stored p e = rw (ne_eqb (row_of m.pattern p) c e)

  -- a later place has a higher row
  higher : (p q : ℕ) → p < q → q < length m.pattern.row_idx → Takes m c p → Takes m c q → other_end m c p < other_end m c q
  higher p q l h a b = go (ℕ_discrete (row_of m.pattern p) c) (ℕ_discrete (row_of m.pattern q) c)
    where
      i : InColumn m.pattern (column_of m.pattern p) p
      i = stands m t p (omega arith)

      j : InColumn m.pattern (column_of m.pattern q) q
      j = stands m t q h

      climb : column_of m.pattern p ≤ column_of m.pattern q
      climb = columns_climb m t i j l

      together : column_of m.pattern p ≡ column_of m.pattern q → row_of m.pattern p < row_of m.pattern q
      together e = higher_row m t i (subst (λ (x : ℕ). InColumn m.pattern x q) (sym e) j) l

      own : (k : ℕ) → (row_of m.pattern k ≡ c) ⊎ (column_of m.pattern k ≡ c) → (row_of m.pattern k ≡ c → ⊥) → column_of m.pattern k ≡ c
      own k x n = ⊎_elim (λ e. absurd (n e)) (λ e. e) x

      apart : row_of m.pattern p ≡ c → row_of m.pattern q ≡ c → column_of m.pattern p ≡ column_of m.pattern q → ⊥
      apart e f s = omega (arith, together s)

      below : row_of m.pattern p ≡ c → column_of m.pattern p ≤ c
      below e = omega (arith, row_lower m t i)

      crossed : (row_of m.pattern p ≡ c → ⊥) → row_of m.pattern q ≡ c → column_of m.pattern p ≡ c → ⊥
      crossed e f s =
          let v : column_of m.pattern p ≡ column_of m.pattern q = omega (arith, row_lower m t j, climb) in
          omega (arith, together v, row_lower m t i)

      go : Dec (row_of m.pattern p ≡ c) → Dec (row_of m.pattern q ≡ c) → other_end m c p < other_end m c q
      go (yes e) (yes f) = rw (mirrored p e, mirrored q f) (strict climb (apart e f))
      go (yes e) (no f) = rw (mirrored p e, stored q f) (let s = own q b f in let r = strict (row_lower m t j) (λ z. f (sym z ∙ s)) in omega (arith, below e))
      go (no e) (yes f) = absurd (crossed e f (own p a e))
      go (no e) (no f) = rw (stored p e, stored q f) (together (own p a e ∙ sym (own q b f)))

-- ---- all columns
module _ (m : Matrix) (t : Triangle m) where
  -- a row is a row or a column of the triangle
  row_inside : (c i : ℕ) → c < m.pattern.n → i < length (rows_of (mirrored_columns m) c) → get_or (rows_of (mirrored_columns m) c) i 0 < m.pattern.n
  row_inside c i h l =
      let u : i < length (places_of m c) = rw length-map at l in
      let k = get_or (places_of m c) i 0 in
      let b = (taken m c (length m.pattern.row_idx) i u).0 in
      let r = t.columns.inside k b in
      let s = (stands m t k b).column in
      rw (row_at (mirrored_columns m) c i u) (go (eqb (row_of m.pattern k) c) r s)
    where
      go : {x y : ℕ} (b : Bool) → x < m.pattern.n → y < m.pattern.n → cond b y x < m.pattern.n
      go true h k = k
      go false h k = h

  row_rises : (c i : ℕ) → c < m.pattern.n → suc i < length (rows_of (mirrored_columns m) c) → get_or (rows_of (mirrored_columns m) c) i 0 < get_or
      (rows_of (mirrored_columns m) c) (suc i) 0
  row_rises c i h l =
      let u : suc i < length (places_of m c) = rw length-map at l in
      let p = taken m c (length m.pattern.row_idx) i (omega arith) in
      let q = taken m c (length m.pattern.row_idx) (suc i) u in
      rw (row_at (mirrored_columns m) c i (omega arith), row_at (mirrored_columns m) c (suc i) u)
      (higher m t c _ _ (in_order m c (length m.pattern.row_idx) i u) q.0 p.1 q.1)

  pub graph_rises : Columns m.pattern.n (graph_pointers (mirrored_columns m) m.pattern.n) (graph_rows (mirrored_columns m) m.pattern.n)
  graph_rises = columns_rise (mirrored_columns m) m.pattern.n row_inside row_rises

  entries_few : kept_before (mirrored_columns m) m.pattern.n ≤ 262144
  entries_few = omega (arith, pointer_entries m m.pattern.n, pointer_few m m.pattern.n, t.entries)

  module _ (logs : List Float) where
    -- the match's tests 1 to 7 find nothing wrong with the graph
    pub graph_accepted : general_fault (matrix m.pattern.n (graph_pointers (mirrored_columns m) m.pattern.n)
        (graph_rows (mirrored_columns m) m.pattern.n) (graph_costs (mirrored_columns m) logs m.pattern.n)) ≡ 0
    graph_accepted = columns_accepted (mirrored_columns m) m.pattern.n row_inside row_rises t.few entries_few logs

    -- and if the logs of kept places are doubles in range, the match's own test accepts the graph
    pub match_accepts : ((k : ℕ) → k < length m.pattern.row_idx → kept m k ≡ true → T (fits binary64 (get_or logs k nan)) ×
        (in_log_range m.pattern.n (get_or logs k nan) ≡ true))
        → Accepted (graph_of m.pattern.n (graph_pointers (mirrored_columns m) m.pattern.n) (graph_rows (mirrored_columns m) m.pattern.n)
        (graph_costs (mirrored_columns m) logs m.pattern.n))
    match_accepts fine =
        columns_match (mirrored_columns m) m.pattern.n row_inside row_rises t.few entries_few logs
        (λ c i h l. let p = taken m c (length m.pattern.row_idx) i l in fine (get_or (places_of m c) i 0) p.0 p.2)

-- a place of a column is stored, and kept
pub place_in : (m : Matrix) (c i : ℕ) → i < length (places_of m c) → let k = get_or (places_of m c) i 0 in (k < length m.pattern.row_idx) × (kept m k ≡ true)
place_in m c i h = let p = taken m c (length m.pattern.row_idx) i h in (p.0, p.2)

-- ---- the call
module _ (m : Matrix) (logs : List Float) (s : Slices) (fine : input_fault m logs (lengths_fit m logs s) ≡ 0) where
  -- the log of a kept place is in range
  pub kept_in_range : (k : ℕ) → k < length m.pattern.row_idx → kept m k ≡ true → in_log_range m.pattern.n (get_or logs k nan) ≡ true
  unfolding input_fault values_fault
  kept_in_range k h e =
      let z = or-zero (size_fault m.pattern.n max_symmetric (length m.pattern.row_idx) (lengths_fit m logs s)) _ fine in
      let o = or-zero (symmetric_fault m) _ z.1 in
      let places = (all_zero (place_fault m.pattern.n m.values logs) (length m.values)).0 o.1 in
      go (eq (get_or m.values k nan) Constants.zero) (or-zero (value_fault (get_or m.values k nan)) _ (places k (omega (arith, (ready m logs s fine).0.stored)))).1 e
    where
      go : (b : Bool) → unless (b || in_log_range m.pattern.n (get_or logs k nan)) cost_range ≡ 0 → not b ≡ true
          → in_log_range m.pattern.n (get_or logs k nan) ≡ true
      go true e h = absurd (false≢true h)
      go false e h = unless_holds (in_log_range m.pattern.n (get_or logs k nan)) cost_range (λ z. let y : ⊥ = omega arith in absurd y) e

  -- the match accepts the graph that an accepted call leaves
  pub graph_matched : ((k : ℕ) → k < length logs → T (fits binary64 (get_or logs k nan)))
      → Accepted (graph_of m.pattern.n (graph_pointers (mirrored_columns m) m.pattern.n) (graph_rows (mirrored_columns m) m.pattern.n)
      (graph_costs (mirrored_columns m) logs m.pattern.n))
  graph_matched doubles =
      let r = ready m logs s fine in
      match_accepts m r.0 logs (λ k h e. (doubles k (omega (arith, r.1.0.1)), kept_in_range k h e))

-- ---- refusals
pub input_listed : (m : Matrix) (logs : List Float) (lengths : Bool) → Listed symmetric_graph_numbers (input_fault m logs lengths)
unfolding listed within input_fault values_fault
input_listed m logs lengths =
    or_listed (part size_numbers (sizes_listed m.pattern.n max_symmetric (length m.pattern.row_idx) lengths) refl)
    (or_listed (part symmetric_numbers (symmetric_listed m) refl) (first_listed (length m.values) 0 refl place))
  where
    place : (k : ℕ) → Listed symmetric_graph_numbers (place_fault m.pattern.n m.values logs k)
    place k =
        or_listed (test (finite (get_or m.values k nan)) value_not_finite refl refl)
        (test (eq (get_or m.values k nan) Constants.zero || in_log_range m.pattern.n (get_or logs k nan)) cost_range refl refl)

pub fault_listed : (m : Matrix) (logs : List Float) (s : Slices) → Listed symmetric_graph_numbers (cost_graph_fault m logs s)
fault_listed m logs s = input_listed m logs (lengths_fit m logs s)

-- all that the call promises, from an outcome by its fault
pub promised : (m : Matrix) (logs : List Float) (s : Slices) {r : Result ℕ ℕ} {after : Slices}
    → (outcome_is r after ≡ outcome (cost_graph_fault m logs s) m.pattern.n (mirrored_columns m) logs s)
    × AnswersBy (cost_graph_fault m logs s) (kept_before (mirrored_columns m) m.pattern.n) r
    → Promises m logs s r after
unfolding cost_graph
promised m logs s p = record { outcome = p.0; answered = p.1; number = in_list (fault_listed m logs s) p.1 }

pub graph_listed : (m : Matrix) (logs : List Float) (s : Slices) → Listed symmetric_graph_numbers (fault_of (cost_graph m logs s).answer)
unfolding cost_graph
graph_listed m logs s = outcome_listed m.pattern.n (mirrored_columns m) logs s (cost_graph_fault m logs s) (fault_listed m logs s)

-- ---- logs of zeros
fits_alike : (n : ℕ) (b : Bool) (x y : Float) → (not b ≡ true → x ≡ y) → (b || in_log_range n x) ≡ (b || in_log_range n y)
fits_alike n true x y h = refl
fits_alike n false x y h = ap (in_log_range n) (h refl)

module _ (m : Matrix) (logs other : List Float) (s : Slices) (agree : Agree (kept m) logs other) where
  fault_alike : values_fault m.pattern.n m.values logs ≡ values_fault m.pattern.n m.values other
  unfolding values_fault
  fault_alike =
      ap (λ (fault : ℕ → ℕ). first_of (length m.values) fault 0)
      (fun_ext
      (λ k.
      ap (λ (fine : Bool). or_else (value_fault (get_or m.values k nan)) (unless fine cost_range))
      (fits_alike m.pattern.n (eq (get_or m.values k nan) Constants.zero) (get_or logs k nan) (get_or other k nan) (agree_at (kept m) logs other agree k))))

  places_alike : (c k : ℕ) → logs_at logs (places_to m c k) ≡ logs_at other (places_to m c k)
  unfolding places_to
  places_alike c zero = refl
  places_alike c (suc k) =
      keep_alike (places_to m c k) k (λ i. get_or logs i nan) (λ i. get_or other i nan) (touches m c k) (places_alike c k)
      (λ e. agree_at (kept m) logs other agree k (both (kept m k) _ e).0)

  number_alike : input_fault m logs (lengths_fit m logs s) ≡ input_fault m other (lengths_fit m other s)
  unfolding input_fault slices_fit
  number_alike = rw (fault_alike, agree.same)

  -- what the call answers and leaves is the same for logs that agree where the value is not zero
  pub dropped_logs : cost_graph m logs s ≡ cost_graph m other s
  unfolding cost_graph
  dropped_logs =
      ap (λ (fault : ℕ). outcome fault m.pattern.n (mirrored_columns m) logs s) number_alike
      ∙ outcome_alike m.pattern.n (mirrored_columns m) logs s other (λ c. places_alike c (length m.pattern.row_idx))
      (input_fault m other (lengths_fit m other s))
