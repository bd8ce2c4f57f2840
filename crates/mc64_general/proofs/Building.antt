-- One more column of the graph: its kept entries follow those before, their logs become costs, and what lies past it is as it was.
use mathlib.Core.Path.{◌≡◌, refl, sym, ap, ◌∙◌}
use mathlib.Core.List.{List, [], ◌∷◌, ◌++◌, append-nil, append_assoc}
use Prim.Native.Nat.{ℕ, zero, suc, ◌+◌, ◌-◌, ◌≤◌, ◌<◌}
use native.Mathlib.Numerals.{add-one}
use native.Mathlib.Omega.{arith}
use lib.Ieee.{Float, nan}
use lib.ListN.{length, get_or, take, drop, set, length-map, drop_of_length-le}
use lib.Seq.{drop_at, drop-drop, take_at}
use Rattle.sparse.specs.Columns.{Pointers}
use Rattle.mc64_columns.specs.Columns.{below, normalised}
use Rattle.sparse.specs.Matrix.{Matrix}
use Rattle.mc64_columns.specs.Graphs.{joined, rows_of, logs_of, kept_before, graph_rows, graph_costs}
use Rattle.mc64_columns.proofs.Graphs.{one_more, kept_next, costs_length}
use Rattle.mc64_general.specs.Graph.{kept_places, places_of, largest_log, kept_columns}
use Rattle.mc64_general.specs.inner.Steps.{written, Copied, BuiltTo, BuiltAll}
use Rattle.mc64_general.proofs.Copying.{kept_few, below_largest}

-- ---- lists
module _ {A : Type 0} where
  write_after : (front l xs : List A) (a : ℕ) → length front ≡ a → written (front ++ drop a l) a xs ≡ front ++ xs ++ drop (a + length xs) l
  write_after front l xs a e =
      let back : drop (a + length xs) (front ++ drop a l) ≡ drop (a + length xs) l =
      sym (drop-drop (length xs) a (front ++ drop a l)) ∙ ap (drop (length xs)) (drop_at front (drop a l) a e) ∙ drop-drop (length xs) a l in
      rw (take_at front (drop a l) a e, back) (sym (append_assoc front xs (drop (a + length xs) l)))

-- a stretch of the buffer, and another part in its place
abbrev pub stretch : ℕ → ℕ → List Float → List Float
stretch start end cost = take (end - start) (drop start cost)

abbrev pub replaced : ℕ → ℕ → List Float → List Float → List Float
replaced start end part cost = take start cost ++ (part ++ drop (end - start) (drop start cost))

-- a column of logs in the buffer, from a on
module _ (front column rest : List Float) (a end : ℕ) (starts : length front ≡ a) (ends : end ≡ a + length column) where
  from_column : drop a (front ++ column ++ rest) ≡ column ++ rest
  from_column = ap (drop a) (append_assoc front column rest) ∙ drop_at front (column ++ rest) a starts

  long : length column ≡ end - a
  long = omega arith

  stretch_at : stretch a end (front ++ column ++ rest) ≡ column
  stretch_at = ap (take (end - a)) from_column ∙ take_at column rest (end - a) long

  replaced_there : (part : List Float) → replaced a end part (front ++ column ++ rest) ≡ front ++ part ++ rest
  replaced_there part =
      let before : take a (front ++ column ++ rest) ≡ front = ap (take a) (append_assoc front column rest) ∙ take_at front (column ++ rest) a starts in
      let after : drop (end - a) (drop a (front ++ column ++ rest)) ≡ rest = ap (drop (end - a)) from_column ∙ drop_at column rest (end - a) long in
      rw (before, after) (sym (append_assoc front part rest))

-- ---- columns
-- no more entries than places
pub kept_below : {n : ℕ} (m : Matrix) → Pointers n m.pattern.col_ptr (length m.pattern.row_idx) → (c : ℕ) → c ≤ n
    → kept_before (kept_columns m) c ≤ get_or m.pattern.col_ptr c 0
unfolding joined
kept_below m p zero h = omega arith
kept_below m p (suc c) h =
    let from = get_or m.pattern.col_ptr c 0 in
    omega (
      arith,
      kept_next (kept_columns m) c,
      kept_below m p c (omega arith),
      kept_few m.values from
          (get_or m.pattern.col_ptr (suc c) 0 - from),
      p.rises c h,
    )

module _ (m : Matrix) (logs : List Float) (graph_ptr₀ graph_idx₀ : List ℕ) (cost₀ cmax₀ : List Float) where
  pub built_none : BuiltTo 0 m logs graph_ptr₀ graph_idx₀ cost₀ cmax₀ graph_ptr₀ graph_idx₀ cost₀ cmax₀ 0
  unfolding joined
  built_none = record { count = refl; pointers = refl; rows_built = refl; costs = refl; tops = refl }

  module _ {c : ℕ} {graph_ptr graph_idx : List ℕ} {cost cmax : List Float} {next : ℕ}
      (s : BuiltTo c m logs graph_ptr₀ graph_idx₀ cost₀ cmax₀ graph_ptr graph_idx cost cmax next) where
    next_column : {graph_idx' : List ℕ} {cost' part : List Float} {top : Float} {end : ℕ} → c < length graph_ptr₀ → c < length cmax₀
        → Copied (places_of m c) m.pattern.row_idx logs next graph_idx cost graph_idx' cost' end top → part ≡ below top (stretch next end cost')
        → BuiltTo (suc c) m logs graph_ptr₀ graph_idx₀ cost₀ cmax₀ (set graph_ptr c next) graph_idx' (replaced next end part cost') (set cmax c top) end
    unfolding joined
    next_column {graph_idx'} {cost'} {part} {top} {end} h l copied e =
        record {
          count = copied.count ∙ size;
          pointers = rw (s.pointers, s.count) (one_more (kept_before (kept_columns m)) graph_ptr₀ 0 c h);
          rows_built = rows_there_lem;
          costs = ap (replaced next end part) logs_there_lem ∙ replaced_there costs column (drop end cost₀) next end front ends part
              ∙ ap (λ (l : List Float). costs ++ l ++ drop end cost₀) part_costs
              ∙ ap (λ (i : ℕ). costs ++ normalised column ++ drop i cost₀) (copied.count ∙ size);
          tops = rw (s.tops, copied.largest) (one_more (λ i. largest_log (logs_of (kept_columns m) logs i)) cmax₀ nan c l);
        }
      where
        costs : List Float
        costs = graph_costs (kept_columns m) logs c

        column : List Float
        column = logs_of (kept_columns m) logs c

        size : next + length (places_of m c) ≡ kept_before (kept_columns m) (suc c)
        size = omega (arith, kept_next (kept_columns m) c, s.count)

        front : length costs ≡ next
        front = costs_length (kept_columns m) logs c ∙ sym s.count

        ends : end ≡ next + length column
        ends = copied.count ∙ ap (λ (i : ℕ). next + i) (sym (length-map (places_of m c) (λ k. get_or logs k nan)))

        rows_there_lem : graph_idx' ≡ graph_rows (kept_columns m) c ++ rows_of (kept_columns m) c ++ drop (kept_before (kept_columns m) (suc c)) graph_idx₀
        rows_there_lem =
            let e : next + length (rows_of (kept_columns m) c) ≡ kept_before (kept_columns m) (suc c) =
            omega (arith, size, length-map (places_of m c) (λ k. get_or m.pattern.row_idx k 0)) in
            copied.rows_there
            ∙ ap (λ (g : List ℕ). written g next (rows_of (kept_columns m) c))
            (s.rows_built ∙ ap (λ (i : ℕ). graph_rows (kept_columns m) c ++ drop i graph_idx₀) (sym s.count))
            ∙ write_after (graph_rows (kept_columns m) c) graph_idx₀ (rows_of (kept_columns m) c) next (sym s.count)
            ∙ ap (λ (i : ℕ). graph_rows (kept_columns m) c ++ rows_of (kept_columns m) c ++ drop i graph_idx₀) e

        logs_there_lem : cost' ≡ costs ++ column ++ drop end cost₀
        logs_there_lem =
            copied.logs_there
            ∙ ap (λ (g : List Float). written g next column) (s.costs ∙ ap (λ (i : ℕ). costs ++ drop i cost₀) (sym s.count))
            ∙ write_after costs cost₀ column next front ∙ ap (λ (i : ℕ). costs ++ column ++ drop i cost₀) (sym ends)

        part_costs : part ≡ normalised column
        part_costs = e ∙ ap (below top) (ap (stretch next end) logs_there_lem ∙ stretch_at costs column (drop end cost₀) next end front ends)
            ∙ ap (λ (t : Float). below t column) copied.largest ∙ below_largest column

    -- `part` is what `subtract` leaves of the column's stretch
    pub built_next : {graph_idx' : List ℕ} {cost' part : List Float} {top : Float} {end : ℕ} → c < length graph_ptr₀ → c < length cmax₀
        → let from = get_or m.pattern.col_ptr c 0 in
        Copied (kept_places m.values from (get_or m.pattern.col_ptr (c + 1) 0 - from)) m.pattern.row_idx logs next graph_idx cost graph_idx' cost' end top
        → part ≡ below top (stretch next end cost')
        → BuiltTo (c + 1) m logs graph_ptr₀ graph_idx₀ cost₀ cmax₀ (set graph_ptr c next) graph_idx' (replaced next end part cost') (set cmax c top) end
    built_next h l = rw (add-one c) (next_column h l)

  pub built_last : {graph_ptr graph_idx : List ℕ} {cost cmax : List Float} {next : ℕ} → let n = m.pattern.n in
      BuiltTo n m logs graph_ptr₀ graph_idx₀ cost₀ cmax₀ graph_ptr graph_idx cost cmax next → length graph_ptr₀ ≡ n + 1 → length cmax₀ ≡ n
      → BuiltAll m logs graph_idx₀ cost₀ (set graph_ptr n next) graph_idx cost cmax next
  built_last s h l =
      let n = m.pattern.n in
      record {
        count = s.count;
        pointers = rw (s.pointers, s.count) (one_more (kept_before (kept_columns m)) graph_ptr₀ 0 n (omega arith))
            ∙ none (joined (λ i. kept_before (kept_columns m) i ∷ []) (suc n)) graph_ptr₀ (suc n) (omega arith);
        rows_built = s.rows_built;
        costs = s.costs;
        tops = s.tops ∙ none (joined (λ i. largest_log (logs_of (kept_columns m) logs i) ∷ []) n) cmax₀ n (omega arith);
      }
    where
      none : {A : Type 0} (l k : List A) (i : ℕ) → length k ≤ i → l ++ drop i k ≡ l
      none l k i h = ap (λ (r : List _). l ++ r) (drop_of_length-le k {i = i} h) ∙ append-nil l
