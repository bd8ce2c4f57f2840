-- The entries of a graph of columns and the places that they are made of: every entry is made of a place (`made`), and every place of a column makes
-- one (`made_at`). Whatever the columns are.
use mathlib.Core.Path.{◌≡◌, refl, sym, ap, ◌∙◌, subst}
use mathlib.Core.List.{List}
use Prim.Native.Nat.{ℕ, suc, ◌+◌, ◌-◌, ◌≤◌, ◌<◌}
use native.Mathlib.Omega.{arith}
use lib.Ieee.{Float, nan, binary64, sub}
use lib.ListN.{length, get_or, length-map}
use Rattle.sparse.specs.Columns.{Columns}
use Rattle.sparse.specs.Pattern.{row_of, column_of, entries, start, InColumn}
use Rattle.hungarian.specs.Graph.{CostGraph, cost_of, graph_of}
use Rattle.sparse.proofs.Columns.{in_column_lem, in_entries, column-is}
use Rattle.mc64_columns.specs.Columns.{largest, normalised}
use Rattle.mc64_columns.specs.Graphs.{GraphColumns, rows_of, logs_of, kept_before, graph_pointers, graph_rows, graph_costs}
use Rattle.mc64_columns.proofs.Accepted.{cost_at}
use Rattle.mc64_columns.proofs.Graphs.{ones_at, joined_at, normalised_length, row_at, kept_next, costs_length}
use Rattle.mc64_columns.proofs.Kept.{map_at}

-- the graph of n columns
abbrev pub graph_by : ℕ → GraphColumns → List Float → CostGraph
graph_by n g logs = graph_of n (graph_pointers g n) (graph_rows g n) (graph_costs g logs n)

-- the largest log of column c
abbrev pub top_of : GraphColumns → List Float → ℕ → Float
top_of g logs c = largest (logs_of g logs c)

module _ (n : ℕ) (g : GraphColumns) (logs : List Float) (w : Columns n (graph_pointers g n) (graph_rows g n)) where
  abbrev graph : CostGraph
  graph = graph_by n g logs

  -- entry e of column c is made of place p
  pub record MadeOf (e c p : ℕ) : Type 0 where
    pub within : e < entries graph.pattern
    pub inside : c < n
    pub column : column_of graph.pattern e ≡ c
    pub row : row_of graph.pattern e ≡ g.row c p
    pub cost : cost_of graph e ≡ sub binary64 (top_of g logs c) (get_or logs p nan)
    pub number : ℕ
    pub stands : number < length (g.places c)
    pub place : get_or (g.places c) number 0 ≡ p

  start_is : (c : ℕ) → c ≤ n → start graph.pattern c ≡ kept_before g c
  start_is c h = ones_at (kept_before g) (suc n) c (omega arith)

  module _ (c i : ℕ) (h : c < n) (l : i < length (g.places c)) where
    abbrev entry : ℕ
    entry = kept_before g c + i

    abbrev place_number : ℕ
    place_number = get_or (g.places c) i 0

    stretch : c + suc (n - suc c) ≡ n
    stretch = omega arith

    in_stretch : InColumn graph.pattern c entry
    in_stretch = record { column = h; above = omega (arith, start_is c (omega arith)); below = omega (arith, start_is (suc c) h, kept_next g c) }

    row_is : row_of graph.pattern entry ≡ g.row c place_number
    row_is =
        subst (λ (x : ℕ). get_or (graph_rows g x) entry 0 ≡ get_or (rows_of g c) i 0) stretch (joined_at (rows_of g) 0 c (n - suc c) i (rw length-map l))
        ∙ row_at g c i l

    logged : i < length (logs_of g logs c)
    logged = rw length-map l

    cost_is : cost_of graph entry ≡ sub binary64 (top_of g logs c) (get_or logs place_number nan)
    unfolding normalised
    cost_is =
        ap (λ (x : ℕ). get_or (graph_costs g logs n) (x + i) nan) (sym (costs_length g logs c))
        ∙ subst (λ (x : ℕ). get_or (graph_costs g logs x) (length (graph_costs g logs c) + i) nan ≡ get_or (normalised (logs_of g logs c)) i nan) stretch
        (joined_at (λ x. normalised (logs_of g logs x)) nan c (n - suc c) i (rw (normalised_length (logs_of g logs c)) logged))
        ∙ cost_at (top_of g logs c) (logs_of g logs c) i logged
        ∙ ap (sub binary64 (top_of g logs c)) (map_at (λ k. get_or logs k nan) (g.places c) i nan l)

    pub made_at : (p : ℕ) → get_or (g.places c) i 0 ≡ p → MadeOf entry c p
    made_at p e =
        record {
          within = in_entries graph.pattern w c entry in_stretch;
          inside = h;
          column = column-is graph.pattern w c entry in_stretch;
          row = row_is ∙ ap (g.row c) e;
          cost = cost_is ∙ ap (λ (k : ℕ). sub binary64 (top_of g logs c) (get_or logs k nan)) e;
          number = i;
          stands = l;
          place = e;
        }

  -- every entry is made of a place
  pub made : (e : ℕ) → e < entries graph.pattern → (p : ℕ) × MadeOf e (column_of graph.pattern e) p
  made e h =
      let c = column_of graph.pattern e in
      let s = in_column_lem graph.pattern w e h in
      let i = e - kept_before g c in
      let lo : kept_before g c ≤ e = omega (arith, s.above, start_is c (omega (arith, s.column))) in
      let l : i < length (g.places c) = omega (arith, s.below, start_is (suc c) s.column, kept_next g c) in
      let q : kept_before g c + i ≡ e = omega arith in
      (get_or (g.places c) i 0, subst (λ (x : ℕ). MadeOf x c (get_or (g.places c) i 0)) q (made_at c i s.column l (get_or (g.places c) i 0) refl))
