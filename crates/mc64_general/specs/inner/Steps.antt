-- How the graph is built, for the contracts of its steps: each column's kept entries are written after those before,
-- then their logs are subtracted from the largest there.
use Rattle.std.specs.Prelude.{◌≡◌, List, ◌∷◌, [], ◌++◌, map, ℕ, suc, ◌+◌, Float, length, get_or, take, drop}
use Rattle.limits.specs.Limits.{max_general}
use Rattle.sparse.specs.Columns.{Pointers, Sizes}
use Rattle.sparse.specs.Matrix.{Matrix}
use Rattle.mc64_columns.specs.Graphs.{joined, logs_at, kept_before, graph_rows, graph_costs, graph_largest}
use Rattle.mc64_general.specs.Graph.{largest_log, kept_columns}

-- a matrix whose sizes and pointers were accepted
pub record Accepted (m : Matrix) (logs : List Float) : Type 0 where
  pub sizes : Sizes max_general m
  pub pointers : Pointers m.pattern.n m.pattern.col_ptr (length m.pattern.row_idx)
  pub logged : length logs ≡ length m.pattern.row_idx

-- and the slices of the graph have room for it
pub record Roomy (n : ℕ) (rows graph_ptr graph_idx : List ℕ) (cost cmax : List Float) : Type 0 where
  pub pointer_room : length graph_ptr ≡ n + 1
  pub row_room : length graph_idx ≡ length rows
  pub cost_room : length cost ≡ length rows
  pub cmax_room : length cmax ≡ n

-- a list with these elements from `at` on
abbrev pub written : {A : Type 0} → List A → ℕ → List A → List A
written l at xs = take at l ++ (xs ++ drop (at + length xs) l)

-- the rows at these places
abbrev pub rows_at : List ℕ → List ℕ → List ℕ
rows_at rows places = map (λ k. get_or rows k 0) places

-- these places' rows and logs are written from `at` on, up to `next`, and `top` is the largest of the logs
pub record Copied (places rows : List ℕ) (logs : List Float) (at : ℕ) (graph_idx₀ : List ℕ) (cost₀ : List Float)
    (graph_idx : List ℕ) (cost : List Float) (next : ℕ) (top : Float) : Type 0 where
  pub count : next ≡ at + length places
  pub rows_there : graph_idx ≡ written graph_idx₀ at (rows_at rows places)
  pub logs_there : cost ≡ written cost₀ at (logs_at logs places)
  pub largest : top ≡ largest_log (logs_at logs places)

-- the slices hold the first k columns of the graph
pub record BuiltTo (k : ℕ) (m : Matrix) (logs : List Float) (graph_ptr₀ graph_idx₀ : List ℕ) (cost₀ cmax₀ : List Float)
    (graph_ptr graph_idx : List ℕ) (cost cmax : List Float) (next : ℕ) : Type 0 where
  pub count : next ≡ kept_before (kept_columns m) k
  pub pointers : graph_ptr ≡ joined (λ c. kept_before (kept_columns m) c ∷ []) k ++ drop k graph_ptr₀
  pub rows_built : graph_idx ≡ graph_rows (kept_columns m) k ++ drop (kept_before (kept_columns m) k) graph_idx₀
  pub costs : cost ≡ graph_costs (kept_columns m) logs k ++ drop (kept_before (kept_columns m) k) cost₀
  pub tops : cmax ≡ graph_largest (kept_columns m) logs k ++ drop k cmax₀

-- and all n of them, with the last pointer
pub record BuiltAll (m : Matrix) (logs : List Float) (graph_idx₀ : List ℕ) (cost₀ : List Float)
    (graph_ptr graph_idx : List ℕ) (cost cmax : List Float) (kept : ℕ) : Type 0 where
  pub count : kept ≡ kept_before (kept_columns m) m.pattern.n
  pub pointers : graph_ptr ≡ joined (λ c. kept_before (kept_columns m) c ∷ []) (suc m.pattern.n)
  pub rows_built : graph_idx ≡ graph_rows (kept_columns m) m.pattern.n
      ++ drop (kept_before (kept_columns m) m.pattern.n) graph_idx₀
  pub costs : cost ≡ graph_costs (kept_columns m) logs m.pattern.n
      ++ drop (kept_before (kept_columns m) m.pattern.n) cost₀
  pub tops : cmax ≡ graph_largest (kept_columns m) logs m.pattern.n
