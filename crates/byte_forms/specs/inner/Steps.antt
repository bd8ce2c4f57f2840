-- What the inner functions require and promise.
use Rattle.std.specs.Prelude.{◌≡◌, List, true, ℕ, ◌≤◌, ◌+◌, ◌*◌, length, Float}
use Rattle.slices.specs.Outcome.{Outcome, refusing, as_number}
use Rattle.matching.specs.Match.{Match}
use Rattle.factors_mc64.specs.Calls.{matching_fault}
use Rattle.hungarian.specs.Graph.{CostGraph}
use Rattle.hungarian.specs.Test.{graph_fault, graph_lengths}
use Rattle.hungarian_match.specs.Call.{Slices, answer_length}
use Rattle.byte_forms.specs.MatchBytes.{byte_columns, GraphBytes, MatchBytes, byte_entries, result_by, word_count}
use Rattle.byte_forms.specs.FactorBytes.{FactorBytes, factor_bytes, factors_laid}

-- what is answered for a match whose sizes are in order
unfoldable pub cache_result : ℕ → ℕ → Match Float → List ℕ → List ℕ → Outcome ℕ FactorBytes
unfolding factors_laid
cache_result n matched c factors unmatched =
    refusing as_number (matching_fault n matched c.perm) (factors_laid n matched c) (factor_bytes factors unmatched)

-- few columns, and three lists of k
pub record Duals {A : Type 0} (n k : ℕ) (u v cmax : List A) : Type 0 where
  pub columns : n ≤ byte_columns
  pub row_duals : length u ≡ k
  pub column_duals : length v ≡ k
  pub largest : length cmax ≡ k

-- the same for a graph whose sizes are in order
unfoldable pub graph_result : CostGraph → MatchBytes → Outcome ℕ MatchBytes
unfolding result_by
graph_result g old = result_by (graph_fault g true) g old

-- room for the bytes of these lists; as many columns as rows
pub record Laying (rows_of : List ℕ) (row_duals col_duals : List Float) (s : MatchBytes) : Type 0 where
  pub duals : length row_duals ≡ length col_duals
  pub perm : length s.perm ≡ 4 * length rows_of
  pub u : length s.u ≡ 8 * length row_duals
  pub v : length s.v ≡ 8 * length col_duals
  pub answer : length s.answer ≡ 8 * answer_length

-- room for the bytes of a match of n columns
pub record Roomy (n : ℕ) (s : MatchBytes) : Type 0 where
  pub perm : length s.perm ≡ 4 * n
  pub u : length s.u ≡ 8 * n
  pub v : length s.v ≡ 8 * n
  pub answer : length s.answer ≡ 8 * answer_length

-- slices for the match of a graph and the work, each of its length
pub record Fitting (g : CostGraph) (s : Slices) : Type 0 where
  pub graph : graph_lengths g ≡ true
  pub perm : length s.perm ≡ g.pattern.n
  pub u : length s.u ≡ g.pattern.n
  pub v : length s.v ≡ g.pattern.n
  pub work : length s.work ≡ 12 * g.pattern.n + 1
  pub fwork : length s.fwork ≡ 2 * g.pattern.n

-- a graph within the limits
pub record Small (g : CostGraph) : Type 0 where
  pub columns : g.pattern.n ≤ byte_columns
  pub lengths : graph_lengths g ≡ true

-- bytes of a graph within the limits
pub record Sized (b : GraphBytes) : Type 0 where
  pub columns : b.n ≤ byte_columns
  pub entries : word_count (length b.rows) ≤ byte_entries
  pub col_ptr : length b.col_ptr ≡ 4 * (b.n + 1)
  pub rows : length b.rows ≡ 4 * word_count (length b.rows)
  pub cost : length b.cost ≡ 8 * word_count (length b.rows)
