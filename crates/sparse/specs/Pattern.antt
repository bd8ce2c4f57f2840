-- SPECIFICATION 4.1: Where the entries of a sparse matrix stand: column j has the places from `start p j` up to `end p
-- j`, and place k is of row `row_of p k`.
use Rattle.std.specs.Prelude.{List, ℕ, suc, ◌≤◌, ◌<◌, leb, length, get_or}
use Rattle.matching.specs.Sum.{sum_to, or_zero}
use Rattle.matching.specs.Matching.{Bipartite}

-- n rows and n columns
pub record Pattern : Type 0 where
  pub n : ℕ
  pub col_ptr : List ℕ
  pub row_idx : List ℕ

-- the pattern of the lent slices
abbrev pub pattern : ℕ → List ℕ → List ℕ → Pattern
pattern n col_ptr row_idx = record { n = n; col_ptr = col_ptr; row_idx = row_idx }

abbrev pub row_of : Pattern → ℕ → ℕ
row_of p k = get_or p.row_idx k 0

abbrev pub start : Pattern → ℕ → ℕ
start p j = get_or p.col_ptr j 0

abbrev pub end : Pattern → ℕ → ℕ
end p j = get_or p.col_ptr (suc j) 0

-- the number of entries
abbrev pub entries : Pattern → ℕ
entries p = length p.row_idx

-- the column of an entry: as many columns end at or before it
unfoldable pub column_of : Pattern → ℕ → ℕ
unfolding sum_to
column_of p k = sum_to p.n (λ j. or_zero (leb (end p j) k) 1)

-- the rows, columns and entries, of which matchings are made
abbrev pub bipartite : Pattern → Bipartite
bipartite p = record { n = p.n; entries = entries p; row = row_of p; col = column_of p }

-- entry k is in column j
pub record InColumn (p : Pattern) (j k : ℕ) : Type 0 where
  pub column : j < p.n
  pub above : start p j ≤ k
  pub below : k < end p j
