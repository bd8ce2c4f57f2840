-- SPECIFICATION 4.1: A matrix stored by columns, as its lent slices hold it: where its entries stand, and their values.
use Rattle.std.specs.Prelude.{List, ℕ, Float}
use Rattle.sparse.specs.Pattern.{Pattern, pattern}

-- place k holds value k
pub record Matrix : Type 0 where
  pub pattern : Pattern
  pub values : List Float

-- the matrix of the lent slices
abbrev pub matrix : ℕ → List ℕ → List ℕ → List Float → Matrix
matrix n col_ptr rows values = record { pattern = pattern n col_ptr rows; values = values }
