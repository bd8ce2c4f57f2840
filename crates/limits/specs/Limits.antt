-- SPECIFICATION 3: the limits of a call, and the number for none.
use Rattle.std.specs.Prelude.{ℕ}

-- the number for no row, no column and no entry: the Rust's usize::MAX
abbrev pub none : ℕ
none = 4294967295

-- the most columns
abbrev pub max_columns : ℕ
max_columns = 4096

-- the most entries of a general matrix or of a cost graph
abbrev pub max_general : ℕ
max_general = 262144

-- the most stored entries of a symmetric matrix
abbrev pub max_symmetric : ℕ
max_symmetric = 131072
