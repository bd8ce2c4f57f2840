-- A match as calls pass it on: the Rust's `Mc64Cache` without the matched count. Its numbers are doubles in
-- computations, and bits of doubles in files.
use Rattle.std.specs.Prelude.{List, ℕ}

-- perm has the row of each column or none, u and v the duals of rows and of columns, cmax the largest log of each
-- column
pub record Match (N : Type 0) : Type 0 where
  pub perm : List ℕ
  pub u : List N
  pub v : List N
  pub cmax : List N

abbrev pub match_of : {N : Type 0} → List ℕ → List N → List N → List N → Match N
match_of perm u v cmax = record { perm = perm; u = u; v = v; cmax = cmax }
