-- What the steps of the calls require and leave.
use Rattle.std.specs.Prelude.{◌≡◌, Bool, true, false, List, ℕ, ◌≤◌, ◌<◌, length, get_or, Float}
use Rattle.limits.specs.Limits.{max_columns}
use Rattle.matching.specs.Match.{Match}
use Rattle.factors_mc64.specs.Factors.{is_matched_row}
use Rattle.factors_mc64.specs.Calls.{Slices, row_or_none}

-- each of the first n of perm is a row or none
abbrev pub Rows : ℕ → List ℕ → Type 0
Rows n perm = (k : ℕ) → k < n → row_or_none n (get_or perm k 0) ≡ true

-- symmetric: slices of their lengths, perm of rows and none
pub record Accepted (n : ℕ) (c : Match Float) (s : Slices) : Type 0 where
  pub small : n ≤ max_columns
  pub perms : length c.perm ≡ n
  pub row_duals : length c.u ≡ n
  pub column_duals : length c.v ≡ n
  pub largest : length c.cmax ≡ n
  pub factors : length s.factors ≡ n
  pub words : length s.work ≡ n
  pub rows : Rows n c.perm

abbrev pub bit : Bool → ℕ
bit true = 1
bit false = 0

-- work has a 1 at every row among the first k of perm, else 0
pub record Marked (n : ℕ) (perm : List ℕ) (k : ℕ) (work : List ℕ) : Type 0 where
  pub words : length work ≡ n
  pub marks : (i : ℕ) → i < n → get_or work i 0 ≡ bit (is_matched_row perm i k)

-- unsymmetric: slices of their lengths
pub record SideRoom (n : ℕ) (u v cmax rows columns : List Float) : Type 0 where
  pub small : n ≤ max_columns
  pub row_duals : length u ≡ n
  pub column_duals : length v ≡ n
  pub largest : length cmax ≡ n
  pub row_room : length rows ≡ n
  pub column_room : length columns ≡ n
