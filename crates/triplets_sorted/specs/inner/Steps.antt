-- The one pass over sorted triplets, for the contracts of its steps: what the first k triplets assemble to.
use Rattle.std.specs.Prelude.{◌≡◌, List, [], ◌++◌, map, ℕ, zero, suc, ◌+◌, ◌-◌, ◌*◌, ◌≤◌, ◌<◌, Float, length, get_or}
use Rattle.std.specs.Prelude.{take, drop}
use Rattle.limits.specs.Limits.{max_columns, max_general}
use Rattle.slices.specs.Lists.{keep}
use Rattle.triplets.specs.Built.{Triplets, filled, sum_at}
use Rattle.triplets.specs.Order.{Below}

-- ---- the order: by column, then by row
abbrev pub position : List ℕ → List ℕ → ℕ → ℕ
position rows cols k = get_or cols k 0 * max_columns + get_or rows k 0

-- no triplet comes before the one that it follows
abbrev pub Sorted : List ℕ → List ℕ → Type 0
Sorted rows cols = (k : ℕ) → suc k < length rows → position rows cols k ≤ position rows cols (suc k)

-- triplet k has the position of the one before it
abbrev pub Repeat : List ℕ → List ℕ → ℕ → Type 0
Repeat rows cols k = (0 < k) × (position rows cols k ≡ position rows cols (k - 1))

-- ---- the matrix of the first k triplets, as `built` has that of all
-- the rows below i at which column j has one of them
unfoldable pub column_to : List ℕ → List ℕ → ℕ → ℕ → ℕ → List ℕ
column_to rows cols k j zero = []
column_to rows cols k j (suc i) = column_to rows cols k j i ++ keep (filled rows cols i j k) i

-- the rows and the values of the columns before j, n rows each
unfoldable pub rows_to : List ℕ → List ℕ → ℕ → ℕ → ℕ → List ℕ
rows_to rows cols k n zero = []
rows_to rows cols k n (suc j) = rows_to rows cols k n j ++ column_to rows cols k j n

unfoldable pub values_to : Triplets → ℕ → ℕ → ℕ → List Float
values_to t k n zero = []
values_to t k n (suc j) = values_to t k n j ++ map (λ i. sum_at t i j k) (column_to t.rows t.cols k j n)

-- ---- what the slices hold
-- as many columns as rows, each below the limit
pub record Ready (rows cols : List ℕ) : Type 0 where
  pub entries : length rows ≤ max_general
  pub pairs : length cols ≡ length rows
  pub rows_in : Below max_columns rows
  pub cols_in : Below max_columns cols

-- after k triplets: their entries, `kept` of them, at the front, and how many each column has
pub record Taken (t : Triplets) (k kept : ℕ) (col_ptr row_idx : List ℕ) (values : List Float) : Type 0 where
  pub few : kept ≤ k
  pub count : kept ≡ length (rows_to t.rows t.cols k max_columns max_columns)
  pub rows_front : take kept row_idx ≡ rows_to t.rows t.cols k max_columns max_columns
  pub values_front : take kept values ≡ values_to t k max_columns max_columns
  pub counts : (c : ℕ) → c < length col_ptr → get_or col_ptr c 0 ≡ length (column_to t.rows t.cols k c max_columns)

-- from `before` entries to `after`: there are no fewer, and what lies past them is as it was
pub record Rest (before after : ℕ) (row_idx₀ : List ℕ) (values₀ : List Float) (row_idx : List ℕ) (values : List Float)
    : Type 0 where
  pub grown : before ≤ after
  pub rows_rest : drop after row_idx ≡ drop after row_idx₀
  pub values_rest : drop after values ≡ drop after values₀
