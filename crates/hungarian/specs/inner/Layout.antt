-- How the code's slices hold what the definition has in lists. The work slice of 12 · n + 1 words is cut into eleven
-- regions of n words, of which the last three are not used, and from word 11 · n on the rows of the heap by place.
use Rattle.std.specs.Prelude.{◌≡◌, List, ℕ, ◌+◌, ◌*◌, ◌≤◌, length, take, drop}
use Rattle.limits.specs.Limits.{max_columns}

-- the work slice of n columns
pub record Workspace (n : ℕ) (w : List ℕ) : Type 0 where
  pub words : length w ≡ 12 * n + 1
  pub small : n ≤ max_columns

-- region r of a slice: n words from word r · n on
unfoldable pub region : {A : Type 0} → ℕ → ℕ → List A → List A
region r n w = take n (drop (r * n) w)

-- ---- the regions of the work slice
-- the column of each row
abbrev pub iperm_at : ℕ
iperm_at = 0

-- the entry of each column
abbrev pub jperm_at : ℕ
jperm_at = 1

-- phases 1 and 2: the entry of each row's smallest cost
abbrev pub least_at : ℕ
least_at = 2

-- phase 3: the place from which a column is still to be searched
abbrev pub from_at : ℕ
from_at = 3

-- the parent column of each column in a search
abbrev pub pr_at : ℕ
pr_at = 4

-- the entry by which a column was reached
abbrev pub out_at : ℕ
out_at = 5

-- the rows touched, in order
abbrev pub touched_at : ℕ
touched_at = 6

-- the rows popped, in order
abbrev pub popped_at : ℕ
popped_at = 7

-- the rows of the heap by place, n + 1 words
abbrev pub heap_at : ℕ
heap_at = 11

-- ---- the regions of the work slice of doubles
-- phase 3: the least cost minus u of each column
abbrev pub value_at : ℕ
value_at = 1
