-- SPECIFICATION 10.1, what the factors achieve: the factors of an entry's row and column plus its log are at most 0,
-- and exactly 0 on every matched pair. These are the exact numbers that the doubles stand for: nothing here rounds. The
-- entries are the stored ones, of the lower triangle; entry (i, j) also stands for (j, i).
use Rattle.std.specs.Prelude.{◌≡◌, true, List, ◌⊎◌, ℕ, ◌<◌, ℤ, pos, ◌+ℤ◌, ◌≤ℤ◌, Float, length, get_or}
use Rattle.std.specs.Float.{nan}
use Rattle.float64.specs.Number.{Number, negative, signed, magnitude, IsWhole}
use Rattle.sparse.specs.Matrix.{Matrix}
use Rattle.matching.specs.Match.{Match}
use Rattle.sparse.specs.Pattern.{row_of, column_of}
use Rattle.mc64_symmetric.specs.Graph.{kept}
use Rattle.factors_mc64.specs.Factors.{argument}

-- the exact number that a finite double stands for, in units of 2 ^ -1074
unfoldable pub exact : Float → ℤ
exact x = signed (negative x) (magnitude x)

-- stored entry k is kept
pub record KeptEntry (m : Matrix) (k : ℕ) : Type 0 where
  pub stored : k < length m.pattern.row_idx
  pub is_kept : kept m k ≡ true

-- every log that is read is whole
abbrev pub WholeLogs : Matrix → List Float → Type 0
WholeLogs m logs = (k : ℕ) → KeptEntry m k → IsWhole (get_or logs k nan)

-- no log factor is held: each is (u + v - cmax) / 2; one that is held at 709 or -709 differs from that
pub record NoneHeld (n : ℕ) (c : Match Float) (factors : List Float) : Type 0 where
  pub unheld : (i : ℕ) → i < n
      → get_or factors i nan ≡ argument (get_or c.u i nan) (get_or c.v i nan) (get_or c.cmax i nan)

-- stored entry k joins i and j, as (i, j) or as (j, i)
abbrev pub Joins : Matrix → ℕ → ℕ → ℕ → Type 0
Joins m k i j = ((row_of m.pattern k ≡ i) × (column_of m.pattern k ≡ j)) ⊎
    ((row_of m.pattern k ≡ j) × (column_of m.pattern k ≡ i))

-- the factors of the entry's row and column plus its log
abbrev pub balance : Matrix → List Float → List Float → ℕ → ℤ
balance m logs factors k =
    (exact (get_or factors (row_of m.pattern k) nan) +ℤ exact (get_or factors (column_of m.pattern k) nan)) +ℤ exact
    (get_or logs k nan)

pub record Balanced (m : Matrix) (logs : List Float) (perm : List ℕ) (factors : List Float) : Type 0 where
  -- every factor is a finite double, and so is the log of every kept entry
  pub finite : (i : ℕ) → i < m.pattern.n → Number (get_or factors i nan)
  pub finite_logs : (k : ℕ) → KeptEntry m k → Number (get_or logs k nan)
  -- never above 0
  pub most : (k : ℕ) → KeptEntry m k → balance m logs factors k ≤ℤ pos 0
  -- each column's pair (perm j, j) is a kept entry
  pub pairs : (j : ℕ) → j < m.pattern.n → (k : ℕ) × KeptEntry m k × Joins m k (get_or perm j 0) j
  -- on which the sum is exactly 0
  pub matched : (j k : ℕ) → j < m.pattern.n → KeptEntry m k → Joins m k (get_or perm j 0) j
      → balance m logs factors k ≡ pos 0
