-- SPECIFICATION 7.3 and 7.4: for a complete match every scaled magnitude is below 2 and every matched one above 1/4.
-- Said of exact numbers: `entry_magnitude` is a size in units of 2 ^ -1074, 1 is `units_per_one` of them, and 2 ^ shift is
-- the fraction up shift / down shift, whose denominator is multiplied out.
use Rattle.std.specs.Prelude.{◌≡◌, true, List, map, ◌⊎◌, ℕ, ◌*◌, ◌<◌, ℤ, Float, length, get_or}
use Rattle.std.specs.Float.{nan, binary64}
use Rattle.std.specs.Float.Ieee.{up, down, of_bits}
use Rattle.slices.specs.Outcome.{outcome_is}
use Rattle.float64.specs.Number.{units_per_one, magnitude}
use Rattle.sparse.specs.Matrix.{Matrix}
use Rattle.sparse.specs.Pattern.{column_of}
use Rattle.mc64_general.specs.Graph.{is_kept}
use Rattle.refusal.specs.Refusal.{accepted}
use Rattle.exponents_powers.specs.Power.{Exponents, exponents}
use Rattle.exponents_apply.specs.Apply.{shift_at}
use Rattle.exponents_apply.specs.Apply.{apply_exponents}

-- ---- entries
-- the value of stored entry k is finite and not zero
pub record KeptEntry (m : Matrix) (k : ℕ) : Type 0 where
  pub stored : k < length m.pattern.row_idx
  pub nonzero : is_kept (get_or m.values k nan) ≡ true

-- its column j is matched with its row, perm j
abbrev pub IsMatched : Matrix → List ℕ → ℕ → Type 0
IsMatched m perm k = get_or perm (column_of m.pattern k) 0 ≡ get_or m.pattern.row_idx k 0

-- its mirror is matched: perm of its row, as a column, is its column
abbrev pub IsMirrorMatched : Matrix → List ℕ → ℕ → Type 0
IsMirrorMatched m perm k = get_or perm (get_or m.pattern.row_idx k 0) 0 ≡ column_of m.pattern k

-- the magnitude of entry k before scaling
abbrev pub entry_magnitude : Matrix → ℕ → ℕ
entry_magnitude m k = magnitude (get_or m.values k nan)

-- ---- the bounds
-- a size is below 2; `one` is the size of 1
abbrev pub BelowTwo : ℕ → ℕ → Type 0
BelowTwo size one = size < 2 * one

-- it is above 1/4
abbrev pub AboveQuarter : ℕ → ℕ → Type 0
AboveQuarter size one = one < 4 * size

-- ---- the exponents
-- a magnitude times 2 ^ shift is within a bound
abbrev pub Scaled : (ℕ → ℕ → Type 0) → ℕ → ℤ → Type 0
Scaled Bound size shift = Bound (size * up shift) (units_per_one * down shift)

-- every stored entry that e scales is below 2, and every kept one of those named above 1/4
pub record Within (m : Matrix) (named : ℕ → Type 0) (e : Exponents) : Type 0 where
  pub below : (k : ℕ) → k < length m.pattern.row_idx
      → Scaled BelowTwo (entry_magnitude m k) (shift_at m.pattern e k)
  pub above : (k : ℕ) → KeptEntry m k → named k → Scaled AboveQuarter (entry_magnitude m k) (shift_at m.pattern e k)

-- a general matrix: the matched entries are above 1/4, and each column's pair (perm j, j) is an entry
pub record Bounded (m : Matrix) (perm : List ℕ) (e : Exponents) : Type 0 where
  pub entries : Within m (IsMatched m perm) e
  pub pairs : (j : ℕ) → j < m.pattern.n
      → (k : ℕ) × KeptEntry m k × (column_of m.pattern k ≡ j) × IsMatched m perm k

-- the exponents of the mirrors: the stored entry (i, j) also stands for (j, i), so rows and columns are exchanged
abbrev pub swapped : Exponents → Exponents
swapped e = exponents e.columns e.rows

-- a symmetric matrix, stored as its lower triangle: the same for its entries and their mirrors, and each column's pair
-- (perm j, j) is an entry or the mirror of one
pub record SymmetricBounded (m : Matrix) (perm : List ℕ) (e : Exponents) : Type 0 where
  pub entries : Within m (IsMatched m perm) e
  pub mirrors : Within m (IsMirrorMatched m perm) (swapped e)
  pub pairs : (j : ℕ) → j < m.pattern.n
      → (k : ℕ) × KeptEntry m k × (((column_of m.pattern k ≡ j) × IsMatched m perm k)
      ⊎ ((get_or m.pattern.row_idx k 0 ≡ j) × IsMirrorMatched m perm k))

-- ---- the values that are left, taken by their bits
pub record LeftWithin (m : Matrix) (named : ℕ → Type 0) (left : List ℕ) : Type 0 where
  pub below : (k : ℕ) → k < length m.pattern.row_idx
      → BelowTwo (magnitude (of_bits binary64 (get_or left k 0))) units_per_one
  pub above : (k : ℕ) → KeptEntry m k → named k → AboveQuarter (magnitude (of_bits binary64 (get_or left k 0))) units_per_one

-- the stored entries
abbrev pub LeftBounded : Matrix → List ℕ → List ℕ → Type 0
LeftBounded m perm left = LeftWithin m (IsMatched m perm) left

-- their mirrors
abbrev pub LeftMirrors : Matrix → List ℕ → List ℕ → Type 0
LeftMirrors m perm left = LeftWithin m (IsMirrorMatched m perm) left

-- what e does to a general matrix whose values have these bits: the exact bounds, and the bounds of what
-- `apply_exponents` leaves if it accepts
pub record Scales (m : Matrix) (bits perm : List ℕ) (e : Exponents) : Type 0 where
  pub bounded : Bounded m perm e
  pub left : (number : ℕ) (values : List ℕ) → outcome_is number values ≡ apply_exponents m.pattern e bits
      → number ≡ accepted → LeftBounded m perm values

-- ---- both triangles of a symmetric matrix as a general one
-- place l holds the value x, at row i and column j
pub record HoldsAt (full : Matrix) (x : Float) (i j l : ℕ) : Type 0 where
  pub stored : l < length full.pattern.row_idx
  pub value : get_or full.values l nan ≡ x
  pub row : get_or full.pattern.row_idx l 0 ≡ i
  pub column : column_of full.pattern l ≡ j

-- place l holds stored entry k, or its mirror
abbrev pub HoldsEntry : Matrix → Matrix → ℕ → ℕ → Type 0
HoldsEntry m full k l =
    HoldsAt full (get_or m.values k nan) (get_or m.pattern.row_idx k 0) (column_of m.pattern k) l

abbrev pub HoldsMirror : Matrix → Matrix → ℕ → ℕ → Type 0
HoldsMirror m full k l =
    HoldsAt full (get_or m.values k nan) (column_of m.pattern k) (get_or m.pattern.row_idx k 0) l

-- there are as many columns, each entry and each mirror has its place, and no place holds anything else
pub record GeneralForm (m full : Matrix) : Type 0 where
  pub columns : full.pattern.n ≡ m.pattern.n
  pub entry : (k : ℕ) → k < length m.pattern.row_idx → (l : ℕ) × HoldsEntry m full k l
  pub mirror : (k : ℕ) → k < length m.pattern.row_idx → (l : ℕ) × HoldsMirror m full k l
  pub each : (l : ℕ) → l < length full.pattern.row_idx
      → (k : ℕ) × (k < length m.pattern.row_idx) × (HoldsEntry m full k l ⊎ HoldsMirror m full k l)

-- what e does to a symmetric matrix, scaled in either way: `apply_exponents` takes the stored triangle as a general
-- matrix, once with e for the stored entries and once with the exchanged set for their mirrors; or it takes the general
-- form, once, with e
pub record ScalesSymmetric (m : Matrix) (bits perm : List ℕ) (e : Exponents) : Type 0 where
  pub bounded : SymmetricBounded m perm e
  pub left : (number : ℕ) (values : List ℕ) → outcome_is number values ≡ apply_exponents m.pattern e bits
      → number ≡ accepted → LeftBounded m perm values
  pub left_mirrors : (number : ℕ) (values : List ℕ)
      → outcome_is number values ≡ apply_exponents m.pattern (swapped e) bits
      → number ≡ accepted → LeftMirrors m perm values
  pub general : (full : Matrix) (full_bits : List ℕ) → full.values ≡ map (of_bits binary64) full_bits
      → GeneralForm m full → Scales full full_bits perm e
