-- What the functions of a block promise: the bits of its numbers, the check of one candidate, and the roots.
use Rattle.std.specs.Prelude.{◌≡◌, ℕ, ◌+◌, ◌*◌, ◌/◌, ◌%◌, ◌^◌, ◌<◌, true, not, T, List, Float}
use Rattle.std.specs.Prelude.{from_bits, slice_index, slice_index_or, to_bits}
use Rattle.std.specs.Float.{nan, binary64}
use Rattle.std.specs.Float.Ieee.{lt, fits, nan_bits}
use Rattle.float64.specs.Constants as Constants
use Rattle.square_root.specs.Root.{value_of, sqrt_of}

-- b has the bits of x, if x is above zero, and never those of a NaN
abbrev pub BitsOf : Float → ℕ → Type 0
BitsOf x b = T (not (nan_bits binary64 b))
    × (lt Constants.zero x ≡ true → (b ≡ to_bits binary64 x) × T (fits binary64 x))

-- the digits of the double with these bits, doubled if its exponent is even
abbrev pub under_root : ℕ → ℕ
under_root b = (b % 2 ^ 52 + 2 ^ 52) * 2 ^ ((b / 2 ^ 52 + 1073) % 2)

-- the bits of a root with the digits p
abbrev pub root_bits : ℕ → ℕ → ℕ
root_bits b p = (b / 2 ^ 52 % 2048 + 1021) / 2 * 2 ^ 52 + p

-- the root of the double with these bits
abbrev pub root_by : ℕ → Float
root_by b = value_of (sqrt_of (from_bits binary64 b))

-- where nothing was counted, p has the digits of the root
abbrev pub RootDigits : ℕ → ℕ → ℕ → Type 0
RootDigits b p counted = counted ≡ 0 → from_bits binary64 (root_bits b p) ≡ root_by b

-- the bits of the numbers from place `from` on, as many as counted
pub record Taken (numbers : List Float) (from : ℕ) (bits : List ℕ) (count : ℕ) : Type 0 where
  pub at : (i : ℕ) → i < count → BitsOf (slice_index_or numbers (from + i) nan) (slice_index bits i)

-- none of the sixteen has the bits of a NaN
abbrev pub NoNans : List ℕ → Type 0
NoNans bits = (i : ℕ) → i < 16 → T (not (nan_bits binary64 (slice_index bits i)))

-- the first of the roots are those of the bits
pub record RootsBy (bits : List ℕ) (roots : List Float) (count : ℕ) : Type 0 where
  pub at : (i : ℕ) → i < count → slice_index_or roots i nan ≡ root_by (slice_index bits i)

-- the first of the roots are those of the numbers from place `from` on, where these are above zero
pub record Roots (numbers : List Float) (from : ℕ) (roots : List Float) (count : ℕ) : Type 0 where
  pub at : (i : ℕ) → i < count → lt Constants.zero (slice_index_or numbers (from + i) nan) ≡ true
      → slice_index_or roots i nan ≡ value_of (sqrt_of (slice_index_or numbers (from + i) nan))
