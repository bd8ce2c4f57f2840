-- What the inner functions require: digits of a double and their shift to a step, entries in steps.
use Rattle.std.specs.Prelude.{◌≡◌, cond, ◌&&◌, List, ℕ, ◌+◌, ◌-◌, ◌*◌, ◌/◌, ◌%◌, ◌^◌, ◌≤◌, ◌<◌, T, leb, eqb, length, get_or, Float}
use Rattle.std.specs.Float.{nan, binary64}
use Rattle.std.specs.Float.Ieee.{fits, of_bits, neg, le}
use Rattle.float64.specs.Number.{Number, magnitude}
use Rattle.match_check.specs.inner.Steps.{Stretch, Checkable}
use Rattle.match_check.specs.Check.{Claim}
use Rattle.match_gap.specs.Rounding.{zero_step, step, floor_in, ceiling_in, in_steps, lower, upper}
use Rattle.match_gap.specs.Gap.{most_of}
use Rattle.match_gap.specs.declared.Column.{Column}

-- the digits of the double with these bits, whose sign is not set
unfoldable pub digits_of : ℕ → ℕ
digits_of bits = cond (leb (2 ^ 52) bits) (bits % 2 ^ 52 + 2 ^ 52) bits

-- the power of two that its digits are counted in
unfoldable pub scale_of : ℕ → ℕ
scale_of bits = cond (leb (2 ^ 52) bits) (bits / 2 ^ 52 - 1) 0

-- bits of a finite double without its sign, of at most 2 ^ 49 steps of 2 ^ unit units
pub record Measured (bits unit : ℕ) : Type 0 where
  pub is_finite : bits < 2047 * 2 ^ 52
  pub units : unit ≤ 1074
  pub few : magnitude (of_bits binary64 bits) ≤ zero_step * 2 ^ unit

-- shifted by this much, its digits are its steps, rounded down, or up if a step less one digit is added first
pub record Shifted (bits unit shift : ℕ) : Type 0 where
  pub small : shift ≤ 60
  pub down : floor_in (2 ^ unit) (magnitude (of_bits binary64 bits)) ≡ digits_of bits / 2 ^ shift
  pub up : ceiling_in (2 ^ unit) (magnitude (of_bits binary64 bits)) ≡ (digits_of bits + (2 ^ shift - 1)) / 2 ^ shift

-- a finite double of at most 2 ^ 49 steps of 2 ^ unit units
pub record InSteps (unit : ℕ) (x : Float) : Type 0 where
  pub number : Number x
  pub few : magnitude x ≤ zero_step * 2 ^ unit

-- every number of a list is
abbrev pub AllIn : ℕ → List Float → Type 0
AllIn unit l = (i : ℕ) → i < length l → InSteps unit (get_or l i nan)

-- entries of a column with their costs and the duals of their rows, in steps
pub record Scannable (unit from to : ℕ) (row_idx : List ℕ) (cost u : List Float) : Type 0 where
  pub stretch : Stretch from to row_idx cost u
  pub units : unit ≤ 1074
  pub costs : AllIn unit cost
  pub duals : AllIn unit u

-- what a scan of these entries finds: the column's dual and its row are given
pub record Scanned (unit row : ℕ) (row_idx : List ℕ) (cost u : List Float) (dual : Float) (from to : ℕ) (r : Column)
    : Type 0 where
  pub excess : r.excess ≡ most_of (to - from)
      (λ k. upper (2 ^ unit) (get_or u (get_or row_idx k 0) nan) + upper (2 ^ unit) dual
      - (lower (2 ^ unit) (get_or cost k nan) + zero_step)) from 0
  pub lack : r.lack ≡ most_of (to - from)
      (λ k. cond (eqb (get_or row_idx k 0) row)
      (upper (2 ^ unit) (get_or cost k nan) + zero_step
      - (lower (2 ^ unit) (get_or u (get_or row_idx k 0) nan) + lower (2 ^ unit) dual)) 0) from 0
  pub few : (r.excess ≤ 2 ^ 51) × (r.lack ≤ 3 * 2 ^ 49)

-- two comparisons with the limit are the test of a double's steps
pub record StepLimit (digits : ℕ) (limit : Float) : Type 0 where
  pub test : (x : Float) → T (fits binary64 x) → (le (neg limit) x && le x limit) ≡ in_steps (step digits) x

-- an accepted graph, and a claim's lists, in steps
pub record Measurable (unit n : ℕ) (col_ptr row_idx : List ℕ) (cost : List Float) (c : Claim) : Type 0 where
  pub lists : Checkable n col_ptr row_idx cost c
  pub units : unit ≤ 1074
  pub costs : AllIn unit cost
  pub rows : AllIn unit c.u
  pub columns : AllIn unit c.v
