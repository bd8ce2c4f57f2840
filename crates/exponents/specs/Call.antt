-- SPECIFICATION 7.3: What `exponents` answers and leaves: 1, 3, then 43 of the row factors and of the column factors. A
-- refusal leaves both slices as they are.
use Rattle.std.specs.Prelude.{◌≡◌, Bool, ◌&&◌, List, [], ◌∷◌, map, ℕ, eqb, ℤ, Float, length, get_or}
use Rattle.std.specs.Float.{nan, binary64}
use Rattle.std.specs.Float.Ieee.{sub}
use Rattle.refusal.specs.Refusal.{accepted, exponent_range}
use Rattle.refusal.specs.Listed.{OneOf, exponent_numbers}
use Rattle.slices.specs.Outcome.{Outcome, outcome_is, refusing, as_number}
use Rattle.sparse.specs.Fault.{unless, or_else, first_of}
use Rattle.sparse.specs.Validate.{size_fault}
use Rattle.exponents_powers.specs.Power.{Exponents, exponents}
use Rattle.exponents.specs.Exponent.{exponent_of, factor_fits}

-- the duals of a match, and the largest log of each column
pub record Duals : Type 0 where
  pub u : List Float
  pub v : List Float
  pub cmax : List Float

abbrev pub duals : List Float → List Float → List Float → Duals
duals u v cmax = record { u = u; v = v; cmax = cmax }

-- v - cmax, one rounded difference each
unfoldable pub differences : List Float → List Float → List Float
differences [] cmax = []
differences (x ∷ v) [] = []
differences (x ∷ v) (c ∷ cmax) = sub binary64 x c ∷ differences v cmax

abbrev pub row_factors : Duals → List Float
row_factors d = d.u

abbrev pub column_factors : Duals → List Float
column_factors d = differences d.v d.cmax

-- ---- refusals

unfoldable pub lengths_fit : ℕ → Duals → ℕ → ℕ → Bool
lengths_fit n d rows columns =
    eqb (length d.u) n
    && (eqb (length d.v) n && (eqb (length d.cmax) n && (eqb rows n && eqb columns n)))

-- 43 of one list of factors
unfoldable pub factors_fault : List Float → ℕ
factors_fault l = first_of (length l) (λ i. unless (factor_fits (get_or l i nan)) exponent_range) 0

unfoldable pub exponents_fault : ℕ → Duals → ℕ → ℕ → ℕ
exponents_fault n d rows columns =
    or_else (size_fault n 0 0 (lengths_fit n d rows columns))
    (or_else (factors_fault (row_factors d)) (factors_fault (column_factors d)))

-- ---- what is left

-- the exponents of the factors
abbrev pub set_of : Duals → Exponents
set_of d = exponents (map exponent_of (row_factors d)) (map exponent_of (column_factors d))

-- what `exponents` does: the number answered, and the two slices left
unfoldable pub make_exponents : ℕ → Duals → List ℤ → List ℤ → Outcome ℕ Exponents
make_exponents n d rows columns =
    refusing as_number (exponents_fault n d (length rows) (length columns)) (outcome_is accepted (set_of d))
    (exponents rows columns)

-- ---- all that `exponents` promises, of the duals, what was lent, its answer r and what is left; and
-- `suontarvi_exponents`
pub record Promises (n : ℕ) (d : Duals) (rows columns : List ℤ) (r : ℕ) (rows_left columns_left : List ℤ) : Type 0 where
  -- the number and both slices left are the definition's
  pub outcome : outcome_is r (exponents rows_left columns_left) ≡ make_exponents n d rows columns
  -- the number is one of the call's list
  pub number : OneOf exponent_numbers r
