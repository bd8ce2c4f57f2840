-- SPECIFICATION 7.4: The entry of row i and column j is scaled by 2 ^ (exponent of row i + exponent of column j).
-- Values are taken by their bits. A refusal leaves them as they are.
use Rattle.std.specs.Prelude.{◌≡◌, Bool, ◌&&◌, List, ℕ, ◌+◌, ◌-◌, ◌<◌, eqb, ℤ, pos, ◌+ℤ◌, length, get_or}
use Rattle.refusal.specs.Refusal.{accepted, exponent_range, value_not_normal}
use Rattle.refusal.specs.Listed.{OneOf, apply_numbers}
use Rattle.slices.specs.Lists.{tabulate}
use Rattle.slices.specs.Outcome.{Outcome, outcome_is, refusing, as_number}
use Rattle.sparse.specs.Pattern.{Pattern, row_of, column_of, start, end}
use Rattle.sparse.specs.Fault.{unless, or_else, first_of}
use Rattle.sparse.specs.Validate.{pattern_fault}
use Rattle.exponents_powers.specs.Power.{Exponents, within_limit, scalable, scaled_bits, ScaledExactly}

abbrev pub exponent_at : List ℤ → ℕ → ℤ
exponent_at l i = get_or l i (pos 0)

-- ---- refusals

abbrev pub lengths_fit : Pattern → Exponents → ℕ → Bool
lengths_fit m e values =
    eqb (length m.col_ptr) (m.n + 1)
    && (eqb values (length m.row_idx) && (eqb (length e.rows) m.n && eqb (length e.columns) m.n))

-- 43 of one list
unfoldable pub limit_fault : List ℤ → ℕ
limit_fault l = first_of (length l) (λ i. unless (within_limit (exponent_at l i)) exponent_range) 0

-- 46 at place k, whose column has the exponent e
abbrev pub place_fault : List ℕ → List ℤ → ℤ → List ℕ → ℕ → ℕ
place_fault rows r e values k =
    unless (scalable (get_or values k 0) (exponent_at r (get_or rows k 0) +ℤ e)) value_not_normal

unfoldable pub column_fault : List ℕ → List ℤ → ℤ → List ℕ → ℕ → ℕ → ℕ
column_fault rows r e values from to = first_of (to - from) (place_fault rows r e values) from

unfoldable pub values_fault : Pattern → Exponents → List ℕ → ℕ
values_fault m e values =
    first_of m.n
    (λ j. column_fault m.row_idx e.rows (exponent_at e.columns j) values (start m j) (end m j))
    0

unfoldable pub apply_fault : Pattern → Exponents → List ℕ → ℕ
apply_fault m e values =
    or_else (pattern_fault m (lengths_fit m e (length values)))
    (or_else (limit_fault e.rows) (or_else (limit_fault e.columns) (values_fault m e values)))

-- ---- what is left

-- the exponents of the row and of the column of place k, added
abbrev pub shift_at : Pattern → Exponents → ℕ → ℤ
shift_at m e k = exponent_at e.rows (row_of m k) +ℤ exponent_at e.columns (column_of m k)

unfoldable pub scaled_values : Pattern → Exponents → List ℕ → List ℕ
scaled_values m e values = tabulate (length values) (λ k. scaled_bits (get_or values k 0) (shift_at m e k))

-- what `apply_exponents` does: the number answered, and the values left
unfoldable pub apply_exponents : Pattern → Exponents → List ℕ → Outcome ℕ (List ℕ)
apply_exponents m e values =
    refusing as_number (apply_fault m e values) (outcome_is accepted (scaled_values m e values)) values

-- for an accepted call: each number left is the old one times 2 ^ (exponent of its row + exponent of its column),
-- exactly
abbrev pub Exact : Pattern → Exponents → List ℕ → ℕ → List ℕ → Type 0
Exact m e before number after =
    number ≡ accepted → (k : ℕ) → k < length before → ScaledExactly (get_or before k 0) (shift_at m e k) (get_or after k 0)

-- ---- all that `apply_exponents` promises, of the matrix, the exponents, the values lent, its answer r and the values
-- left; and `suontarvi_apply_exponents`
pub record Promises (m : Pattern) (e : Exponents) (before : List ℕ) (r : ℕ) (after : List ℕ) : Type 0 where
  -- the number and the values left are the definition's
  pub outcome : outcome_is r after ≡ apply_exponents m e before
  -- the number is one of the call's list
  pub number : OneOf apply_numbers r
  -- an accepted call scales every value exactly
  pub exact : Exact m e before r after
