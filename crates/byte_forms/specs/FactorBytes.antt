-- SPECIFICATION 12.3: The log factors as bytes, low byte first: the factors of factors_mc64, of the words and doubles
-- that the bytes stand for.
use Rattle.std.specs.Prelude.{Bool, ◌&&◌, List, [], ◌∷◌, ℕ, ◌-◌, ◌*◌, leb, eqb, length, Float}
use Rattle.refusal.specs.Refusal.{accepted, too_many_columns, slice_length}
use Rattle.slices.specs.Outcome.{Outcome, outcome_is, refusing, as_number}
use Rattle.sparse.specs.Fault.{unless, or_else}
use Rattle.matching.specs.Match.{Match, match_of}
use Rattle.factors_mc64.specs.Factors.{symmetric_factors, row_factors, column_factors}
use Rattle.factors_mc64.specs.Calls.{matching_fault}
use Rattle.byte_numbers.specs.Bytes.{words, doubles, word_bytes, double_bytes}
use Rattle.byte_forms.specs.MatchBytes.{byte_columns}

-- ---- both calls
-- the two lent slices: factors and the unmatched count, or factors of rows and of columns
pub record FactorBytes : Type 0 where
  pub first : List ℕ
  pub second : List ℕ

abbrev pub factor_bytes : List ℕ → List ℕ → FactorBytes
factor_bytes first second = record { first = first; second = second }

-- 1 and 3: n, and whether four slices have the bytes of n doubles and the others their lengths; all numbers are lengths
unfoldable pub factor_sizes : (n u v cmax factors : ℕ) → Bool → ℕ
factor_sizes n u v cmax factors others =
    or_else (unless (leb n byte_columns) too_many_columns)
    (unless (eqb u (8 * n) && (eqb v (8 * n) && (eqb cmax (8 * n) && (eqb factors (8 * n) && others)))) slice_length)

-- ---- symmetric
-- the match that the bytes stand for
unfoldable pub cache_read : ℕ → (perm u v cmax : List ℕ) → Match Float
unfolding words doubles
cache_read n perm u v cmax = match_of (words perm n) (doubles u n) (doubles v n) (doubles cmax n)

-- the factors, and how many columns are unmatched
unfoldable pub factors_laid : ℕ → ℕ → Match Float → Outcome ℕ FactorBytes
unfolding double_bytes word_bytes
factors_laid n matched c =
    outcome_is accepted (factor_bytes (double_bytes (symmetric_factors n c)) (word_bytes ((n - matched) ∷ [])))

-- 1 and 3
unfoldable pub symmetric_sizes : ℕ → (perm u v cmax factors unmatched : List ℕ) → ℕ
unfolding factor_sizes
symmetric_sizes n perm u v cmax factors unmatched =
    factor_sizes n (length u) (length v) (length cmax) (length factors)
    (eqb (length perm) (4 * n) && eqb (length unmatched) 4)

-- what `suontarvi_log_factors_bytes` does: 10 comes after the sizes
unfoldable pub log_factors_bytes : ℕ → ℕ → (perm u v cmax factors unmatched : List ℕ) → Outcome ℕ FactorBytes
unfolding symmetric_sizes cache_read factors_laid
log_factors_bytes n matched perm u v cmax factors unmatched =
    refusing as_number
    (or_else (symmetric_sizes n perm u v cmax factors unmatched)
    (matching_fault n matched (cache_read n perm u v cmax).perm))
    (factors_laid n matched (cache_read n perm u v cmax)) (factor_bytes factors unmatched)

-- ---- unsymmetric
unfoldable pub sides_laid : ℕ → List Float → List Float → List Float → Outcome ℕ FactorBytes
unfolding double_bytes
sides_laid n u v cmax =
    outcome_is accepted (factor_bytes (double_bytes (row_factors n u)) (double_bytes (column_factors n v cmax)))

-- 1 and 3
unfoldable pub side_sizes : ℕ → (u v cmax rows columns : List ℕ) → ℕ
unfolding factor_sizes
side_sizes n u v cmax rows columns =
    factor_sizes n (length u) (length v) (length cmax) (length rows) (eqb (length columns) (8 * n))

-- what `suontarvi_unsymmetric_factors_bytes` does
unfoldable pub unsymmetric_bytes : ℕ → (u v cmax rows columns : List ℕ) → Outcome ℕ FactorBytes
unfolding side_sizes sides_laid doubles
unsymmetric_bytes n u v cmax rows columns =
    refusing as_number (side_sizes n u v cmax rows columns)
    (sides_laid n (doubles u n) (doubles v n) (doubles cmax n)) (factor_bytes rows columns)
