-- SPECIFICATION 7.1 and 7.2: What the two calls answer, and what they leave in every lent slice. A refusal is 1, 3 or
-- 10, in this order; the unsymmetric call has no perm and never gives 10.
use Rattle.std.specs.Prelude.{◌≡◌, Bool, cond, ◌&&◌, ◌||◌, List, ℕ, ◌-◌, leb, ltb, eqb, length, get_or, replicate, Float, Result, Ok, Err}
use Rattle.limits.specs.Limits.{none}
use Rattle.refusal.specs.Refusal.{accepted, matching_range}
use Rattle.refusal.specs.Number.{fault_of}
use Rattle.refusal.specs.Listed.{OneOf, log_factor_numbers, unsymmetric_numbers}
use Rattle.slices.specs.Outcome.{Outcome, outcome_is, as_number, refusing}
use Rattle.sparse.specs.Fault.{unless, or_else, first_of}
use Rattle.sparse.specs.Validate.{size_fault}
use Rattle.matching.specs.Match.{Match}
use Rattle.factors_mc64.specs.declared.Scaled.{Scaled}
use Rattle.factors_mc64.specs.declared.Scaled.TheVariants.{Applied, PartialSingular}
use Rattle.factors_mc64.specs.Factors.{symmetric_factors, row_factors, column_factors}

-- 1 and 3: there are no entries to count
abbrev pub sizes : ℕ → Bool → ℕ
sizes n lengths = size_fault n 0 0 lengths

-- ---- symmetric
-- what is lent for the factors, and the work
pub record Slices : Type 0 where
  pub factors : List Float
  pub work : List ℕ

abbrev pub slices : List Float → List ℕ → Slices
slices factors work = record { factors = factors; work = work }

-- whether every slice has its length
unfoldable pub lengths : ℕ → Match Float → Slices → Bool
lengths n c s =
    eqb (length c.perm) n
    && (eqb (length c.u) n && (eqb (length c.v) n && (eqb (length c.cmax) n
    && (eqb (length s.factors) n && eqb (length s.work) n))))

-- none, or a row
abbrev pub row_or_none : ℕ → ℕ → Bool
row_or_none n row = eqb row none || ltb row n

-- 10: more matched than there are columns, or an entry of perm that is neither none nor below n
unfoldable pub matching_fault : ℕ → ℕ → List ℕ → ℕ
matching_fault n matched perm =
    or_else (unless (leb matched n) matching_range)
    (first_of (length perm) (λ k. unless (row_or_none n (get_or perm k 0)) matching_range) 0)

-- the first thing wrong, or 0
abbrev pub log_factors_fault : ℕ → ℕ → Match Float → Slices → ℕ
log_factors_fault n matched c s = or_else (sizes n (lengths n c s)) (matching_fault n matched c.perm)

-- how many columns an answer leaves unmatched
abbrev pub unmatched_of : Result Scaled ℕ → ℕ
unmatched_of (Ok Applied) = 0
unmatched_of (Ok (PartialSingular unmatched)) = unmatched
unmatched_of (Err number) = 0

-- an answer by its fault: the number is the fault; without one, the unmatched count is answered
pub record AnswersBy (fault unmatched : ℕ) (answer : Result Scaled ℕ) : Type 0 where
  pub number : fault_of answer ≡ fault
  pub count : fault_of answer ≡ accepted → unmatched_of answer ≡ unmatched

-- the answer of an accepted call: every column is matched, or how many are not
abbrev pub applied_or_partial : ℕ → ℕ → Scaled
applied_or_partial n matched = cond (eqb matched n) Applied (PartialSingular (n - matched))

-- an accepted call: the factors, and work that is zero
abbrev pub scaled : ℕ → ℕ → Match Float → Outcome (Result Scaled ℕ) Slices
scaled n matched c = outcome_is (Ok (applied_or_partial n matched)) (slices (symmetric_factors n c) (replicate n 0))

-- what `log_factors` does
unfoldable pub symmetric_outcome : ℕ → ℕ → Match Float → Slices → Outcome (Result Scaled ℕ) Slices
unfolding lengths matching_fault
symmetric_outcome n matched c s = refusing Err (log_factors_fault n matched c s) (scaled n matched c) s

-- ---- unsymmetric
-- what is lent for the factors of rows and columns
pub record Sides : Type 0 where
  pub rows : List Float
  pub columns : List Float

abbrev pub sides : List Float → List Float → Sides
sides rows columns = record { rows = rows; columns = columns }

unfoldable pub side_lengths : ℕ → List Float → List Float → List Float → List Float → List Float → Bool
side_lengths n u v cmax rows columns =
    eqb (length u) n && (eqb (length v) n && (eqb (length cmax) n
    && (eqb (length rows) n && eqb (length columns) n)))

-- an accepted call: the factors of rows and columns
abbrev pub sides_scaled : ℕ → List Float → List Float → List Float → Outcome ℕ Sides
sides_scaled n u v cmax = outcome_is accepted (sides (row_factors n u) (column_factors n v cmax))

-- what `unsymmetric_factors` does
unfoldable pub unsymmetric_outcome : ℕ → (u v cmax rows columns : List Float) → Outcome ℕ Sides
unfolding side_lengths
unsymmetric_outcome n u v cmax rows columns =
    refusing as_number (sizes n (side_lengths n u v cmax rows columns)) (sides_scaled n u v cmax) (sides rows columns)

-- ---- all that the calls promise
-- `log_factors`, of the match, what was lent, its answer r and what is left
pub record SymmetricPromises (n matched : ℕ) (c : Match Float) (before : Slices) (r : Result Scaled ℕ) (after : Slices)
    : Type 0 where
  -- the answer and every slice left are the definition's
  pub outcome : outcome_is r after ≡ symmetric_outcome n matched c before
  -- the number is that of the first fault, and an accepted call answers how many columns are unmatched
  pub answered : AnswersBy (log_factors_fault n matched c before) (n - matched) r
  -- the number is one of the call's list
  pub number : OneOf log_factor_numbers (fault_of r)

-- `unsymmetric_factors`, of its number and the factors left
pub record UnsymmetricPromises (n : ℕ) (u v cmax rows columns : List Float) (r : ℕ) (rows_left columns_left : List Float)
    : Type 0 where
  -- the number and both slices left are the definition's
  pub outcome : outcome_is r (sides rows_left columns_left) ≡ unsymmetric_outcome n u v cmax rows columns
  -- the number is one of the call's list
  pub number : OneOf unsymmetric_numbers r
