-- SPECIFICATION 8.2 and 8.3: What the two calls answer and leave: 1, 2, 3, then what `csc::validate` answers, or 0 with
-- the factors. A refusal changes nothing.
use Rattle.std.specs.Prelude.{◌≡◌, Bool, ◌&&◌, List, ℕ, ◌+◌, eqb, Float, length, replicate}
use Rattle.limits.specs.Limits.{max_symmetric}
use Rattle.refusal.specs.Refusal.{accepted}
use Rattle.refusal.specs.Listed.{OneOf, symmetric_numbers}
use Rattle.slices.specs.Outcome.{Outcome, outcome_is, as_number, refusing}
use Rattle.float64.specs.Constants as Constants
use Rattle.sparse.specs.Fault.{or_else}
use Rattle.sparse.specs.Validate.{size_fault, symmetric_fault}
use Rattle.sparse.specs.Matrix.{Matrix}
use Rattle.infnorm_factors.specs.Factors.{infnorm_factors, onepass_factors}

-- whether every slice has its length for n columns
unfoldable pub lengths_fit : Matrix → List Float → Bool
lengths_fit m factors =
    let p = m.pattern in
    eqb (length p.col_ptr) (p.n + 1)
    && (eqb (length m.values) (length p.row_idx) && eqb (length factors) p.n)

-- the first thing wrong, or 0; `lengths` says whether every slice has its length
unfoldable pub input_fault : Matrix → Bool → ℕ
input_fault m lengths =
    or_else (size_fault m.pattern.n max_symmetric (length m.pattern.row_idx) lengths) (symmetric_fault m)

-- ---- iterated
-- what is lent for the factors, and the work
pub record Slices : Type 0 where
  pub factors : List Float
  pub work : List Float

abbrev pub slices : List Float → List Float → Slices
slices factors work = record { factors = factors; work = work }

-- an accepted call: the factors, and work that is zero
unfoldable pub iterated : Matrix → Outcome ℕ Slices
iterated m = outcome_is accepted (slices (infnorm_factors m) (replicate m.pattern.n Constants.zero))

-- what `compute_infnorm` does
unfoldable pub compute_infnorm : Matrix → List Float → List Float → Outcome ℕ Slices
unfolding iterated input_fault lengths_fit
compute_infnorm m factors work =
    refusing as_number (input_fault m (lengths_fit m factors && eqb (length work) m.pattern.n)) (iterated m)
    (slices factors work)

-- ---- one-pass
-- what `compute_onepass` does
unfoldable pub compute_onepass : Matrix → List Float → Outcome ℕ (List Float)
unfolding input_fault lengths_fit
compute_onepass m factors =
    refusing as_number (input_fault m (lengths_fit m factors)) (outcome_is accepted (onepass_factors m)) factors

-- ---- all that the calls promise, of the matrix, what was lent, the number r of its answer and what is left
-- `compute_infnorm`
pub record InfnormPromises (m : Matrix) (factors work : List Float) (r : ℕ) (left cleared : List Float) : Type 0 where
  -- the number and every slice left are the definition's
  pub outcome : outcome_is r (slices left cleared) ≡ compute_infnorm m factors work
  -- the number is one of the call's list
  pub number : OneOf symmetric_numbers r

-- `compute_onepass`
pub record OnepassPromises (m : Matrix) (factors : List Float) (r : ℕ) (left : List Float) : Type 0 where
  -- the number and the factors left are the definition's
  pub outcome : outcome_is r left ≡ compute_onepass m factors
  -- the number is one of the call's list
  pub number : OneOf symmetric_numbers r
