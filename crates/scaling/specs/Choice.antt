-- SPECIFICATION 10.2: What `compute_scaling` answers and leaves, choice by choice. Each choice tests the matrix and the
-- slices that it uses, and the external one is refused; every other slice stays as it was.
use Rattle.std.specs.Prelude.{◌≡◌, true, ◌&&◌, List, [], ◌∷◌, ℕ, zero, suc, eqb, Float, Result, Ok, Err, length, replicate}
use Rattle.limits.specs.Limits.{max_symmetric}
use Rattle.refusal.specs.Refusal.{index_range, external_choice}
use Rattle.refusal.specs.Listed.{OneOf, chooser_numbers}
use Rattle.refusal.specs.Number.{fault_of}
use Rattle.slices.specs.Outcome.{Outcome, outcome_is, refusing}
use Rattle.float64.specs.Constants as Constants
use Rattle.sparse.specs.Fault.{or_else}
use Rattle.sparse.specs.Validate.{size_fault}
use Rattle.sparse.specs.Matrix.{Matrix}
use Rattle.matching.specs.Match.{Match, match_of}
use Rattle.mc64_columns.specs.Graphs as Graphs
use Rattle.hungarian_match.specs.Call as Match
use Rattle.factors_mc64.specs.declared.Scaled.{Scaled}
use Rattle.factors_mc64.specs.declared.Scaled.TheVariants as scaled
use Rattle.factors_mc64.specs.Calls as Factors
use Rattle.factors_balance.specs.Balance.{WholeLogs, NoneHeld, Balanced}
use Rattle.infnorm_factors.specs.Factors.{onepass_factors}
use Rattle.infnorm.specs.Call.{lengths_fit, input_fault, iterated}
use Rattle.mc64.specs.Call as Mc64
use Rattle.scaling.specs.declared.ScalingStrategy.{ScalingStrategy}
use Rattle.scaling.specs.declared.ScalingStrategy.TheVariants.{InfNorm, OnePassInfNorm, Mc64Symmetric}
use Rattle.scaling.specs.declared.ScalingStrategy.TheVariants.{Identity, External}
use Rattle.scaling.specs.declared.Scaling.{Scaling}
use Rattle.scaling.specs.declared.Scaling.TheVariants.{Applied, PartialSingular, NotApplied}

-- what is lent: the factors, the work of the iterated kind, and the slices of MC64's graph, match and log factors
pub record Slices : Type 0 where
  pub factors : List Float
  pub maxima : List Float
  pub graph : Graphs.Slices
  pub pairs : Match.Slices
  pub factor_work : List ℕ

abbrev pub slices : List Float → List Float → Graphs.Slices → Match.Slices → List ℕ → Slices
slices factors maxima graph pairs factor_work =
    record { factors = factors; maxima = maxima; graph = graph; pairs = pairs; factor_work = factor_work }

-- the same with other factors
abbrev pub with_factors : List Float → Slices → Slices
with_factors factors s = slices factors s.maxima s.graph s.pairs s.factor_work

-- the slices that `compute_symmetric` is lent
abbrev pub mc64_slices : Slices → Mc64.ScalingSlices
mc64_slices s = Mc64.scaling_slices s.graph s.pairs (Factors.slices s.factors s.factor_work)

-- ---- answers
-- what the MC64 scaling did, and its answer, as the chooser's
abbrev pub of_scaled : Scaled → Scaling
of_scaled scaled.Applied = Applied
of_scaled (scaled.PartialSingular unmatched) = PartialSingular unmatched

abbrev pub of_answer : Result Scaled ℕ → Result Scaling ℕ
of_answer (Ok done) = Ok (of_scaled done)
of_answer (Err fault) = Err fault

-- ---- the choices
-- the external choice is refused: only n and the entry count are tested before, no length or contents of a slice
unfoldable pub external_fault : ℕ → ℕ → ℕ
external_fault n count = or_else (size_fault n max_symmetric count true) external_choice

-- the first thing wrong for a choice, or 0
unfoldable pub choice_fault : ScalingStrategy → Matrix → List Float → List Float → Slices → ℕ
choice_fault InfNorm m external logs s =
    input_fault m (lengths_fit m s.factors && eqb (length s.maxima) m.pattern.n)
choice_fault OnePassInfNorm m external logs s = input_fault m (lengths_fit m s.factors)
choice_fault Mc64Symmetric m external logs s = Mc64.scaling_fault m logs (mc64_slices s)
choice_fault Identity m external logs s = input_fault m (lengths_fit m s.factors)
choice_fault External m external logs s = external_fault m.pattern.n (length m.pattern.row_idx)

-- an accepted choice: what its own call leaves, and every other slice as it was. The external choice is never accepted
unfoldable pub chosen : ScalingStrategy → Matrix → List Float → Slices → Outcome (Result Scaling ℕ) Slices
chosen InfNorm m logs s =
    let done = (iterated m).after in
    outcome_is (Ok Applied) (slices done.factors done.work s.graph s.pairs s.factor_work)
chosen OnePassInfNorm m logs s = outcome_is (Ok Applied) (with_factors (onepass_factors m) s)
chosen Mc64Symmetric m logs s =
    let done = Mc64.scaled m logs (mc64_slices s) in
    let left = done.after in
    outcome_is (of_answer done.answer)
    (slices left.scaled.factors s.maxima left.graph left.pairs left.scaled.work)
chosen Identity m logs s = outcome_is (Ok NotApplied) (with_factors (replicate m.pattern.n Constants.one) s)
chosen External m logs s = outcome_is (Ok NotApplied) s

-- what `compute_scaling` does
unfoldable pub compute_scaling : ScalingStrategy → Matrix → List Float → List Float → Slices
    → Outcome (Result Scaling ℕ) Slices
unfolding choice_fault chosen
compute_scaling strategy m external logs s =
    refusing Err (choice_fault strategy m external logs s) (chosen strategy m logs s) s

-- what the factors of the MC64 choice achieve, as for `compute_symmetric`: every column is matched, the logs read are
-- whole and no factor is held
abbrev pub cache_of : Slices → Match Float
cache_of s = match_of s.pairs.perm s.pairs.u s.pairs.v s.graph.cmax

abbrev pub Balances : ScalingStrategy → Matrix → List Float → Result Scaling ℕ → Slices → Type 0
Balances strategy m logs answer after =
    strategy ≡ Mc64Symmetric → answer ≡ Ok Applied → WholeLogs m logs
    → NoneHeld m.pattern.n (cache_of after) after.factors
    → Balanced m logs after.pairs.perm after.factors

-- ---- as numbers
-- the strategy of a number, in the Rust's order; none above 4
abbrev pub last_choice : ℕ
last_choice = 4

unfoldable pub strategy_for : ℕ → ScalingStrategy
strategy_for zero = InfNorm
strategy_for (suc zero) = OnePassInfNorm
strategy_for (suc (suc zero)) = Mc64Symmetric
strategy_for (suc (suc (suc zero))) = Identity
strategy_for (suc (suc (suc (suc more)))) = External

-- the answer for an unknown number: the matrix is tested as for every choice, then the number
unfoldable pub no_choice : Matrix → List Float → ℕ
no_choice m factors = or_else (input_fault m (lengths_fit m factors)) index_range

-- what was done and how many columns are unmatched; what was there if there are no factors
abbrev pub info_of : Result Scaling ℕ → List ℕ → List ℕ
info_of (Ok Applied) old = 0 ∷ 0 ∷ []
info_of (Ok (PartialSingular unmatched)) old = 1 ∷ unmatched ∷ []
info_of (Ok NotApplied) old = 2 ∷ 0 ∷ []
info_of (Err fault) old = old

-- ---- all that `compute_scaling` promises, of the strategy, the matrix, what was lent, its answer r and what is left
pub record Promises (strategy : ScalingStrategy) (m : Matrix) (external logs : List Float) (before : Slices)
    (r : Result Scaling ℕ) (after : Slices) : Type 0 where
  -- the answer and every slice left are the definition's
  pub outcome : outcome_is r after ≡ compute_scaling strategy m external logs before
  -- the number is that of the choice's first fault
  pub answered : fault_of r ≡ choice_fault strategy m external logs before
  -- the number is one of the call's list
  pub number : OneOf chooser_numbers (fault_of r)
  -- if every column is matched, the MC64 factors of whole logs balance the entries
  pub balanced : Balances strategy m logs r after
