-- Which numbers the chooser answers, for any input: those of `csc::validate`, 8 and 9 for the MC64 choice only, and 1, 2 or 12 for the external
-- one. By the fault of each choice.
use mathlib.Core.Path.{sym, refl, subst}
use mathlib.Core.Bool.{Bool, true, false, ◌&&◌}
use mathlib.Core.List.{List}
use Prim.Native.Nat.{ℕ}
use lib.Dec.{eqb, leb}
use lib.Ieee.{Float}
use lib.ListN.{length}
use Rattle.limits.specs.Limits.{max_columns, max_symmetric}
use Rattle.refusal.specs.Listed.{listed, symmetric_numbers, symmetric_graph_numbers, external_numbers, chooser_numbers}
use Rattle.refusal.specs.Refusal.{too_many_columns, too_many_entries, external_choice}
use Rattle.refusal.specs.Number.{fault_of}
use Rattle.sparse.specs.Fault.{unless, or_else}
use Rattle.sparse.specs.Validate.{size_fault}
use Rattle.sparse.specs.Matrix.{Matrix}
use Rattle.sparse.proofs.Listed.{Listed, or_listed, within, part}
use Rattle.mc64_symmetric.specs.Call as Building
use Rattle.mc64_symmetric.proofs.Theorems as Numbers
use Rattle.factors_mc64.specs.Calls as Factors
use Rattle.mc64.specs.Call.{scaling_slices, rest_fits}
use Rattle.infnorm.specs.Call.{lengths_fit}
use Rattle.infnorm.proofs.Refusals.{input_listed}
use Rattle.scaling.specs.declared.ScalingStrategy.{ScalingStrategy}
use Rattle.scaling.specs.declared.ScalingStrategy.TheVariants.{InfNorm, OnePassInfNorm, Mc64Symmetric, Identity, External}
use Rattle.scaling.specs.Choice.{Slices, external_fault, compute_scaling, choice_fault, no_choice}
use Rattle.scaling.proofs.Choices.{choice_number}

-- the numbers of a choice
abbrev pub choice_numbers : ScalingStrategy → List ℕ
choice_numbers InfNorm = symmetric_numbers
choice_numbers OnePassInfNorm = symmetric_numbers
choice_numbers Mc64Symmetric = symmetric_graph_numbers
choice_numbers Identity = symmetric_numbers
choice_numbers External = external_numbers

-- the external choice is never accepted
pub external_listed : (n count : ℕ) → Listed external_numbers (external_fault n count)
unfolding listed external_fault size_fault
external_listed n count = go (leb n max_columns) (leb count max_symmetric)
  where
    go : (few fits : Bool) → Listed external_numbers (or_else (or_else (unless few too_many_columns) (or_else (unless fits too_many_entries) 0)) external_choice)
    go true true = record { is = refl }
    go true false = record { is = refl }
    go false fits = record { is = refl }

module _ (m : Matrix) (external logs : List Float) (s : Slices) where
  fault_listed : (strategy : ScalingStrategy) → Listed (choice_numbers strategy) (choice_fault strategy m external logs s)
  unfolding choice_fault
  fault_listed InfNorm = input_listed m (lengths_fit m s.factors && eqb (length s.maxima) m.pattern.n)
  fault_listed OnePassInfNorm = input_listed m (lengths_fit m s.factors)
  fault_listed Mc64Symmetric =
      let l = scaling_slices s.graph s.pairs (Factors.slices s.factors s.factor_work) in
      Numbers.input_listed m logs (Building.lengths_fit m logs s.graph && rest_fits m.pattern.n l)
  fault_listed Identity = input_listed m (lengths_fit m s.factors)
  fault_listed External = external_listed m.pattern.n (length m.pattern.row_idx)

  pub choice_listed : (strategy : ScalingStrategy) → Listed (choice_numbers strategy) (fault_of (compute_scaling strategy m external logs s).answer)
  choice_listed strategy = subst (Listed (choice_numbers strategy)) (sym (choice_number m external logs s strategy)) (fault_listed strategy)

-- whatever the choice
pub scaling_listed : (m : Matrix) (external logs : List Float) (s : Slices) (strategy : ScalingStrategy)
    → Listed chooser_numbers (fault_of (compute_scaling strategy m external logs s).answer)
unfolding listed within
scaling_listed m external logs s InfNorm = part symmetric_numbers (choice_listed m external logs s InfNorm) refl
scaling_listed m external logs s OnePassInfNorm = part symmetric_numbers (choice_listed m external logs s OnePassInfNorm) refl
scaling_listed m external logs s Mc64Symmetric = part symmetric_graph_numbers (choice_listed m external logs s Mc64Symmetric) refl
scaling_listed m external logs s Identity = part symmetric_numbers (choice_listed m external logs s Identity) refl
scaling_listed m external logs s External = part external_numbers (choice_listed m external logs s External) refl

-- an unknown choice: 5, or an earlier fault
pub no_choice_listed : (m : Matrix) (factors : List Float) → Listed symmetric_numbers (no_choice m factors)
unfolding listed no_choice
no_choice_listed m factors = or_listed (input_listed m (lengths_fit m factors)) (record { is = refl })
