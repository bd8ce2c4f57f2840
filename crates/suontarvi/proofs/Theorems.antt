-- Which numbers the calls answer that test a slice more than the call behind them: the same, since its length is a 3. All others answer what that call does.
-- And that the external choice is refused whatever is lent.
use mathlib.Core.Path.{◌≡◌, refl, sym, subst}
use mathlib.Core.Bool.{Bool, true, false, cond, ◌||◌}
use mathlib.Core.List.{List}
use Prim.Native.Nat.{ℕ, zero, suc}
use lib.Dec.{eqb, leb}
use lib.Ieee.{Float}
use lib.ListN.{length}
use Rattle.limits.specs.Limits.{max_symmetric}
use Rattle.refusal.specs.Listed.{listed, symmetric_numbers, chooser_numbers, log_factor_numbers, unsymmetric_numbers}
use Rattle.slices.specs.Outcome.{refusing, as_number, outcome_is}
use Rattle.slices.proofs.Refusing.{refused_is}
use Rattle.sparse.specs.Validate.{size_fault}
use Rattle.sparse.specs.Matrix.{Matrix}
use Rattle.sparse.proofs.Listed.{Listed, within, part}
use Rattle.sparse.proofs.Theorems as Sizes
use Rattle.matching.specs.Match.{Match}
use Rattle.factors_mc64.specs.Calls.{Slices, sizes, log_factors_fault, scaled}
use Rattle.factors_mc64.proofs.Theorems.{sizes_listed, fault_listed}
use Rattle.scaling.specs.Choice as Choice
use Rattle.scaling.proofs.Choices.{chosen_number, choice_number, external_some}
use Rattle.scaling.proofs.Theorems as Choices
use Rattle.suontarvi.specs.Factors.{factors_result_of, log_factors_result, lent, factors_fault}
use Rattle.suontarvi.specs.Scaling as Scaling
use Rattle.suontarvi.specs.Scaling.{scaling_result_of, scaling_by_number, number_fault}

-- `suontarvi_log_factors`
pub factors_listed : (n matched : ℕ) (c : Match Float) (s : Slices) (old : List ℕ) → Listed log_factor_numbers (log_factors_result n matched c s old).answer
unfolding listed within log_factors_result factors_fault
factors_listed n matched c s old = subst (Listed log_factor_numbers) (sym (number_is (factors_fault n matched c s old))) (fault (eqb (length old) 1))
  where
    number_is : (f : ℕ) → (refusing as_number f (factors_result_of (scaled n matched c) old) (lent s old)).answer ≡ f
    number_is zero = refl
    number_is (suc f) = refl

    fault : (t : Bool) → Listed log_factor_numbers (cond t (log_factors_fault n matched c s) (sizes n false))
    fault true = fault_listed n matched c s
    fault false = part unsymmetric_numbers (sizes_listed n false) refl

-- `suontarvi_scaling`
pub scaling_listed : (choice : ℕ) (m : Matrix) (external logs : List Float) (s : Choice.Slices) (old : List ℕ)
    → Listed chooser_numbers (scaling_by_number choice m external logs s old).answer
unfolding listed within scaling_by_number number_fault
scaling_listed choice m external logs s old =
    subst (Listed chooser_numbers) (sym (number_is (number_fault choice m external logs s old)))
    (fault (eqb choice Choice.last_choice || eqb (length old) 2) (leb choice Choice.last_choice))
  where
    number_is : (f : ℕ) → (refusing as_number f (scaling_result_of (Choice.chosen (Choice.strategy_for choice) m logs s) old) (Scaling.lent s old)).answer ≡ f
    number_is zero = chosen_number m external logs s (Choice.strategy_for choice)
    number_is (suc f) = refl

    fault : (t known : Bool)
        → Listed chooser_numbers
        (cond t (cond known (Choice.choice_fault (Choice.strategy_for choice) m external logs s) (Choice.no_choice m s.factors))
        (size_fault m.pattern.n max_symmetric (length m.pattern.row_idx) false))
    fault true true = subst (Listed chooser_numbers) (choice_number m external logs s (Choice.strategy_for choice))
        (Choices.scaling_listed m external logs s (Choice.strategy_for choice))
    fault true false = part symmetric_numbers (Choices.no_choice_listed m s.factors) refl
    fault false known = part Sizes.size_numbers (Sizes.sizes_listed m.pattern.n max_symmetric (length m.pattern.row_idx) false) refl

-- the external choice: 1, 2 or 12, with slices of any lengths, which stay as they were
pub external_refused : (m : Matrix) (external logs : List Float) (s : Choice.Slices) (old : List ℕ)
    → scaling_by_number 4 m external logs s old ≡ outcome_is (Choice.external_fault m.pattern.n (length m.pattern.row_idx)) (Scaling.lent s old)
unfolding scaling_by_number number_fault Choice.choice_fault Choice.strategy_for
external_refused m external logs s old =
    sym (refused_is as_number (scaling_result_of (Choice.chosen (Choice.strategy_for 4) m logs s) old) (Scaling.lent s old) refl
    (external_some m.pattern.n (length m.pattern.row_idx)))
