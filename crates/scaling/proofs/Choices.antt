-- What each choice's call answers and leaves is the chooser's outcome: the equation of that call under a function of its outcome.
-- Its number is the fault of the choice.
use Rattle.std.proofs.Common.{Result, Ok, Err}
use mathlib.Core.Path.{◌≡◌, refl, sym, ap, ◌∙◌}
use mathlib.Core.Bool.{true, ◌&&◌}
use mathlib.Core.List.{List, [], ◌∷◌}
use mathlib.Core.Logic.{◌≢◌}
use Prim.Native.Nat.{ℕ, zero, suc}
use native.Mathlib.Omega.{arith}
use lib.Dec.{eqb}
use lib.Ieee.{Float}
use lib.ListN.{length, set, replicate}
use Rattle.limits.specs.Limits.{max_symmetric}
use Rattle.refusal.specs.Refusal.{external_choice, index_range}
use Rattle.refusal.specs.Number.{number, fault_of}
use Rattle.refusal.specs.declared.Refusal.{Refusal}
use Rattle.refusal.proofs.Numbers.{number_ne_zero}
use Rattle.slices.specs.Outcome.{outcome_is, Outcome, as_number, refusing}
use Rattle.slices.proofs.Refusing.{refused_is}
use Rattle.float64.specs.Constants as Constants
use Rattle.sparse.specs.Matrix.{Matrix}
use Rattle.sparse.specs.Validate.{size_fault}
use Rattle.sparse.specs.Fault.{or_else}
use Rattle.sparse.proofs.First.{or-zero, or-none, answer_first}
use Rattle.mc64_columns.specs.Graphs as Graphs
use Rattle.hungarian_match.specs.Call as Match
use Rattle.factors_mc64.specs.declared.Scaled.{Scaled}
use Rattle.factors_mc64.specs.Calls as Factors
use Rattle.infnorm_factors.specs.Factors.{onepass_factors}
use Rattle.infnorm.specs.Call as Infnorm
use Rattle.factors_identity.specs.Identity.{identity_factors}
use Rattle.mc64.specs.Call as Mc64
use Rattle.scaling.specs.declared.ScalingStrategy.{ScalingStrategy}
use Rattle.scaling.specs.declared.ScalingStrategy.TheVariants.{InfNorm, OnePassInfNorm, Mc64Symmetric, Identity, External}
use Rattle.scaling.specs.declared.Scaling.{Scaling}
use Rattle.scaling.specs.declared.Scaling.TheVariants.{Applied, NotApplied}
use Rattle.scaling.specs.Choice.{Slices, slices, with_factors, of_answer, external_fault, compute_scaling, choice_fault}
use Rattle.scaling.specs.Choice.{mc64_slices, chosen, no_choice}

-- ---- answers
-- what was done, or the refusal
abbrev pub unless_refused : ℕ → Scaling → Result Scaling ℕ
unless_refused zero done = Ok done
unless_refused (suc fault) done = Err (suc fault)

pub refused_unless : (number : ℕ) (done : Scaling) → number ≢ 0 → Err number ≡ unless_refused number done
refused_unless zero done h = absurd (h refl)
refused_unless (suc number) done h = refl

-- the refusal of a test, and another one where the test refuses nothing
pub refused_first : (refusal : Refusal) {fault : ℕ} (other : ℕ) → number refusal ≡ fault → number refusal ≡ or_else fault other
refused_first refusal other e = answer_first other e (number_ne_zero refusal)

pub refused_else : {fault : ℕ} (other : ℕ) → 0 ≡ fault → other ≡ or_else fault other
refused_else other e = sym (or-none (sym e))

-- ---- the choices
-- what a choice's call answers and leaves, put into the chooser's slices
module _ (m : Matrix) (external logs : List Float) (s : Slices) where
  abbrev by_infnorm : Outcome ℕ Infnorm.Slices → Outcome (Result Scaling ℕ) Slices
  by_infnorm o = outcome_is (unless_refused o.answer Applied) (slices o.after.factors o.after.work s.graph s.pairs s.factor_work)

  abbrev by_factors : Scaling → Outcome ℕ (List Float) → Outcome (Result Scaling ℕ) Slices
  by_factors done o = outcome_is (unless_refused o.answer done) (with_factors o.after s)

  abbrev pub by_mc64 : Outcome (Result Scaled ℕ) Mc64.ScalingSlices → Outcome (Result Scaling ℕ) Slices
  by_mc64 o = outcome_is (of_answer o.answer) (slices o.after.scaled.factors s.maxima o.after.graph o.after.pairs o.after.scaled.work)

  infnorm_over : (f : ℕ) → by_infnorm (refusing as_number f (Infnorm.iterated m) (Infnorm.slices s.factors s.maxima)) ≡ refusing Err f
      (chosen InfNorm m logs s) s
  unfolding chosen Infnorm.iterated
  infnorm_over zero = refl
  infnorm_over (suc f) = refl

  onepass_over : (f : ℕ) → by_factors Applied (refusing as_number f (outcome_is 0 (onepass_factors m)) s.factors) ≡ refusing Err f
      (chosen OnePassInfNorm m logs s) s
  unfolding chosen
  onepass_over zero = refl
  onepass_over (suc f) = refl

  mc64_over : (f : ℕ) → by_mc64 (refusing Err f (Mc64.scaled m logs (mc64_slices s)) (mc64_slices s)) ≡ refusing Err f
      (chosen Mc64Symmetric m logs s) s
  unfolding chosen
  mc64_over zero = refl
  mc64_over (suc f) = refl

  identity_over : (f : ℕ) → by_factors NotApplied (refusing as_number f (outcome_is 0 (replicate m.pattern.n Constants.one))
      s.factors) ≡ refusing Err f
      (chosen Identity m logs s) s
  unfolding chosen
  identity_over zero = refl
  identity_over (suc f) = refl

  -- the outcome of the MC64 choice is that of `compute_symmetric`
  pub mc64_is : by_mc64 (Mc64.symmetric_scaling m logs (mc64_slices s)) ≡ compute_scaling Mc64Symmetric m external logs s
  unfolding compute_scaling choice_fault Mc64.symmetric_scaling
  mc64_is = mc64_over (Mc64.scaling_fault m logs (mc64_slices s))

-- the external choice and a number that is no choice are never accepted
pub external_some : (n count : ℕ) → external_fault n count ≢ 0
unfolding external_fault
external_some n count z = let w : external_choice ≡ 0 = (or-zero (size_fault n max_symmetric count true) external_choice z).1 in omega (arith, w)

pub no_choice_some : (m : Matrix) (factors : List Float) → no_choice m factors ≢ 0
unfolding no_choice
no_choice_some m factors z = let w : index_range ≡ 0 = (or-zero (Infnorm.input_fault m (Infnorm.lengths_fit m factors)) index_range z).1 in omega (arith, w)

module _ {strategy : ScalingStrategy} (m : Matrix) (external logs : List Float) (s : Slices) {r : Result Scaling ℕ} where
  pub infnorm_chosen : {number : ℕ} {factors work : List Float} → strategy ≡ InfNorm → r ≡ unless_refused number Applied
      → outcome_is number (Infnorm.slices factors work) ≡ Infnorm.compute_infnorm m s.factors s.maxima
      → outcome_is r (slices factors work s.graph s.pairs s.factor_work) ≡ compute_scaling strategy m external logs s
  unfolding compute_scaling choice_fault Infnorm.compute_infnorm
  infnorm_chosen q a e = rw (q, a)
      (ap (by_infnorm m external logs s) e ∙ infnorm_over m external logs s
      (Infnorm.input_fault m (Infnorm.lengths_fit m s.factors && eqb (length s.maxima) m.pattern.n)))

  pub onepass_chosen : {number : ℕ} {factors : List Float} → strategy ≡ OnePassInfNorm → r ≡ unless_refused number Applied
      → outcome_is number factors ≡ Infnorm.compute_onepass m s.factors → outcome_is r (with_factors factors s) ≡ compute_scaling strategy m external logs s
  unfolding compute_scaling choice_fault Infnorm.compute_onepass
  onepass_chosen q a e = rw (q, a)
      (ap (by_factors m external logs s Applied) e ∙ onepass_over m external logs s (Infnorm.input_fault m (Infnorm.lengths_fit m s.factors)))

  pub mc64_chosen : {answer : Result Scaled ℕ} {graph : Graphs.Slices} {pairs : Match.Slices} {factors : List Float} {work : List ℕ} → strategy ≡ Mc64Symmetric
      → r ≡ of_answer answer
      → outcome_is answer (Mc64.scaling_slices graph pairs (Factors.slices factors work)) ≡ Mc64.symmetric_scaling m logs
      (Mc64.scaling_slices s.graph s.pairs (Factors.slices s.factors s.factor_work))
      → outcome_is r (slices factors s.maxima graph pairs work) ≡ compute_scaling strategy m external logs s
  mc64_chosen q a e = rw (q, a) (ap (by_mc64 m external logs s) e ∙ mc64_is m external logs s)

  pub identity_chosen : {number : ℕ} {factors : List Float} → strategy ≡ Identity → r ≡ unless_refused number NotApplied
      → outcome_is number factors ≡ identity_factors m s.factors
      → outcome_is r (with_factors factors s) ≡ compute_scaling strategy m external logs s
  unfolding compute_scaling choice_fault identity_factors
  identity_chosen q a e = rw (q, a)
      (ap (by_factors m external logs s NotApplied) e ∙ identity_over m external logs s (Infnorm.input_fault m (Infnorm.lengths_fit m s.factors)))

  pub external_chosen : {number : ℕ} → strategy ≡ External → r ≡ Err number → number ≡ external_fault m.pattern.n (length m.pattern.row_idx)
      → outcome_is r s ≡ compute_scaling strategy m external logs s
  unfolding compute_scaling choice_fault
  external_chosen q a e = rw (q, a) (refused_is Err (chosen External m logs s) s e
      (λ z. external_some m.pattern.n (length m.pattern.row_idx) (sym e ∙ z)))

-- ---- the number of a choice's answer
module _ (m : Matrix) (external logs : List Float) (s : Slices) where
  -- what is chosen has the number 0
  pub chosen_number : (strategy : ScalingStrategy) → fault_of (chosen strategy m logs s).answer ≡ 0
  unfolding chosen Mc64.scaled
  chosen_number InfNorm = refl
  chosen_number OnePassInfNorm = refl
  chosen_number Mc64Symmetric = refl
  chosen_number Identity = refl
  chosen_number External = refl

  by_fault : (strategy : ScalingStrategy) (fault : ℕ) → fault_of (refusing Err fault (chosen strategy m logs s) s).answer ≡ fault
  by_fault strategy zero = chosen_number strategy
  by_fault strategy (suc fault) = refl

  pub choice_number : (strategy : ScalingStrategy) → fault_of (compute_scaling strategy m external logs s).answer ≡ choice_fault strategy m external logs s
  unfolding compute_scaling
  choice_number strategy = by_fault strategy (choice_fault strategy m external logs s)

-- ---- as numbers
-- two stores into a list of two places
pub two_set : (old : List ℕ) (x y : ℕ) → length old ≡ 2 → set (set old 0 x) 1 y ≡ x ∷ y ∷ []
two_set [] x y h = absurd (omega arith)
two_set (a ∷ []) x y h = absurd (omega arith)
two_set (a ∷ b ∷ []) x y h = refl
two_set (a ∷ b ∷ c ∷ old) x y h = absurd (omega arith)
