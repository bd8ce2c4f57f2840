-- suontarvi_scaling: the number and the info of each return. The other clauses follow from what is answered and left.
use mathlib.Core.Path.{◌≡◌, refl, sym, ap, ap₂, ◌∙◌, subst}
use mathlib.Core.Logic.{◌≢◌}
use mathlib.Core.Bool.{Bool, true, false, cond, false≢true}
use mathlib.Core.List.{List}
use Prim.Native.Nat.{ℕ, zero, suc, ◌≤◌, ◌<◌}
use Rattle.std.proofs.Common.{Result, Ok, Err}
use native.Mathlib.Omega.{arith}
use borrow.Author.Tests.{eq-eqb, ne_eqb, le-leb, lt-leb}
use lib.Dec.{T, eqb}
use lib.Ieee.{Float, nan, binary64, fits}
use lib.ListN.{length, get_or}
use Rattle.limits.specs.Limits.{max_symmetric}
use Rattle.refusal.specs.Listed.{OneOf, chooser_numbers}
use Rattle.refusal.specs.Number.{fault_of}
use Rattle.slices.specs.Outcome.{outcome_is, Outcome, refusing, as_number}
use Rattle.slices.proofs.Refusing.{refused_is, refusing_over}
use Rattle.sparse.specs.Validate.{size_fault}
use Rattle.sparse.specs.Matrix.{Matrix}
use Rattle.sparse.proofs.Accepted.{sizes_accepted}
use Rattle.factors_balance.specs.Balance.{WholeLogs, NoneHeld, Balanced}
use Rattle.scaling.specs.declared.ScalingStrategy.{ScalingStrategy}
use Rattle.scaling.specs.declared.ScalingStrategy.TheVariants.{Mc64Symmetric}
use Rattle.scaling.specs.declared.Scaling.{Scaling}
use Rattle.scaling.specs.declared.Scaling.TheVariants.{Applied}
use Rattle.scaling.specs.Choice.{Slices, external_fault, compute_scaling, strategy_for, no_choice, cache_of, info_of, choice_fault, chosen as Chosen-of}
use Rattle.scaling.proofs.Promises as Choices
use Rattle.scaling.proofs.Promises.{mc64_applied}
use Rattle.suontarvi.specs.Scaling.{scaling_result_of, scaling_by_number, Balances, Lent, lent, number_fault, ScalingPromises}
use Rattle.suontarvi.proofs.Theorems.{scaling_listed}

abbrev Answered : Type 0
Answered = Outcome (Result Scaling ℕ) Slices

module _ (choice : ℕ) (m : Matrix) (external logs : List Float) (s : Slices) (old : List ℕ) where
  abbrev by : ℕ → Outcome ℕ Lent
  by f = refusing as_number f (scaling_result_of (Chosen-of (strategy_for choice) m logs s) old) (lent s old)

  wrong : {number : ℕ} → number ≡ number_fault choice m external logs s old → number ≢ 0
      → outcome_is number (lent s old) ≡ scaling_by_number choice m external logs s old
  unfolding scaling_by_number
  wrong e some = refused_is as_number (scaling_result_of (Chosen-of (strategy_for choice) m logs s) old) (lent s old) e some

  pub refused : {number : ℕ} → choice ≡ 4 → number ≢ 0 → number ≡ external_fault m.pattern.n (length m.pattern.row_idx)
      → outcome_is number (lent s old) ≡ scaling_by_number choice m external logs s old
  unfolding number_fault strategy_for choice_fault
  refused {number} q some e =
      let f : number ≡ number_fault choice m external logs s old = rw q e in
      wrong f some

  module _ (known : choice ≢ 4) where
    pub unfit : {number : ℕ} → length old ≢ 2 → number ≢ 0 → number ≡ size_fault m.pattern.n max_symmetric (length m.pattern.row_idx) false
        → outcome_is number (lent s old) ≡ scaling_by_number choice m external logs s old
    unfolding number_fault
    unfit {number} h some e =
        let f : number ≡ number_fault choice m external logs s old = rw (ne_eqb choice 4 known, ne_eqb (length old) 2 h) e in
        wrong f some

    module _ (h : length old ≡ 2) where
      pub unknown : {number : ℕ} → 4 < choice → number ≢ 0 → number ≡ no_choice m s.factors
          → outcome_is number (lent s old) ≡ scaling_by_number choice m external logs s old
      unfolding number_fault
      unknown {number} l some e =
          let f : number ≡ number_fault choice m external logs s old = rw (ne_eqb choice 4 known, eq-eqb (length old) 2 h, lt-leb choice 4 l) e in
          wrong f some

      pub chosen : {number : ℕ} {strategy : ScalingStrategy} {done : Result Scaling ℕ} {after : Slices} {info : List ℕ} → choice ≤ 4 → strategy ≡ strategy_for choice
          → outcome_is done after ≡ compute_scaling strategy m external logs s → number ≡ fault_of done → info ≡ info_of done old
          → outcome_is number (lent after info) ≡ scaling_by_number choice m external logs s old
      unfolding scaling_by_number number_fault compute_scaling
      chosen {done = done} {after = after} l q e a b =
          let same : choice_fault (strategy_for choice) m external logs s ≡ number_fault choice m external logs s old =
          rw (ne_eqb choice 4 known, eq-eqb (length old) 2 h, le-leb choice 4 l) refl in
          let o : outcome_is done after ≡ compute_scaling (strategy_for choice) m external logs s =
          e ∙ ap (λ (x : ScalingStrategy). compute_scaling x m external logs s) q in
          ap₂ (λ (k : ℕ) (i : List ℕ). outcome_is k (lent after i)) a b
          ∙ ap (λ (x : Answered). scaling_result_of x old) o
          ∙ refusing_over (λ (x : Answered). scaling_result_of x old) Err as_number (choice_fault (strategy_for choice) m external logs s)
          (Chosen-of (strategy_for choice) m logs s) s (lent s old) (λ k. refl)
          ∙ ap by same

-- ---- the other clauses
-- with no fault the MC64 choice leaves what is chosen
accepted_is : (m : Matrix) (external logs : List Float) (s : Slices) → choice_fault Mc64Symmetric m external logs s ≡ 0
    → compute_scaling Mc64Symmetric m external logs s ≡ Chosen-of Mc64Symmetric m logs s
unfolding compute_scaling
accepted_is m external logs s q = ap (λ (f : ℕ). refusing Err f (Chosen-of Mc64Symmetric m logs s) s) q

module _ (choice : ℕ) (m : Matrix) (external logs : List Float) (s : Slices) (old : List ℕ)
    (doubles : (k : ℕ) → k < length logs → T (fits binary64 (get_or logs k nan)))
    {number : ℕ} {after : Slices} {info : List ℕ} where
  numbered : outcome_is number (lent after info) ≡ scaling_by_number choice m external logs s old → OneOf chooser_numbers number
  numbered e = subst (OneOf chooser_numbers) (sym (ap (λ (t : Outcome ℕ Lent). t.answer) e)) (scaling_listed choice m external logs s old).is

  -- the MC64 choice by its fault: with none, what the chooser leaves
  mc64_balances : (f : ℕ)
      → outcome_is number (lent after info) ≡ refusing as_number f (scaling_result_of (Chosen-of Mc64Symmetric m logs s) old) (lent s old)
      → (f ≡ 0 → choice_fault Mc64Symmetric m external logs s ≡ 0)
      → number ≡ 0 → get_or info 0 0 ≡ 0 → WholeLogs m logs → NoneHeld m.pattern.n (cache_of after) after.factors → Balanced m logs after.pairs.perm
      after.factors
  mc64_balances (suc f) e fine z i = let y : ⊥ = omega (arith, z, ap (λ (t : Outcome ℕ Lent). t.answer) e) in absurd y
  mc64_balances zero e fine z i =
      let o = compute_scaling Mc64Symmetric m external logs s in
      let is : o ≡ Chosen-of Mc64Symmetric m logs s = accepted_is m external logs s (fine refl) in
      let e' : outcome_is number (lent after info) ≡ scaling_result_of o old = e ∙ sym (ap (λ (x : Answered). scaling_result_of x old) is) in
      let answered : fault_of o.answer ≡ 0 = sym (ap (λ (t : Outcome ℕ Lent). t.answer) e') ∙ z in
      let told : get_or (info_of o.answer old) 0 0 ≡ 0 = sym (ap (λ (t : Outcome ℕ Lent). get_or t.after.info 0 0) e') ∙ i in
      let full : o.answer ≡ Ok Applied = mc64_applied m external logs s doubles old answered told in
      subst (λ (x : Slices). WholeLogs m logs → NoneHeld m.pattern.n (cache_of x) x.factors → Balanced m logs x.pairs.perm x.factors)
      (sym (ap (λ (t : Outcome ℕ Lent). t.after.slices) e'))
      (Choices.balances m external logs s doubles Mc64Symmetric refl refl full)

  balances : outcome_is number (lent after info) ≡ scaling_by_number choice m external logs s old → Balances choice m logs (outcome_is number (lent after info))
  unfolding scaling_by_number number_fault strategy_for
  balances e q =
      mc64_balances (cond (eqb (length old) 2) (choice_fault Mc64Symmetric m external logs s)
      (size_fault m.pattern.n max_symmetric (length m.pattern.row_idx) false))
      (subst (λ (x : ℕ). outcome_is number (lent after info) ≡ scaling_by_number x m external logs s old) q e) (fine (eqb (length old) 2))
    where
      fine : (fit : Bool) → cond fit (choice_fault Mc64Symmetric m external logs s)
          (size_fault m.pattern.n max_symmetric (length m.pattern.row_idx) false) ≡ 0
          → choice_fault Mc64Symmetric m external logs s ≡ 0
      fine true z = z
      fine false z = absurd (false≢true ((sizes_accepted m.pattern.n max_symmetric (length m.pattern.row_idx) false).0 z).2)

  -- the number and the factors' bound
  pub promised : outcome_is number (lent after info) ≡ scaling_by_number choice m external logs s old
      → ScalingPromises choice m external logs s old (outcome_is number (lent after info))
  promised e = record { outcome = e; number = numbered e; balanced = balances e }
