-- The clauses of the chooser's contract from its outcome: the fault and the number of the answer, and for the MC64 choice what `compute_symmetric`
-- promises of its factors.
use Rattle.std.proofs.Common.{Result, Ok, Err}
use mathlib.Core.Path.{◌≡◌, refl, sym, ap, ◌∙◌, subst}
use mathlib.Core.Bool.{Bool, true, false, cond}
use mathlib.Core.List.{List}
use Prim.Native.Nat.{ℕ, zero, suc, ◌-◌, ◌<◌}
use native.Mathlib.Omega.{arith}
use lib.Dec.{T, eqb}
use lib.Ieee.{Float, nan, binary64, fits}
use lib.ListN.{length, get_or}
use Rattle.refusal.specs.Listed.{OneOf, chooser_numbers}
use Rattle.refusal.specs.Number.{fault_of}
use Rattle.slices.specs.Outcome.{outcome_is, Outcome, refusing}
use Rattle.sparse.specs.Matrix.{Matrix}
use Rattle.hungarian.specs.Match.{hungarian_match}
use Rattle.factors_mc64.specs.declared.Scaled.{Scaled}
use Rattle.factors_mc64.specs.declared.Scaled.TheVariants as scaled
use Rattle.factors_balance.specs.Balance.{NoneHeld, Balanced}
use Rattle.mc64.specs.Call as Mc64
use Rattle.mc64.proofs.Calling as Calling
use Rattle.scaling.specs.declared.ScalingStrategy.{ScalingStrategy}
use Rattle.scaling.specs.declared.ScalingStrategy.TheVariants.{Mc64Symmetric}
use Rattle.scaling.specs.declared.Scaling.{Scaling}
use Rattle.scaling.specs.declared.Scaling.TheVariants.{Applied}
use Rattle.scaling.specs.Choice.{Slices, slices, of_answer, compute_scaling, choice_fault, cache_of, Balances, info_of, mc64_slices, chosen}
use Rattle.scaling.specs.Choice.{Promises}
use Rattle.scaling.proofs.Choices.{choice_number, by_mc64, mc64_is}
use Rattle.scaling.proofs.Theorems.{scaling_listed}

-- ---- what the factors of the MC64 choice are good for
scaled_applied : (a : Result Scaled ℕ) → of_answer a ≡ Ok Applied → a ≡ Ok scaled.Applied
scaled_applied (Ok scaled.Applied) e = refl
scaled_applied (Ok (scaled.PartialSingular unmatched)) e = let z : ◌≡◌ {A = ℕ} 0 1 = cc in absurd (omega arith)
scaled_applied (Err fault) e = let z : ◌≡◌ {A = ℕ} 0 1 = cc in absurd (omega arith)

module _ (m : Matrix) (external logs : List Float) (s : Slices) (doubles : (k : ℕ) → k < length logs → T (fits binary64 (get_or logs k nan))) where
  pub balances : (strategy : ScalingStrategy) {r : Result Scaling ℕ} {after : Slices} → outcome_is r after ≡ compute_scaling strategy m external logs s
      → Balances strategy m logs r after
  balances strategy {r} {after} e q applied whole =
      let l = mc64_slices s in
      let o = Mc64.symmetric_scaling m logs l in
      let e' : outcome_is r after ≡ by_mc64 m external logs s o =
      subst (λ (x : ScalingStrategy). outcome_is r after ≡ compute_scaling x m external logs s) q e ∙ sym (mc64_is m external logs s) in
      let left : after ≡ slices o.after.scaled.factors s.maxima o.after.graph o.after.pairs o.after.scaled.work =
      ap (λ (x : Outcome (Result Scaling ℕ) Slices). x.after) e' in
      let full : o.answer ≡ Ok scaled.Applied = scaled_applied o.answer (sym (ap (λ (x : Outcome (Result Scaling ℕ) Slices). x.answer) e') ∙ applied) in
      subst (λ (x : Slices). NoneHeld m.pattern.n (cache_of x) x.factors → Balanced m logs x.pairs.perm x.factors) (sym left)
      ((Calling.promised m logs l doubles refl).balanced full whole)

  -- where 0 is answered and the info begins with 0, every column is matched
  pub mc64_applied : (old : List ℕ) → let a = (compute_scaling Mc64Symmetric m external logs s).answer in
      fault_of a ≡ 0 → get_or (info_of a old) 0 0 ≡ 0 → a ≡ Ok Applied
  unfolding compute_scaling choice_fault chosen Mc64.scaled
  mc64_applied old = by_fault (Mc64.scaling_fault m logs (mc64_slices s))
    where
      full : (b : Bool) (unmatched : ℕ) → get_or (info_of (of_answer (Ok (cond b scaled.Applied (scaled.PartialSingular unmatched)))) old) 0 0 ≡ 0
          → of_answer (Ok (cond b scaled.Applied (scaled.PartialSingular unmatched))) ≡ Ok Applied
      full true unmatched i = refl
      full false unmatched i = absurd (omega (arith, i))

      by_fault : (fault : ℕ) → let a = (refusing Err fault (chosen Mc64Symmetric m logs s) s).answer in
          fault_of a ≡ 0 → get_or (info_of a old) 0 0 ≡ 0 → a ≡ Ok Applied
      by_fault zero e i = full (eqb (hungarian_match (Mc64.symmetric_graph m logs)).matched m.pattern.n)
          (m.pattern.n - (hungarian_match (Mc64.symmetric_graph m logs)).matched) i
      by_fault (suc fault) e i = absurd (omega (arith, e))

  -- the fault, the number and the factors' bound
  pub promised : (strategy : ScalingStrategy) {r : Result Scaling ℕ} {after : Slices} → outcome_is r after ≡ compute_scaling strategy m external logs s
      → Promises strategy m external logs s r after
  promised strategy {r} {after} e =
      let number : fault_of r ≡ fault_of (compute_scaling strategy m external logs s).answer =
      ap (λ (o : Outcome (Result Scaling ℕ) Slices). fault_of o.answer) e in
      record {
        outcome = e;
        answered = number ∙ choice_number m external logs s strategy;
        number = subst (OneOf chooser_numbers) (sym number) (scaling_listed m external logs s strategy).is;
        balanced = balances strategy e;
      }
