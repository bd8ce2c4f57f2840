-- Which numbers the two calls answer, for any input: those of `csc::validate`, from the tests of the fault; and what the calls promise, from the
-- number answered and what is left.
use mathlib.Core.Path.{◌≡◌, refl, sym, ap, subst}
use mathlib.Core.Bool.{Bool, ◌&&◌}
use mathlib.Core.List.{List}
use Prim.Native.Nat.{ℕ, zero, suc}
use lib.Dec.{eqb}
use lib.Ieee.{Float}
use lib.ListN.{length}
use Rattle.limits.specs.Limits.{max_symmetric}
use Rattle.refusal.specs.Listed.{listed, OneOf, symmetric_numbers}
use Rattle.slices.specs.Outcome.{Outcome, outcome_is, as_number, refusing}
use Rattle.sparse.specs.Matrix.{Matrix}
use Rattle.sparse.proofs.Listed.{Listed, or_listed, within, part}
use Rattle.sparse.proofs.Theorems.{size_numbers, sizes_listed, symmetric_listed}
use Rattle.infnorm_factors.specs.Factors.{onepass_factors}
use Rattle.infnorm.specs.Call.{lengths_fit, input_fault, compute_infnorm, compute_onepass, Slices, slices, iterated}
use Rattle.infnorm.specs.Call.{InfnormPromises, OnepassPromises}

pub input_listed : (m : Matrix) (lengths : Bool) → Listed symmetric_numbers (input_fault m lengths)
unfolding listed within input_fault
input_listed m lengths =
    or_listed (part size_numbers (sizes_listed m.pattern.n max_symmetric (length m.pattern.row_idx) lengths) refl) (symmetric_listed m)

module _ (m : Matrix) (factors : List Float) where
  pub infnorm_listed : (work : List Float) → Listed symmetric_numbers (compute_infnorm m factors work).answer
  unfolding compute_infnorm iterated
  infnorm_listed work = let fit = lengths_fit m factors && eqb (length work) m.pattern.n in go (input_fault m fit) (input_listed m fit)
    where
      go : (fault : ℕ) → Listed symmetric_numbers fault → Listed symmetric_numbers (refusing as_number fault (iterated m) (slices factors work)).answer
      go zero p = p
      go (suc fault) p = p

  pub onepass_listed : Listed symmetric_numbers (compute_onepass m factors).answer
  unfolding compute_onepass
  onepass_listed = let fit = lengths_fit m factors in go (input_fault m fit) (input_listed m fit)
    where
      go : (fault : ℕ) → Listed symmetric_numbers fault → Listed symmetric_numbers (refusing as_number fault (outcome_is 0 (onepass_factors m)) factors).answer
      go zero p = p
      go (suc fault) p = p

  -- ---- the promises
  pub infnorm_promised : (work : List Float) {r : ℕ} {after cleared : List Float} → outcome_is r (slices after cleared) ≡ compute_infnorm m factors work
      → InfnormPromises m factors work r after cleared
  infnorm_promised work {r} e =
      let number : r ≡ (compute_infnorm m factors work).answer = ap (λ (o : Outcome ℕ Slices). o.answer) e in
      record { outcome = e; number = subst (OneOf symmetric_numbers) (sym number) (infnorm_listed work).is }

  pub onepass_promised : {r : ℕ} {after : List Float} → outcome_is r after ≡ compute_onepass m factors → OnepassPromises m factors r after
  onepass_promised {r} e =
      let number : r ≡ (compute_onepass m factors).answer = ap (λ (o : Outcome ℕ (List Float)). o.answer) e in
      record { outcome = e; number = subst (OneOf symmetric_numbers) (sym number) onepass_listed.is }
