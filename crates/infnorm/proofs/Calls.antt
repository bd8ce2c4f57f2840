-- The calls: the tests establish what the steps require, and an answer with what is left is the definition's outcome.
use mathlib.Core.Path.{◌≡◌, refl, ap, ap₂, ◌∙◌}
use mathlib.Core.Bool.{Bool, true, ◌&&◌}
use mathlib.Core.List.{List, map}
use mathlib.Core.Logic.{◌≢◌}
use Prim.Native.Nat.{ℕ, ◌+◌}
use borrow.Author.Tests.{eqb-true}
use lib.Dec.{eqb}
use lib.Ieee.{Float}
use lib.ListN.{length, replicate}
use Rattle.limits.specs.Limits.{max_symmetric}
use Rattle.slices.specs.Outcome.{outcome_is, as_number}
use Rattle.slices.proofs.Refusing.{refused_is, done_is}
use Rattle.float64.specs.Constants as Constants
use Rattle.sparse.specs.Validate.{size_fault}
use Rattle.sparse.proofs.First.{or-zero}
use Rattle.slices.proofs.Bools.{both}
use Rattle.sparse.proofs.Accepted.{sizes_accepted, symmetric_accepted}
use Rattle.sparse.specs.Matrix.{Matrix}
use Rattle.infnorm_factors.specs.Maxima.{row_maxima}
use Rattle.infnorm_factors.specs.Factors.{own_sizes, inv_sqrt_scale_guarded, rounds, infnorm_factors, onepass_factors}
use Rattle.infnorm.specs.Call.{lengths_fit, input_fault, compute_infnorm, compute_onepass, slices, iterated}
use Rattle.infnorm_maxima.specs.inner.Steps.{Accepted}

-- ---- an input without a fault
module _ (m : Matrix) (lengths : Bool) (e : input_fault m lengths ≡ 0) where
  pub matrix_accepted : Accepted m
  unfolding input_fault
  matrix_accepted =
      let a = (symmetric_accepted m).0 (or-zero (size_fault m.pattern.n max_symmetric (length m.pattern.row_idx) lengths) _ e).1 in
      record { sizes = a.0; columns = a.1.0 }

  lengths_accepted : lengths ≡ true
  unfolding input_fault
  lengths_accepted = ((sizes_accepted m.pattern.n max_symmetric (length m.pattern.row_idx) lengths).0
      (or-zero (size_fault m.pattern.n max_symmetric (length m.pattern.row_idx) lengths) _ e).0).2

factors_fit : (m : Matrix) (factors : List Float) → lengths_fit m factors ≡ true → length factors ≡ m.pattern.n
unfolding lengths_fit
factors_fit m factors e =
    let p = both (eqb (length m.pattern.col_ptr) (m.pattern.n + 1)) _ e in
    eqb-true (length factors) m.pattern.n (both (eqb (length m.values) (length m.pattern.row_idx)) _ p.1).1

-- ---- iterated
infnorm_is_lem : (m : Matrix) {ones after : List Float} → ones ≡ replicate m.pattern.n Constants.one → after ≡ rounds 10 m ones → after ≡ infnorm_factors m
unfolding infnorm_factors
infnorm_is_lem m o a = a ∙ ap (rounds 10 m) o

module _ (m : Matrix) (factors work : List Float) where
  abbrev pub infnorm_lengths : Bool
  infnorm_lengths = lengths_fit m factors && eqb (length work) m.pattern.n

  abbrev pub infnorm_fault : ℕ
  infnorm_fault = input_fault m infnorm_lengths

  pub infnorm_fault_lem : {found : ℕ} {fit : Bool} → found ≡ input_fault m (fit && eqb (length work) m.pattern.n) → fit ≡ lengths_fit m factors
      → found ≡ infnorm_fault
  infnorm_fault_lem e f = e ∙ ap (λ (t : Bool). input_fault m (t && eqb (length work) m.pattern.n)) f

  pub infnorm_room : infnorm_fault ≡ 0 → (length factors ≡ m.pattern.n) × (length work ≡ m.pattern.n)
  infnorm_room e =
      let p = both (lengths_fit m factors) _ (lengths_accepted m infnorm_lengths e) in
      (factors_fit m factors p.0, eqb-true (length work) m.pattern.n p.1)

  pub infnorm_refused : {found : ℕ} → found ≡ infnorm_fault → found ≢ 0 → outcome_is found (slices factors work) ≡ compute_infnorm m factors work
  unfolding compute_infnorm
  infnorm_refused e z = refused_is as_number (iterated m) (slices factors work) e z

  pub infnorm_done : {ones after cleared : List Float} {room : ℕ} → infnorm_fault ≡ 0 → ones ≡ replicate (length factors) Constants.one
      → after ≡ rounds 10 m ones
      → room ≡ length work → cleared ≡ replicate room Constants.zero → outcome_is 0 (slices after cleared) ≡ compute_infnorm m factors work
  unfolding compute_infnorm iterated
  infnorm_done e o a r w =
      let f = infnorm_is_lem m (o ∙ ap (λ (k : ℕ). replicate k Constants.one) (infnorm_room e).0) a in
      let c = w ∙ ap (λ (k : ℕ). replicate k Constants.zero) (r ∙ (infnorm_room e).1) in
      done_is as_number (iterated m) (slices factors work) e (ap₂ (λ (a b : List Float). outcome_is 0 (slices a b)) f c)

-- ---- one-pass
module _ (m : Matrix) (factors : List Float) where
  abbrev pub onepass_fault : ℕ
  onepass_fault = input_fault m (lengths_fit m factors)

  pub onepass_fault_lem : {found : ℕ} {fit : Bool} → found ≡ input_fault m fit → fit ≡ lengths_fit m factors → found ≡ onepass_fault
  onepass_fault_lem e f = e ∙ ap (input_fault m) f

  pub onepass_room : onepass_fault ≡ 0 → length factors ≡ m.pattern.n
  onepass_room e = factors_fit m factors (lengths_accepted m (lengths_fit m factors) e)

  pub onepass_refused : {found : ℕ} → found ≡ onepass_fault → found ≢ 0 → outcome_is found factors ≡ compute_onepass m factors
  unfolding compute_onepass
  onepass_refused e z = refused_is as_number (outcome_is 0 (onepass_factors m)) factors e z

  pub onepass_done : {maxima after : List Float} → onepass_fault ≡ 0 → maxima ≡ row_maxima (own_sizes m.values) m → after ≡ map inv_sqrt_scale_guarded maxima
      → outcome_is 0 after ≡ compute_onepass m factors
  unfolding compute_onepass onepass_factors
  onepass_done e x a = rw (a, x, e) refl
