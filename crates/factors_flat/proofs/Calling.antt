-- The call by the flat rule: the tests establish what the steps require; a refusal leaves what was lent.
use mathlib.Core.Path.{◌≡◌, refl, ap, ◌∙◌}
use mathlib.Core.Logic.{◌≢◌}
use mathlib.Core.Bool.{Bool, true}
use Prim.Native.Nat.{ℕ, ◌+◌, ◌≤◌}
use native.Mathlib.Omega.{arith}
use borrow.Author.Tests.{eqb-true}
use lib.Dec.{eqb}
use lib.ListN.{length, replicate}
use Rattle.std.specs.Prelude.{Ok, Err}
use Rattle.limits.specs.Limits.{max_symmetric}
use Rattle.slices.specs.Outcome.{outcome_is}
use Rattle.slices.proofs.Bools.{both}
use Rattle.slices.proofs.Refusing.{refused_is}
use Rattle.sparse.specs.Fault.{or_else}
use Rattle.sparse.specs.Validate.{size_fault, symmetric_fault}
use Rattle.sparse.proofs.First.{or-zero, or-none}
use Rattle.sparse.proofs.Accepted.{sizes_accepted}
use Rattle.mc64_symmetric.specs.Call.{values_fault, input_fault}
use Rattle.mc64_symmetric.proofs.Calling.{triangle_of}
use Rattle.factors_mc64.specs.declared.Scaled.{Scaled}
use Rattle.factors_mc64.specs.Calls.{Slices, slices, lengths, matching_fault, log_factors_fault, applied_or_partial}
use Rattle.factors_mc64.specs.inner.Steps.{Accepted}
use Rattle.factors_mc64.proofs.Outcomes as Outcomes
use Rattle.factors_flat.specs.Flat.{Input, columns, flat_factors}
use Rattle.factors_flat.specs.Call.{flat_lengths, flat_fault, flat_outcome, flat_scaled}
use Rattle.factors_flat.specs.inner.Steps.{Ready}

-- a fit of all lengths has as many logs as values
pub logs_fit : (g : Input) (s : Slices) → flat_lengths g s ≡ true → (length g.logs ≡ length g.stored.pattern.row_idx)
    × (length g.stored.values ≡ length g.stored.pattern.row_idx) × (lengths (columns g) g.pairs s ≡ true)
unfolding flat_lengths
logs_fit g s t =
    let p = both (eqb (length g.stored.pattern.col_ptr) (columns g + 1)) _ t in
    let v = both (eqb (length g.stored.values) (length g.stored.pattern.row_idx)) _ p.1 in
    let l = both (eqb (length g.logs) (length g.stored.pattern.row_idx)) (lengths (columns g) g.pairs s) v.1 in
    (eqb-true _ _ l.0, eqb-true _ _ v.0, l.1)

module _ (matched : ℕ) (g : Input) (s : Slices) where
  pub fault_is : {found : ℕ} {fit : Bool} → found ≡ or_else (input_fault g.stored g.logs fit)
      (matching_fault (columns g) matched g.pairs.perm) → fit ≡ flat_lengths g s → found ≡ flat_fault matched g s
  fault_is e f = e ∙ ap (λ (b : Bool). or_else (input_fault g.stored g.logs b) (matching_fault (columns g) matched g.pairs.perm)) f

  pub refuses : {found : ℕ} → found ≡ flat_fault matched g s → found ≢ 0 → outcome_is (Err found) s ≡ flat_outcome matched g s
  unfolding flat_outcome
  refuses e z = refused_is Err (flat_scaled matched g) s e z

  module _ (fine : flat_fault matched g s ≡ 0) where
    tests : (input_fault g.stored g.logs (flat_lengths g s) ≡ 0) × (matching_fault (columns g) matched g.pairs.perm ≡ 0)
    tests = or-zero (input_fault g.stored g.logs (flat_lengths g s)) _ fine

    parts : (size_fault (columns g) max_symmetric (length g.stored.pattern.row_idx) (flat_lengths g s) ≡ 0)
        × (symmetric_fault g.stored ≡ 0)
        × (values_fault (columns g) g.stored.values g.logs ≡ 0)
    unfolding input_fault
    parts =
        let z = or-zero (size_fault (columns g) max_symmetric (length g.stored.pattern.row_idx) (flat_lengths g s)) _ tests.0 in
        let y = or-zero (symmetric_fault g.stored) _ z.1 in
        (z.0, y.0, y.1)

    sized : (columns g ≤ 4096) × (length g.stored.pattern.row_idx ≤ max_symmetric) × (flat_lengths g s ≡ true)
    sized = (sizes_accepted (columns g) max_symmetric (length g.stored.pattern.row_idx) (flat_lengths g s)).0 parts.0

    pub values_fine : values_fault (columns g) g.stored.values g.logs ≡ 0
    values_fine = parts.2

    pub values_stored : length g.stored.values ≡ length g.stored.pattern.row_idx
    values_stored = (logs_fit g s sized.2).1

    -- then the identity rule accepts the call too
    pub identity_fine : log_factors_fault (columns g) matched g.pairs s ≡ 0
    identity_fine = or-none ((sizes_accepted (columns g) 0 0 (lengths (columns g) g.pairs s)).1 (sized.0, omega arith, (logs_fit g s sized.2).2))
        ∙ tests.1

    pub accepted : Accepted (columns g) g.pairs s
    accepted = Outcomes.accepted (columns g) matched g.pairs s identity_fine

    pub few_matched : matched ≤ columns g
    few_matched = Outcomes.few_matched (columns g) matched g.pairs s identity_fine

    pub ready : Ready g.stored g.logs
    ready =
        record { triangle = triangle_of g.stored parts.1; logged = (logs_fit g s sized.2).0 }

    pub applies : {answer : Scaled} {after : Slices} → answer ≡ applied_or_partial (columns g) matched → after ≡ slices (flat_factors g) (replicate (columns g) 0)
        → outcome_is (Ok answer) after ≡ flat_outcome matched g s
    unfolding flat_outcome
    applies a f = rw (a, f, fine) refl
