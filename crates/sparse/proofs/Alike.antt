-- A loop that looks for a fault where all faults have one number, without a way out: what the search is worth after k places, whether or not one failed.
use mathlib.Core.Path.{◌≡◌, refl, ◌∙◌}
use mathlib.Core.Bool.{Bool, true, false, cond, ◌&&◌}
use mathlib.Core.Logic.{◌≢◌}
use Prim.Native.Nat.{ℕ, suc, ◌+◌, ◌-◌, ◌<◌, ◌≤◌}
use native.Mathlib.Nat.{sub-zero}
use native.Mathlib.Numerals.{add-one}
use native.Mathlib.Omega.{arith}
use Rattle.sparse.specs.Fault.{unless, or_else, first_of}
use Rattle.sparse.proofs.First.{or_some}

module _ (test : ℕ → Bool) (number count : ℕ) (some : number ≢ 0) where
  -- the fault of place k
  abbrev fault : ℕ → ℕ
  fault k = unless (test k) number

  abbrev pub Tested : Bool → ℕ → Type 0
  Tested fine k = first_of count fault 0 ≡ cond fine (first_of (count - k) fault k) number

  pub test_begins : Tested true 0
  test_begins = rw sub-zero refl

  pub test_goes_on : (fine : Bool) (k : ℕ) → k < count → Tested fine k → Tested (fine && test k) (k + 1)
  unfolding first_of
  test_goes_on false k h t = t
  test_goes_on true k h t = t ∙ go (test k) refl
    where
      turn : (m : ℕ) → m ≡ suc (count - (k + 1)) → first_of m fault k ≡ or_else (fault k) (first_of (count - (k + 1)) fault (suc k))
      turn m e = rw e refl

      go : (r : Bool) → test k ≡ r → first_of (count - k) fault k ≡ cond r (first_of (count - (k + 1)) fault (k + 1)) number
      go true e = turn (count - k) (omega arith) ∙ rw (e, add-one k) refl
      go false e = turn (count - k) (omega arith) ∙ rw e (or_some number _ some)

  pub test_ends : (fine : Bool) (k : ℕ) → count ≤ k → Tested fine k → first_of count fault 0 ≡ cond fine 0 number
  unfolding first_of
  test_ends false k h t = t
  test_ends true k h t = t ∙ done (count - k) (omega arith)
    where
      done : (m : ℕ) → m ≡ 0 → first_of m fault k ≡ 0
      done m e = rw e refl
