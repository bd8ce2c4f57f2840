-- The search for a log out of range: the test of each place, and what its outcome means.
use mathlib.Core.Path.{◌≡◌}
use mathlib.Core.Bool.{Bool, cond}
use mathlib.Core.List.{List}
use mathlib.Core.Logic.{◌≢◌}
use Prim.Native.Nat.{ℕ, ◌≤◌}
use native.Mathlib.Omega.{arith}
use lib.Ieee.{Float, nan}
use lib.ListN.{length, get_or}
use Rattle.refusal.specs.Refusal.{cost_range}
use Rattle.sparse.proofs.Alike.{Tested, test_ends}
use Rattle.mc64_general.specs.Call.{log_fits, logs_fault}

pub some : cost_range ≢ 0
some e = let z : ⊥ = omega arith in absurd z

abbrev pub fits : ℕ → List Float → List Float → ℕ → Bool
fits n values logs k = log_fits n (get_or values k nan) (get_or logs k nan)

pub ends : (n : ℕ) (values logs : List Float) (fine : Bool) (k : ℕ) → length values ≤ k
    → Tested (fits n values logs) cost_range (length values) some fine k → logs_fault n values logs ≡ cond fine 0 cost_range
unfolding logs_fault
ends n values logs = test_ends (fits n values logs) cost_range (length values) some
