-- The search for a value that is not finite: the test of each place, and what its outcome means.
use mathlib.Core.Path.{◌≡◌}
use mathlib.Core.Bool.{Bool, cond}
use mathlib.Core.List.{List}
use mathlib.Core.Logic.{◌≢◌}
use Prim.Native.Nat.{ℕ, ◌≤◌}
use native.Mathlib.Omega.{arith}
use lib.Ieee.{Float, nan}
use lib.Ieee.Scale.{finite}
use lib.ListN.{length, get_or}
use Rattle.refusal.specs.Refusal.{value_not_finite}
use Rattle.sparse.proofs.Alike.{Tested, test_ends}
use Rattle.whole_graphs.specs.Graphs.{finite_fault}

pub some : value_not_finite ≢ 0
some e = let z : ⊥ = omega arith in absurd z

abbrev pub fine : List Float → ℕ → Bool
fine values k = finite (get_or values k nan)

pub ends : (values : List Float) (b : Bool) (k : ℕ) → length values ≤ k
    → Tested (fine values) value_not_finite (length values) some b k → finite_fault values ≡ cond b 0 value_not_finite
unfolding finite_fault
ends values = test_ends (fine values) value_not_finite (length values) some
