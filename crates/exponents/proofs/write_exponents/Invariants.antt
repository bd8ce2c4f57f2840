-- `write_exponents`: whatever list the closure gives, the exponents before i are those of its factors, if no factor has a fault.
use Rattle.std.proofs.Common.{◌≡◌, List, Float, length, take, map}
use Rattle.exponents.specs.Exponent.{exponent_of}
use Rattle.exponents.specs.Call.{factors_fault}
use Rattle.exponents.specs.inner.Steps.{Gives}
use Rattle.exponents.proofs.write_exponents.Given as goal

abbrev pub invariant-loop-i : goal.invariant-loop-i
invariant-loop-i g l =
    (u : List Float) → length u ≡ length l.exponents → Gives (goal.F-post g l.factor) u → factors_fault u ≡ 0
    → take l.i l.exponents ≡ take l.i (map exponent_of u)
