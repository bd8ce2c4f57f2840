-- A fault found with nothing changed, or no fault and the factors filled in, is what the definition has.
use mathlib.Core.Path.{◌≡◌, ap}
use mathlib.Core.List.{List}
use mathlib.Core.Logic.{◌≢◌}
use Prim.Native.Nat.{ℕ}
use lib.Ieee.{Float}
use Rattle.slices.specs.Outcome.{outcome_is, as_number, refusing}
use Rattle.slices.proofs.Refusing.{refused_is, done_is}

pub filled_refused : {found fault : ℕ} (new old : List Float) → found ≡ fault → found ≢ 0 → outcome_is found old ≡ refusing as_number fault (outcome_is 0 new) old
filled_refused new old e h = refused_is as_number (outcome_is 0 new) old e h

pub filled_done : {fault : ℕ} {left : List Float} (new old : List Float) → fault ≡ 0 → left ≡ new → outcome_is 0 left ≡ refusing as_number fault
    (outcome_is 0 new) old
filled_done new old e l = done_is as_number (outcome_is 0 new) old e (ap (outcome_is 0) l)
