-- Which numbers the call answers, for any input: those of the building, since neither the match nor the factors refuse.
use mathlib.Core.Path.{refl}
use mathlib.Core.List.{List}
use lib.Ieee.{Float}
use Rattle.refusal.specs.Number.{fault_of}
use Rattle.refusal.specs.Listed.{symmetric_graph_numbers}
use Rattle.sparse.specs.Matrix.{Matrix}
use Rattle.sparse.proofs.Listed.{Listed}
use Rattle.mc64.specs.Call.{ScalingSlices, symmetric_scaling}
use Rattle.mc64.proofs.Calling.{numbered}

pub scaling_listed : (m : Matrix) (logs : List Float) (l : ScalingSlices) → Listed symmetric_graph_numbers
    (fault_of (symmetric_scaling m logs l).answer)
scaling_listed m logs l = record { is = numbered m logs l refl }
