-- What the match and the factors of a graph require and leave.
use Rattle.std.specs.Prelude.{◌≡◌, List, Float, length}
use Rattle.hungarian.specs.Graph.{CostGraph}
use Rattle.hungarian.specs.Match.{hungarian_match}
use Rattle.hungarian_match.specs.Call as Match
use Rattle.hungarian_match.specs.inner.Steps.{Solvable}
use Rattle.factors_mc64.specs.declared.Scaled.{Scaled}
use Rattle.factors_mc64.specs.Calls as Factors
use Rattle.mc64.specs.Call.{pairs_left, factors_left}

-- an accepted graph, the largest log of each column, and slices of their lengths
pub record Ready (g : CostGraph) (cmax : List Float) (pairs : Match.Slices) (scaled : Factors.Slices) : Type 0 where
  pub solvable : Solvable g pairs
  pub largest : length cmax ≡ g.pattern.n
  pub factors : length scaled.factors ≡ g.pattern.n
  pub marks : length scaled.work ≡ g.pattern.n

pub record Scales (g : CostGraph) (cmax : List Float) (before after : Match.Slices) (factored : Factors.Slices)
    (answer : Scaled) : Type 0 where
  pub answered : answer ≡ Factors.applied_or_partial g.pattern.n (hungarian_match g).matched
  pub pairs : after ≡ pairs_left g before
  pub scaled : factored ≡ factors_left g cmax
