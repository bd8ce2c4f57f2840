-- `is_far` meets its contract: its tests are the definition's, but for the sign of a zero.
use Rattle.std.proofs.Common.{rules}
use mathlib.Core.Path.{ap}
use mathlib.Core.Bool.{Bool, ◌&&◌}
use lib.Ieee.{lt}
use Rattle.float64.specs.Constants as Constants
use Rattle.infnorm_rounds.proofs.Far.{size_as_far}
use Rattle.infnorm_rounds.proofs.is_far.Statement.{statement}
use Rattle.infnorm_rounds.proofs.is_far.Tie as tie

size_of-requires : tie.Need-size_of-requires
size_of-requires c κs = search rules

returns : tie.Need-returns
returns c =
    let m = c.args.m in
    rw c.size_of.ensures (ap (λ (b : Bool). lt Constants.zero m && b) (size_as_far m))

pub is_far_spec : {M : Type 1} → statement M
is_far_spec =
    tie.close
    (tie.spec
    size_of-requires
    returns)
