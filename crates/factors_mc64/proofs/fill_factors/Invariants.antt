-- The loop of `fill_factors`: the factors below i are those of the definition.
use Rattle.std.proofs.Common.{◌≡◌, take}
use Rattle.matching.specs.Match.{match_of}
use Rattle.factors_mc64.specs.Factors.{factor_at, doubles_of}
use Rattle.factors_mc64.proofs.fill_factors.Given as goal

abbrev pub invariant-loop-i : goal.invariant-loop-i
invariant-loop-i l = take l.i l.factors ≡ doubles_of (factor_at l.n (match_of l.perm l.u l.v l.cmax)) l.i
