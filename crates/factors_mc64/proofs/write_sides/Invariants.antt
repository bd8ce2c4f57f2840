-- The loop of `write_sides`: the factors below i are those of the definition.
use Rattle.std.proofs.Common.{◌≡◌, get_or, take}
use lib.Ieee.{nan, binary64, sub}
use Rattle.factors_mc64.specs.Factors.{held, doubles_of}
use Rattle.factors_mc64.proofs.write_sides.Given as goal

abbrev pub invariant-loop-i : goal.invariant-loop-i
invariant-loop-i l =
    (take l.i l.rows ≡ doubles_of (λ j. held (get_or l.u j nan)) l.i)
    × (take l.i l.columns ≡ doubles_of (λ j. held (sub binary64 (get_or l.v j nan) (get_or l.cmax j nan))) l.i)
