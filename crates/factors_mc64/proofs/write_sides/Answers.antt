-- `write_sides`: one more factor of each side is the definition's, and in the end all are.
use Rattle.std.proofs.Common.{refl, arith}
use Rattle.factors_mc64.specs.Factors.{doubles_of}
use Rattle.factors_mc64.proofs.Loops.{fill_goes_on, fill_ends}
use Rattle.factors_mc64.proofs.write_sides.Goals as goal

pub loop-i-init : goal.loop-i-init
unfolding doubles_of
loop-i-init c = (refl, refl)

pub loop-i-preserved : goal.loop-i-preserved
loop-i-preserved c = (
  fill_goes_on _ _ c.loop-i.i _ (omega arith) c.hold.ensures c.loop-i.invariant.0,
  fill_goes_on _ _ c.loop-i.i _ (omega arith) c.hold-in-loop-i.ensures c.loop-i.invariant.1,
)

pub returns : goal.returns
returns c = record {
  rows_after = fill_ends _ _ _ c.loop-i.i (omega arith) (omega arith) c.loop-i.invariant.0;
  columns_after = fill_ends _ _ _ c.loop-i.i (omega arith) (omega arith) c.loop-i.invariant.1;
}
