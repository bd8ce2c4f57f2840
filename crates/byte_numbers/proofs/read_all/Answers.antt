-- Each value that is read goes behind those before it.
use Rattle.std.proofs.Common.{arith}
use Rattle.byte_numbers.proofs.Words.{fill_none, fill_more}
use Rattle.byte_numbers.proofs.read_all.Goals as goal

pub loop-i-init : goal.loop-i-init
loop-i-init g c = fill_none _ c.args.out.now

pub loop-i-preserved : goal.loop-i-preserved
loop-i-preserved g c =
    rw (c.loop-i.invariant, c.get.ensures, c.WIDTH.ensures) (fill_more _ c.args.out.now c.loop-i.i (omega arith))
