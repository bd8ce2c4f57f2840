-- `hungarian_path::walk`: one more pair is flipped, and the walk ends at the root or after the last step, by Flips.
use Rattle.std.proofs.Common.{inl, inr, arith}
use Rattle.std.proofs.Math.ListN.{length-set}
use Rattle.hungarian_path.proofs.Flips.{walk_start, there, walk_turn, walk_end}
use Rattle.hungarian_path.proofs.walk.Goals as goal

pub loop-init : goal.loop-init
loop-init c = walk_start c.args.most _ (omega arith) c.requires

pub bounds-row_idx-entry : goal.bounds-row_idx-entry
bounds-row_idx-entry c = (there c.loop.invariant c.if-work-n.false).1

pub bounds-work-n-in-loop-3 : goal.bounds-work-n-in-loop-3
bounds-work-n-in-loop-3 c = simp length-set (omega (arith, there c.loop.invariant c.if-work-n.false))

pub loop-preserved : goal.loop-preserved
loop-preserved c = walk_turn c.loop.invariant c.if-work-n.false _ (omega arith)

pub returns-after-loop : goal.returns-after-loop
returns-after-loop c = walk_end c.loop.invariant (inl (omega arith))

pub returns-then-work-n : goal.returns-then-work-n
returns-then-work-n c = walk_end c.loop.invariant (inr c.if-work-n.true)
